-- Ranges of bytes that are put into a file, each behind the one before.
use Rattle.std.proofs.Common.{append-nil, map, ◌≡◌, ℕ, ◌+◌, ◌≤◌, Bool, true, false, ◌&&◌, eqb, cond, List, [], ◌∷◌, ◌++◌, length, Some, None, max, refl, sym, ap, subst, ◌∙◌, arith}
use Rattle.std.specs.List.{list_all}
use Rattle.std.proofs.lemmas.Bool.{and_parts, leb-true}
use Rattle.std.proofs.lemmas.Bool.Decides.{nat_tests}
use Rattle.std.proofs.lemmas.List.Folds.{list_all-append}
use Rattle.std.proofs.lemmas.List.{append_assoc}
use Rattle.ff_xdr.specs.declared.place.ItemsPlace.{ItemsPlace}
use Rattle.ff_xdr.specs.Form.{Value}
use Rattle.ff_xdr.specs.Items.{contents}
use Rattle.cluster_model.specs.declared.tick.Tick.{Tick}
use Rattle.cluster_model.specs.declared.change.Changes.{Changes}
use Rattle.cluster_model.specs.declared.change.NewTime.TheVariants.{Keep, At}
use Rattle.cluster_model.specs.Content.{Pending, overlay, overlay_all}
use Rattle.cluster_model.specs.File.{StoredFile, shown, written, set as set_attributes}
use Rattle.cluster_model.specs.Server.{max_file}
use Rattle.cluster_model.proofs.Placing.{length-overlay, length-overlay-le, length-overlay-ge}
use Rattle.cluster_model.proofs.Files.{shown-written}
use Rattle.ds_log.specs.declared.range.Range.{Range}
use Rattle.ds_log.specs.Bodies.{range_form, range_value, range_from}
use Rattle.ds_log.specs.PlainRanges.{plain_range}
use Rattle.ds_log.specs.PlainBodies.{plain_ranges}
use Rattle.ds_log.specs.Durable.{holding, ends_in_file}
use Rattle.ds_log.specs.Lasting.{IsLastingFile}
use Rattle.ds_log.specs.Applies.{held, then_end, end_by}

-- ---- what a file shows

pub shown_held : (f : StoredFile) (tick : Tick) (ws : List Pending) → shown (held f tick ws) ≡ overlay_all (shown f) ws
shown_held f tick [] = refl
shown_held f tick (w ∷ ws) = shown_held (written f tick w.at true w.bytes) tick ws ∙ ap (λ (xs : List ℕ). overlay_all xs ws) (shown-written f tick w.at true w.bytes)

-- with nothing pending it shows what is stable
pub shown_stable : (f : StoredFile) → f.content.pending ≡ [] → shown f ≡ f.content.stable
shown_stable f settled = ap (λ (ws : List Pending). overlay_all f.content.stable ws) settled

pub held_push : (f : StoredFile) (tick : Tick) (done : List Pending) (w : Pending) → held f tick (done ++ w ∷ []) ≡ written (held f tick done) tick w.at true w.bytes
held_push f tick [] w = refl
held_push f tick (v ∷ done) w = held_push (written f tick v.at true v.bytes) tick done w

-- ---- one range more is written

pub next_range : (old new : ItemsPlace Range) (r : Range) → contents range_form (λ (x : Range). range_value (plain_range x)) old ≡ range_value (plain_range r) ∷ contents range_form (λ (x : Range). range_value (plain_range x)) new
    → plain_ranges old ≡ plain_range r ∷ plain_ranges new
next_range old new r e = ap (λ (vs : List (Value range_form)). map range_from vs) e

pub next_ends : (done rest all : List Pending) (w : Pending) → done ++ w ∷ rest ≡ all → list_all ends_in_file all ≡ true → w.at + length w.bytes ≤ max_file
next_ends done rest all w parts ends =
    let whole : list_all ends_in_file (done ++ w ∷ rest) ≡ true = ap (list_all ends_in_file) parts ∙ ends in
    let p = and_parts (list_all ends_in_file done) (list_all ends_in_file (w ∷ rest)) (sym (list_all-append ends_in_file done (w ∷ rest)) ∙ whole) in
    leb-true (w.at + length w.bytes) max_file (and_parts (ends_in_file w) (list_all ends_in_file rest) p.1).0

-- the ranges that are written so far, and those that are left
pub record Written (f : StoredFile) (tick : Tick) (all left : List Pending) (now : StoredFile) : Type 0 where
  pub done : List Pending
  pub parts : done ++ left ≡ all
  pub is : now ≡ held f tick done

pub written_more : (f now next : StoredFile) (tick : Tick) (all rest : List Pending) (w : Pending) → Written f tick all (w ∷ rest) now → next ≡ written now tick w.at true w.bytes → Written f tick all rest next
written_more f now next tick all rest w so made = record {
  done = so.done ++ w ∷ [];
  parts = append_assoc so.done (w ∷ []) rest ∙ so.parts;
  is = made ∙ ap (λ (g : StoredFile). written g tick w.at true w.bytes) so.is ∙ sym (held_push f tick so.done w);
}

pub written_all : (f now : StoredFile) (tick : Tick) (all : List Pending) → Written f tick all [] now → now ≡ held f tick all
written_all f now tick all so = so.is ∙ ap (held f tick) (sym (append-nil so.done) ∙ so.parts)

-- ---- no range leaves fewer bytes

grows : (xs : List ℕ) (ws : List Pending) → length xs ≤ length (overlay_all xs ws)
grows xs [] = omega arith
grows xs (w ∷ ws) = omega (arith, length-overlay-ge xs w.at w.bytes, grows (overlay xs w.at w.bytes) ws)

pub grows_on : (xs : List ℕ) (done rest : List Pending) → length (overlay_all xs done) ≤ length (overlay_all xs (done ++ rest))
grows_on xs [] rest = grows xs rest
grows_on xs (w ∷ done) rest = grows_on (overlay xs w.at w.bytes) done rest

-- ---- where a file ends

size_after : (xs : List ℕ) (at : ℕ) (bytes : List ℕ) → cond (eqb (length bytes) 0) (length xs) (max (length xs) (at + length bytes)) ≡ length (overlay xs at bytes)
size_after xs at [] = refl
size_after xs at (b ∷ bytes) =
    let nonempty : eqb (length (b ∷ bytes)) 0 ≡ false = grind (arith, nat_tests) in
    rw nonempty (sym (length-overlay xs at b bytes))

joins : (b c : Bool) (end last : ℕ) (ws : List Pending) → end_by end ws ≡ cond c (Some last) None → then_end (cond b (Some end) None) (λ more. end_by more ws) ≡ cond (b && c) (Some last) None
joins true c end last ws h = h
joins false c end last ws h = refl

pub end_is : (xs : List ℕ) (ws : List Pending) → end_by (length xs) ws ≡ cond (list_all ends_in_file ws) (Some (length (overlay_all xs ws))) None
end_is xs [] = refl
end_is xs (w ∷ ws) =
    subst (λ (n : ℕ). then_end (cond (ends_in_file w) (Some n) None) (λ more. end_by more ws) ≡ cond (list_all ends_in_file (w ∷ ws)) (Some (length (overlay_all (overlay xs w.at w.bytes) ws))) None)
    (sym (size_after xs w.at w.bytes))
    (joins (ends_in_file w) (list_all ends_in_file ws) (length (overlay xs w.at w.bytes)) (length (overlay_all (overlay xs w.at w.bytes) ws)) ws (end_is (overlay xs w.at w.bytes) ws))

-- ---- a file that lasts

written_lasts : (boot : ℕ) (f : StoredFile) (tick : Tick) (at : ℕ) (bytes : List ℕ) → IsLastingFile boot f → tick.boot ≤ boot → at + length bytes ≤ max_file → IsLastingFile boot (written f tick at true bytes)
written_lasts boot f tick at [] k begun ends = record { settled = refl; times = refl; mode = k.mode; ctime = k.ctime; size = k.size }
written_lasts boot f tick at (b ∷ bytes) k begun ends = record {
  settled = refl;
  times = refl;
  mode = k.mode;
  ctime = begun;
  size = rw (shown-written f tick at true (b ∷ bytes)) (length-overlay-le (shown f) at (b ∷ bytes) max_file k.size ends);
}

pub held_lasts : (boot : ℕ) (f : StoredFile) (tick : Tick) (ws : List Pending) → IsLastingFile boot f → tick.boot ≤ boot → list_all ends_in_file ws ≡ true → IsLastingFile boot (held f tick ws)
held_lasts boot f tick [] k begun ends = k
held_lasts boot f tick (w ∷ ws) k begun ends =
    let p = and_parts (ends_in_file w) (list_all ends_in_file ws) ends in
    held_lasts boot (written f tick w.at true w.bytes) tick ws (written_lasts boot f tick w.at w.bytes k begun (leb-true (w.at + length w.bytes) max_file p.0)) begun p.1

-- ---- then its mtime is set

-- what a write leaves of the attributes
record Keeps (f g : StoredFile) : Type 0 where
  owner : g.owner ≡ f.owner
  group : g.group ≡ f.group
  mode : g.mode ≡ f.mode
  atime : g.times.atime ≡ f.times.atime

atime_written : (f : StoredFile) (tick : Tick) (at : ℕ) (bytes : List ℕ) → (written f tick at true bytes).times.atime ≡ f.times.atime
atime_written f tick at [] = refl
atime_written f tick at (b ∷ bytes) = refl

held_keeps : (f : StoredFile) (tick : Tick) (ws : List Pending) → Keeps f (held f tick ws)
held_keeps f tick [] = record { owner = refl; group = refl; mode = refl; atime = refl }
held_keeps f tick (w ∷ ws) =
    let rest = held_keeps (written f tick w.at true w.bytes) tick ws in
    record { owner = rest.owner; group = rest.group; mode = rest.mode; atime = rest.atime ∙ atime_written f tick w.at w.bytes }

held_content : (f : StoredFile) (tick : Tick) (ws : List Pending) → f.content.pending ≡ [] → (held f tick ws).content ≡ record { stable = overlay_all f.content.stable ws; pending = [] }
held_content f tick [] settled = λ i. record { stable = f.content.stable; pending = settled i }
held_content f tick (w ∷ ws) settled =
    let next = written f tick w.at true w.bytes in
    let stable : next.content.stable ≡ overlay f.content.stable w.at w.bytes = shown-written f tick w.at true w.bytes ∙ ap (λ (xs : List ℕ). overlay xs w.at w.bytes) (shown_stable f settled) in
    held_content next tick ws refl ∙ ap (λ (xs : List ℕ). record { stable = overlay_all xs ws; pending = [] }) stable

abbrev pub mtime_set : Tick → Changes
mtime_set mtime = record { owner = None; group = None; mode = None; atime = Keep; mtime = At mtime }

pub set_holds : (f : StoredFile) (mtime ctime : Tick) (ws : List Pending) → f.content.pending ≡ [] → set_attributes (held f ctime ws) ctime (mtime_set mtime) ≡ holding f mtime ctime ws
set_holds f mtime ctime ws settled =
    let k = held_keeps f ctime ws in
    let content = held_content f ctime ws settled in
    λ i. record {
      content = content i;
      owner = k.owner i;
      group = k.group i;
      mode = k.mode i;
      times = record { atime = k.atime i; mtime = mtime; ctime = ctime };
      stable_times = record { atime = k.atime i; mtime = mtime; ctime = ctime };
    }

pub set_lasts : (boot : ℕ) (g : StoredFile) (mtime ctime : Tick) → IsLastingFile boot g → ctime.boot ≤ boot → IsLastingFile boot (set_attributes g ctime (mtime_set mtime))
set_lasts boot g mtime ctime k begun = record { settled = k.settled; times = refl; mode = k.mode; ctime = begun; size = k.size }
