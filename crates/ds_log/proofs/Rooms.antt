-- Whether there is room for ranges of bytes, and what they leave where there is.
use Rattle.std.proofs.Common.{append-nil, ◌≡◌, ℕ, ◌+◌, ◌-◌, ◌<◌, ◌≤◌, Bool, true, false, ◌&&◌, ltb, leb, cond, List, [], ◌++◌, length, get_or, set, Option, Some, None, Result, Ok, Err, refl, sym, ap, subst, ◌∙◌, arith}
use Rattle.std.specs.Prelude.{slice_get}
use Rattle.std.specs.List.{list_all}
use Rattle.std.proofs.lemmas.Bool.{and_parts, leb-true, ltb-false, le-ltb, cond_both}
use Rattle.std.proofs.lemmas.Bool.Decides.{nat_tests}
use Rattle.std.proofs.lemmas.List.Folds.{list_all-append}
use Rattle.std.proofs.lemmas.List.Sums.{sum_by-set}
use Rattle.std.proofs.lemmas.Option.{slice_get_read, slice_get_past}
use Rattle.ff_xdr.specs.declared.error.NoMemory.{NoMemory}
use Rattle.cluster_model.specs.declared.tick.Tick.{Tick}
use Rattle.cluster_model.specs.Content.{Pending, overlay_all}
use Rattle.cluster_model.specs.File.{StoredFile, shown}
use Rattle.cluster_model.specs.Server.{ServerState, total_size, max_total}
use Rattle.ds_procedures.specs.declared.server_base.ServerBase.{ServerBase}
use Rattle.ds_procedures.specs.ServerBases.{server_of}
use Rattle.ds_procedures.proofs.Places.{size_le_total}
use Rattle.ds_log.specs.Bodies.{HoldsBytes}
use Rattle.ds_log.specs.Durable.{holding, ends_in_file, at_fileid, on_stored, with_stored, applied}
use Rattle.ds_log.specs.Lasting.{IsLastingFile, IsLasting}
use Rattle.ds_log.specs.Applies.{held, end_by, has_room, Holds}
use Rattle.ds_log.proofs.HeldRanges.{shown_held, shown_stable, grows_on, end_is, held_lasts}

-- ---- whether there is room

some_of : (c : Bool) (last end : ℕ) → cond c (Some last) None ≡ Some end → (c ≡ true) × (last ≡ end)
some_of true last end e = (refl, cc)
some_of false last end e = absurd cc

none_of : (c : Bool) (last : ℕ) → cond c (Some last) None ≡ None → c ≡ false
none_of true last e = absurd cc
none_of false last e = refl

leb_moved : (a n m : ℕ) → a ≤ m → leb (a + n) m ≡ leb n (m - a)
leb_moved a n m le = grind (arith, nat_tests)

module _ (h : ServerBase) (f : StoredFile) (ctime : Tick) (ws : List Pending) (size : ℕ) (is : size ≡ length (shown f)) (settled : f.content.pending ≡ []) where
  ended : end_by size ws ≡ cond (list_all ends_in_file ws) (Some (length (overlay_all f.content.stable ws))) None
  ended =
      let whole = end_is (shown f) ws in
      ap (λ (n : ℕ). end_by n ws) is ∙ whole ∙ ap (λ (xs : List ℕ). cond (list_all ends_in_file ws) (Some (length (overlay_all xs ws))) None) (shown_stable f settled)

  pub room_none : end_by size ws ≡ None → has_room h f ctime ws ≡ false
  room_none e =
      let none : list_all ends_in_file ws ≡ false = none_of (list_all ends_in_file ws) (length (overlay_all f.content.stable ws)) (sym ended ∙ e) in
      rw none refl

  pub room_some : (end : ℕ) → end_by size ws ≡ Some end → length (shown f) ≤ h.total → h.total ≤ max_total → has_room h f ctime ws ≡ (leb end (max_total - (h.total - size)) && leb ctime.boot h.clock.boot)
  room_some end e part bounded =
      let p = some_of (list_all ends_in_file ws) (length (overlay_all f.content.stable ws)) end (sym ended ∙ e) in
      let moved : leb (h.total - length (shown f) + length (overlay_all f.content.stable ws)) max_total ≡ leb end (max_total - (h.total - size)) =
      leb_moved (h.total - length (shown f)) (length (overlay_all f.content.stable ws)) max_total (omega (arith, bounded))
      ∙ ap (λ (n : ℕ). leb n (max_total - (h.total - length (shown f)))) p.1
      ∙ ap (λ (n : ℕ). leb end (max_total - (h.total - n))) (sym is) in
      rw (p.0, moved) refl

-- what room is
pub record HasRoom (h : ServerBase) (f : StoredFile) (ctime : Tick) (ws : List Pending) : Type 0 where
  pub ends : list_all ends_in_file ws ≡ true
  pub room : h.total - length (shown f) + length (overlay_all f.content.stable ws) ≤ max_total
  pub begun : ctime.boot ≤ h.clock.boot

pub room_of : (h : ServerBase) (f : StoredFile) (ctime : Tick) (ws : List Pending) → has_room h f ctime ws ≡ true → HasRoom h f ctime ws
room_of h f ctime ws e =
    let total : Bool = leb (h.total - length (shown f) + length (overlay_all f.content.stable ws)) max_total in
    let p = and_parts (list_all ends_in_file ws && total) (leb ctime.boot h.clock.boot) e in
    let q = and_parts (list_all ends_in_file ws) total p.0 in
    record { ends = q.0; room = leb-true (h.total - length (shown f) + length (overlay_all f.content.stable ws)) max_total q.1; begun = leb-true ctime.boot h.clock.boot p.1 }

-- ---- what they leave

module _ (h : ServerBase) (f : StoredFile) (ctime : Tick) (ws : List Pending) (k : IsLastingFile h.clock.boot f) (free : has_room h f ctime ws ≡ true) where
  -- the first of the ranges are written
  pub record Fits (file : StoredFile) : Type 0 where
    pub lasts : IsLastingFile h.clock.boot file
    pub room : h.total - length (shown f) + length (shown file) ≤ max_total

  part_fits : (done rest : List Pending) → done ++ rest ≡ ws → Fits (held f ctime done)
  part_fits done rest parts =
      let r = room_of h f ctime ws free in
      let all : list_all ends_in_file (done ++ rest) ≡ true = ap (list_all ends_in_file) parts ∙ r.ends in
      let first = and_parts (list_all ends_in_file done) (list_all ends_in_file rest) (sym (list_all-append ends_in_file done rest) ∙ all) in
      let size : length (shown (held f ctime done)) ≡ length (overlay_all (shown f) done) = ap length (shown_held f ctime done) in
      let more = grows_on (shown f) done rest in
      let whole : length (overlay_all (shown f) (done ++ rest)) ≡ length (overlay_all f.content.stable ws) =
      ap (λ (vs : List Pending). length (overlay_all (shown f) vs)) parts ∙ ap (λ (xs : List ℕ). length (overlay_all xs ws)) (shown_stable f k.settled) in
      record { lasts = held_lasts h.clock.boot f ctime done k r.begun first.0; room = omega (arith, size, more, whole, r.room) }

  pub fits : (result : Result (Unit {0}) NoMemory) (file : StoredFile) → Holds f ctime ws result file → Fits file
  fits (Ok x) file made = subst (λ (g : StoredFile). Fits g) (sym made) (part_fits ws [] (append-nil ws))
  fits (Err e) file (done, rest, parts, made) = subst (λ (g : StoredFile). Fits g) (sym made) (part_fits done rest parts)

-- ---- what a body on a file comes to

pub at_none : (s : ServerState) (fileid : ℕ) (fits : StoredFile → Bool) (change : StoredFile → StoredFile) → (2 ≤ fileid → length s.files ≤ fileid - 2) → at_fileid s fileid fits change ≡ None
at_none s fileid fits change past =
    cond_both (ltb fileid 2) None (on_stored s (fileid - 2) (slice_get s.files (fileid - 2)) fits change) (λ (o : Option ServerState). o ≡ None)
    (λ low. refl)
    (λ high. ap (λ (o : Option StoredFile). on_stored s (fileid - 2) o fits change) (slice_get_past s.files (fileid - 2) (past (ltb-false fileid 2 high))))

pub at_some : (s : ServerState) (fileid index : ℕ) (f : StoredFile) (fits : StoredFile → Bool) (change : StoredFile → StoredFile) → 2 ≤ fileid → index ≡ fileid - 2 → slice_get s.files index ≡ Some f
    → at_fileid s fileid fits change ≡ cond (fits f) (Some (with_stored s index (change f))) None
at_some s fileid index f fits change two is there =
    let high : ltb fileid 2 ≡ false = le-ltb _ _ two in
    rw (high, ← is, there) refl

module _ (h : ServerBase) (files : List StoredFile) (fileid index : ℕ) (f : StoredFile) (mtime ctime : Tick) (ws : List Pending) (k : IsLasting h files) (two : 2 ≤ fileid) (is : index ≡ fileid - 2) (lt : index < length files) (at : f ≡ get_or files index f) where
  there : slice_get files index ≡ Some f
  there = slice_get_read files (length files) index f refl lt at

  -- the sizes together
  total_is : total_size (set files (fileid - 2) (holding f mtime ctime ws)) ≡ h.total - length (shown f) + length (overlay_all f.content.stable ws)
  total_is =
      let one = sum_by-set (λ (g : StoredFile). length (shown g)) files index (holding f mtime ctime ws) f lt in
      let old : length (shown (get_or files index f)) ≡ length (shown f) = ap (λ (g : StoredFile). length (shown g)) (sym at) in
      let part = size_le_total files index f there in
      let total : total_size (set files index (holding f mtime ctime ws)) ≡ h.total - length (shown f) + length (overlay_all f.content.stable ws) = omega (arith, one, old, part, k.server.total) in
      subst (λ (n : ℕ). total_size (set files n (holding f mtime ctime ws)) ≡ h.total - length (shown f) + length (overlay_all f.content.stable ws)) is total

  holds_is : applied (server_of h files) (HoldsBytes fileid mtime ctime ws) ≡ cond (has_room h f ctime ws) (Some (with_stored (server_of h files) index (holding f mtime ctime ws))) None
  holds_is =
      at_some (server_of h files) fileid index f (λ (g : StoredFile). list_all ends_in_file ws && leb (total_size (set files (fileid - 2) (holding g mtime ctime ws))) max_total && leb ctime.boot h.clock.boot) (λ (g : StoredFile). holding g mtime ctime ws) two is there
      ∙ ap (λ (n : ℕ). cond (list_all ends_in_file ws && leb n max_total && leb ctime.boot h.clock.boot) (Some (with_stored (server_of h files) index (holding f mtime ctime ws))) None) total_is

  pub holds_none : has_room h f ctime ws ≡ false → applied (server_of h files) (HoldsBytes fileid mtime ctime ws) ≡ None
  holds_none full = holds_is ∙ ap (λ (b : Bool). cond b (Some (with_stored (server_of h files) index (holding f mtime ctime ws))) None) full

  pub holds_some : (h' : ServerBase) (file : StoredFile) (total : ℕ) → has_room h f ctime ws ≡ true → h' ≡ record h { total = total } → file ≡ holding f mtime ctime ws
      → applied (server_of h files) (HoldsBytes fileid mtime ctime ws) ≡ Some (server_of h' (set files index file))
  holds_some h' file total room head made =
      holds_is ∙ ap (λ (b : Bool). cond b (Some (with_stored (server_of h files) index (holding f mtime ctime ws))) None) room
      ∙ (λ i. Some (server_of (sym head i) (set files index (sym made i))))
