-- What a handle names, and what a write is refused for.
use Rattle.std.proofs.Common.{◌≡◌, ◌≢◌, ℕ, zero, suc, ◌+◌, ◌-◌, ◌<◌, ◌≤◌, Bool, true, false, eqb, ltb, List, [], ◌∷◌, length, get_or, set, Option, Some, None, max, refl, sym, ap, ◌∙◌, arith, inl, inr}
use Rattle.std.specs.Prelude.{slice_get, not}
use Rattle.std.proofs.lemmas.Bool.{ltb-false, le-ltb, eq-eqb, false≢true}
use Rattle.std.proofs.lemmas.Bool.Decides.{nat_tests}
use Rattle.std.proofs.lemmas.Option.{slice_get_cases, slice_get_within, get_or_from_slice_get}
use Rattle.std.proofs.lemmas.List.Sums.{sum_by-set, get_or-le-sum_by}
use Rattle.cluster_model.specs.declared.tick.Tick.{Tick}
use Rattle.cluster_model.specs.Ticks.{next_tick}
use Rattle.cluster_model.specs.Content.{overlay}
use Rattle.cluster_model.specs.File.{StoredFile, shown, taken}
use Rattle.cluster_model.specs.Server.{file_at, named, total_size, Caller, may_write, max_total, max_file, max_ticks, Acces, Inval, Fbig, NoSpc, Jukebox, room_refusal, write_refusal}
use Rattle.cluster_model.proofs.Placing.{length-overlay}
use Rattle.cluster_model.proofs.Files.{shown-written}
use Rattle.cluster_model.proofs.Permitted.{stops, not_false}
use Rattle.ds_procedures.specs.declared.server_base.ServerBase.{ServerBase}
use Rattle.ds_procedures.specs.declared.object.Place.TheVariants as place
use Rattle.ds_procedures.specs.Objects.{object_by}
use Rattle.ds_procedures.specs.ServerBases.{IsAt, IsServer, server_of, size_refusal, write_refusal_by_sizes}
use Rattle.ds_procedures.specs.CodePlans.{HasRoom}

-- what a file is in the code and in the rule
pub found : (files : List StoredFile) (index : ℕ) → index < length files → IsAt files (place.File index) (object_by (file_at index (slice_get files index)))
found files index lt =
    elim (slice_get_cases files index).1 [
      | inl there ↦ (there.0, there.2, ap (λ (o : Option StoredFile). object_by (file_at index o)) there.2)
      | inr past ↦ absurd (omega arith)
    ]

-- a fileid from 2 on names the file at its place
pub named_file : (files : List StoredFile) (fileid : ℕ) → 2 ≤ fileid → fileid - 2 < length files → IsAt files (place.File (fileid - 2)) (object_by (named files fileid))
named_file files fileid two lt =
    let not_root : eqb fileid 1 ≡ false = grind (arith, nat_tests) in
    let not_low : ltb fileid 2 ≡ false = le-ltb _ _ two in
    rw (not_root, not_low) (found files (fileid - 2) lt)

-- the sizes after a write to one file
pub total_after : (files : List StoredFile) (index : ℕ) (f : StoredFile) (tick : Tick) (at : ℕ) (bytes : List ℕ) → slice_get files index ≡ Some f
    → total_size (set files index (taken f tick at bytes)) + length (shown f) ≡ total_size files + length (overlay (shown f) at bytes)
total_after files index f tick at bytes e =
    let lt = slice_get_within files index f e in
    let new = taken f tick at bytes in
    let one = sum_by-set (λ (g : StoredFile). length (shown g)) files index new f lt in
    let old : length (shown (get_or files index f)) ≡ length (shown f) = ap (λ (g : StoredFile). length (shown g)) (get_or_from_slice_get files index f f e) in
    let size : length (shown new) ≡ length (overlay (shown f) at bytes) = ap length (shown-written f tick at false bytes) in
    omega (arith, one, old, size)

-- no file is longer than all together
pub size_le_total : (files : List StoredFile) (index : ℕ) (f : StoredFile) → slice_get files index ≡ Some f → length (shown f) ≤ total_size files
size_le_total files index f e =
    let le = get_or-le-sum_by (λ (g : StoredFile). length (shown g)) files index f (slice_get_within files index f e) in
    let same : length (shown (get_or files index f)) ≡ length (shown f) = ap (λ (g : StoredFile). length (shown g)) (get_or_from_slice_get files index f f e) in
    omega (arith, le, same)

-- the refusal for want of room is that of the sizes
room_is : (h : ServerBase) (files : List StoredFile) (index : ℕ) (f : StoredFile) (at : ℕ) (bytes : List ℕ) → IsServer h files → slice_get files index ≡ Some f
    → size_refusal h.total h.clock (length (shown f)) at (length bytes) ≡ room_refusal (server_of h files) index f at bytes
room_is h files index f at [] k e = refl
room_is h files index f at (b ∷ bytes) k e =
    let after = total_after files index f (next_tick h.clock) at (b ∷ bytes) e in
    let size = length-overlay (shown f) at b bytes in
    let total : total_size (set files index (taken f (next_tick h.clock) at (b ∷ bytes))) ≡ h.total - length (shown f) + max (length (shown f)) (at + length (b ∷ bytes)) =
    omega (arith, after, size, k.total, size_le_total files index f e) in
    let nonempty : eqb (length (b ∷ bytes)) 0 ≡ false = grind (arith, nat_tests) in
    rw (nonempty, total) refl

-- the refusals of a write are those of the sizes
pub refusal_is : (h : ServerBase) (files : List StoredFile) (index : ℕ) (f : StoredFile) (caller : Caller) (agree : Bool) (at : ℕ) (bytes : List ℕ) → IsServer h files → slice_get files index ≡ Some f
    → write_refusal_by_sizes h.total h.clock f caller agree at bytes ≡ write_refusal (server_of h files) index f caller agree at bytes
refusal_is h files index f caller agree at bytes k e = rw (room_is h files index f at bytes k e) refl

-- there is room for a write that is not refused, and its arguments agree
room_by : (h : ServerBase) (size at len : ℕ) → h.clock.count ≤ max_ticks → size_refusal h.total h.clock size at len ≡ None → HasRoom h size at len
room_by h size at zero le e = record { short = λ lt. absurd (omega arith); room = λ lt. absurd (omega arith); tick = λ lt. absurd (omega arith) }
room_by h size at (suc n) le e =
    let nonempty : eqb (suc n) 0 ≡ false = grind (arith, nat_tests) in
    let a = stops (ltb max_file (at + suc n)) Fbig _ (rw nonempty at e) in
    let b = stops (ltb max_total (h.total - size + max size (at + suc n))) NoSpc _ a.1 in
    let c = stops (eqb h.clock.count max_ticks) Jukebox None b.1 in
    let other : h.clock.count ≢ max_ticks = λ same. false≢true (sym c.0 ∙ eq-eqb _ _ same) in
    record { short = λ lt. ltb-false _ _ a.0; room = λ lt. ltb-false _ _ b.0; tick = λ lt. omega (arith, le, other) }

pub record IsGranted (h : ServerBase) (size at len : ℕ) (agree : Bool) : Type 0 where
  pub agrees : agree ≡ true
  pub room : HasRoom h size at len

pub granted : (h : ServerBase) (f : StoredFile) (caller : Caller) (agree : Bool) (at : ℕ) (bytes : List ℕ) → h.clock.count ≤ max_ticks → write_refusal_by_sizes h.total h.clock f caller agree at bytes ≡ None → IsGranted h (length (shown f)) at (length bytes) agree
granted h f caller agree at bytes le e =
    let a = stops (not (may_write f caller)) Acces _ e in
    let b = stops (not agree) Inval _ a.1 in
    record { agrees = not_false _ b.0; room = room_by h (length (shown f)) at (length bytes) le b.1 }

-- what the code indexes is what the rule finds
pub same_file : (files : List StoredFile) (index : ℕ) (x f : StoredFile) → x ≡ get_or files index x → slice_get files index ≡ Some f → x ≡ f
same_file files index x f is e = is ∙ get_or_from_slice_get files index f x e
