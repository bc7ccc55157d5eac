-- What follows of what is done to a server by one who may: strangers, moments, and what the journal says.
use Rattle.std.proofs.Common.{◌≡◌, ◌≢◌, ℕ, ◌+◌, ◌≤◌, true, false, eqb, List, [], ◌∷◌, length, set, Option, Some, None, refl, sym, ap, subst, ◌∙◌, arith, ◌⊎◌, inl, inr}
use Rattle.std.specs.Prelude.{◌&&◌, slice_get}
use Rattle.std.proofs.lemmas.Bool.{cases_eq, or_cases, and_parts, eqb-true, eq-eqb, ne_eqb}
use Rattle.std.proofs.lemmas.List.{length-set}
use Rattle.std.proofs.lemmas.Option.{same_Some, slice_get_within}
use Rattle.cluster_model.specs.declared.ids.MirrorId.{MirrorId}
use Rattle.cluster_model.specs.declared.tick.Tick.{Tick}
use Rattle.cluster_model.specs.Ticks.{IsUpTo, next_tick}
use Rattle.cluster_model.specs.File.{StoredFile, FileOp, Writes, Commits, Sets, Restarts, file_after, clock_after, new_file}
use Rattle.cluster_model.specs.Journal.{Copy, no_copy, copy_by, is_mirror}
use Rattle.cluster_model.specs.Laws.{IsClocked, KeepsTimes}
use Rattle.cluster_model.specs.Server.{ServerState, Caller, may_write, allows, max_ticks, mirror_of, Effect, NoEffect, OnFile, NewFile, with_file, server_after, op_entries, entries_of}
use Rattle.cluster_model.specs.ServerLaws.{MayDo, IsPermitted, IsSafe, IsTimed, AreClocked, copy_of, TellsOld, TellsNew}
use Rattle.cluster_model.proofs.Moments.{keeps_times, up_to_up_to, up_to_same, before_up_to, next_before}
use Rattle.cluster_model.proofs.Elements.{slice_get-set_other, slice_get-set_same, slice_get-push, Pushed, Old, New, pushed}

-- ---- strangers

is_known : (f : StoredFile) (caller : Caller) → may_write f caller ≡ true → caller.uid ≢ 0 → caller.uid ≢ f.owner → ⊥
is_known f caller may not_root not_owner =
    elim (or_cases (eqb caller.uid 0) (eqb caller.uid f.owner && allows f.mode 128) may) [
      | inl root ↦ not_root (eqb-true _ _ root)
      | inr owner ↦ not_owner (eqb-true _ _ (and_parts _ _ owner).0)
    ]

is_let : (clock : Tick) (f : StoredFile) (caller : Caller) (op : FileOp) → MayDo clock f caller op → caller.uid ≢ 0 → caller.uid ≢ f.owner → ⊥
is_let clock f caller (Writes at synced []) may not_root not_owner = is_known f caller may not_root not_owner
is_let clock f caller (Writes at synced (b ∷ bytes)) may not_root not_owner = is_known f caller may.0 not_root not_owner
is_let clock f caller Commits may not_root not_owner = is_known f caller may not_root not_owner
is_let clock f caller (Sets c) may not_root not_owner = not_root may.0
is_let clock f caller (Restarts pieces) may not_root not_owner = may

pub safe : (s : ServerState) (caller : Caller) (effect : Effect) → IsPermitted s caller effect → (i : ℕ) (f : StoredFile) → IsSafe s caller i f (server_after s effect)
safe s caller NoEffect may i f there not_root not_owner = there
safe s caller (OnFile index op) may i f there not_root not_owner =
    let g = may.0 in
    rw may.1 (elim (cases_eq i index) [
      | inl same ↦ absurd (is_let s.clock g caller op may.2 not_root (subst (λ (x : StoredFile). caller.uid ≢ x.owner) (same_Some f g (sym there ∙ ap (slice_get s.files) same ∙ may.1)) not_owner))
      | inr other ↦ slice_get-set_other s.files index i (file_after g s.clock op) other ∙ there
    ])
safe s caller (NewFile name owner group mode) may i f there not_root not_owner = absurd (not_root may.0)

-- ---- moments

-- the last tick after what is done to a file: the same, or the next one, which was left
clock_by : (clock : Tick) (f : StoredFile) (caller : Caller) (op : FileOp) → MayDo clock f caller op → (clock_after clock op ≡ clock) ⊎ ((clock_after clock op ≡ next_tick clock) × (clock.count ≢ max_ticks))
clock_by clock f caller (Writes at synced []) may = inl refl
clock_by clock f caller (Writes at synced (b ∷ bytes)) may = inr (refl, may.1)
clock_by clock f caller Commits may = inl refl
clock_by clock f caller (Sets c) may = inr (refl, may.1)
clock_by clock f caller (Restarts pieces) may = absurd may

timed_file : (s : ServerState) (index : ℕ) (f : StoredFile) (clock : Tick) → (clock ≡ s.clock) ⊎ ((clock ≡ next_tick s.clock) × (s.clock.count ≢ max_ticks)) → IsTimed s (with_file s index f clock)
timed_file s index f clock (inl same) = rw same (record { number = refl; boot = refl; ticks = inl refl; bounded = λ h. h })
timed_file s index f clock (inr more) = let left = more.1 in rw more.0 (record { number = refl; boot = refl; ticks = inr refl; bounded = λ h. omega (arith, h, left) })

pub timed : (s : ServerState) (caller : Caller) (effect : Effect) → IsPermitted s caller effect → IsTimed s (server_after s effect)
timed s caller NoEffect may = record { number = refl; boot = refl; ticks = inl refl; bounded = λ h. h }
timed s caller (OnFile index op) may = rw may.1 (timed_file s index (file_after may.0 s.clock op) (clock_after s.clock op) (clock_by s.clock may.0 caller op may.2))
timed s caller (NewFile name owner group mode) may = let left = may.1 in record { number = refl; boot = refl; ticks = inr refl; bounded = λ h. omega (arith, h, left) }

-- a later tick is above the ctimes too
later : (f : StoredFile) (a b : Tick) → IsUpTo a b → IsClocked f a → IsClocked f b
later f a b h k = record { stable = k.stable; shown = up_to_up_to f.times.ctime a b k.shown h }

clocked_file : (s : ServerState) (index : ℕ) (f : StoredFile) (op : FileOp) → slice_get s.files index ≡ Some f → AreClocked s → AreClocked (with_file s index (file_after f s.clock op) (clock_after s.clock op))
clocked_file s index f op e k i g there =
    let after : KeepsTimes f s.clock op = keeps_times f s.clock op (k index f e) in
    let file = file_after f s.clock op in
    elim (cases_eq i index) [
      | inl same ↦ subst (λ (x : StoredFile). IsClocked x (clock_after s.clock op)) (same_Some file g (sym (slice_get-set_same s.files index f file e) ∙ sym (ap (slice_get (set s.files index file)) same) ∙ there)) after.clocked
      | inr other ↦ later g s.clock (clock_after s.clock op) after.ticks (k i g (sym (slice_get-set_other s.files index i file other) ∙ there))
    ]

pub clocked : (s : ServerState) (caller : Caller) (effect : Effect) → IsPermitted s caller effect → AreClocked s → AreClocked (server_after s effect)
clocked s caller NoEffect may k = k
clocked s caller (OnFile index op) may k = rw may.1 (clocked_file s index may.0 op may.1 k)
clocked s caller (NewFile name owner group mode) may k = λ i g there. by_place i g (pushed s.files file i g there)
  where
    file : StoredFile
    file = new_file owner group mode (next_tick s.clock)

    by_place : (i : ℕ) (g : StoredFile) → Pushed s.files file i g → IsClocked g (next_tick s.clock)
    by_place i g (Old old) = later g s.clock (next_tick s.clock) (before_up_to s.clock (next_tick s.clock) (next_before s.clock)) (k i g old)
    by_place i g (New at is) = rw is (record { stable = up_to_same (next_tick s.clock); shown = up_to_same (next_tick s.clock) })

-- ---- what the journal says

-- a mirror is itself, and no other
pub itself : (m : MirrorId) → is_mirror m m ≡ true
itself m = rw (eq-eqb m.server m.server refl, eq-eqb m.fileid m.fileid refl) refl

pub other_mirror : (s : ServerState) (i j : ℕ) → i ≢ j → is_mirror (mirror_of s i) (mirror_of s j) ≡ false
other_mirror s i j other =
    let files : eqb (i + 2) (j + 2) ≡ false = ne_eqb (i + 2) (j + 2) (λ e. other (omega (arith, e))) in
    rw (eq-eqb s.number s.number refl, files) refl

-- the entries of what is done to a file, at its own mirror
told_same : (m : MirrorId) (uid : ℕ) (f : StoredFile) (clock : Tick) (op : FileOp) (caller : Caller) → MayDo clock f caller op → copy_of (file_after f clock op) ≡ copy_by m (copy_of f) (op_entries m uid op)
told_same m uid f clock (Writes at false []) caller may = refl
told_same m uid f clock (Writes at true []) caller may = rw (itself m) refl
told_same m uid f clock (Writes at false (b ∷ bytes)) caller may = rw (itself m) refl
told_same m uid f clock (Writes at true (b ∷ bytes)) caller may = rw (itself m) refl
told_same m uid f clock Commits caller may = rw (itself m) refl
told_same m uid f clock (Sets c) caller may = owner_told c.owner
  where
    owner_told : (owner : Option ℕ) → copy_of (file_after f clock (Sets (record c { owner = owner }))) ≡ copy_by m (copy_of f) (op_entries m uid (Sets (record c { owner = owner })))
    owner_told None = refl
    owner_told (Some owner) = rw (itself m) refl
told_same m uid f clock (Restarts pieces) caller may = absurd may

-- and at another
pub told_other : (m n : MirrorId) (uid : ℕ) (c : Copy) (op : FileOp) → is_mirror m n ≡ false → copy_by n c (op_entries m uid op) ≡ c
told_other m n uid c (Writes at false []) other = refl
told_other m n uid c (Writes at true []) other = rw other refl
told_other m n uid c (Writes at false (b ∷ bytes)) other = rw other refl
told_other m n uid c (Writes at true (b ∷ bytes)) other = rw other refl
told_other m n uid c Commits other = rw other refl
told_other m n uid c (Sets a) other = owner_other a.owner
  where
    owner_other : (owner : Option ℕ) → copy_by n c (op_entries m uid (Sets (record a { owner = owner }))) ≡ c
    owner_other None = refl
    owner_other (Some owner) = rw other refl
told_other m n uid c (Restarts pieces) other = refl

old_file : (s : ServerState) (caller : Caller) (index : ℕ) (g : StoredFile) (op : FileOp) → slice_get s.files index ≡ Some g → MayDo s.clock g caller op
    → TellsOld s (with_file s index (file_after g s.clock op) (clock_after s.clock op)) (op_entries (mirror_of s index) caller.uid op)
old_file s caller index g op e may i f there =
    let file = file_after g s.clock op in
    elim (cases_eq i index) [
      | inl same ↦
          let f_is : g ≡ f = same_Some g f (sym e ∙ sym (ap (slice_get s.files) same) ∙ there) in
          let here : slice_get (set s.files index file) i ≡ Some file = ap (slice_get (set s.files index file)) same ∙ slice_get-set_same s.files index g file e in
          let told : copy_of file ≡ copy_by (mirror_of s index) (copy_of g) (op_entries (mirror_of s index) caller.uid op) = told_same (mirror_of s index) caller.uid g s.clock op caller may in
          (file, here, rw (same, ← f_is) told)
      | inr other ↦
          let here : slice_get (set s.files index file) i ≡ Some f = slice_get-set_other s.files index i file other ∙ there in
          (f, here, sym (told_other (mirror_of s index) (mirror_of s i) caller.uid (copy_of f) op (other_mirror s index i (λ e. other (sym e)))))
    ]

pub tells_old : (s : ServerState) (caller : Caller) (effect : Effect) → IsPermitted s caller effect → TellsOld s (server_after s effect) (entries_of s caller.uid effect)
tells_old s caller NoEffect may = λ i f there. (f, there, refl)
tells_old s caller (OnFile index op) may = rw may.1 (old_file s caller index may.0 op may.1 may.2)
tells_old s caller (NewFile name owner group mode) may = λ i f there.
    let less = slice_get_within s.files i f there in
    let away = other_mirror s (length s.files) i (λ e. absurd (omega (arith, e, less))) in
    (f, slice_get-push s.files i f (new_file owner group mode (next_tick s.clock)) there, rw away refl)

new_file_none : (s : ServerState) (index : ℕ) (file : StoredFile) (clock : Tick) (entries : List _) → TellsNew s (with_file s index file clock) entries
new_file_none s index file clock entries i g past there =
    let less = slice_get_within (set s.files index file) i g there in
    let size = length-set s.files index file in
    absurd (omega (arith, less, size, past))

pub tells_new : (s : ServerState) (caller : Caller) (effect : Effect) → IsPermitted s caller effect → TellsNew s (server_after s effect) (entries_of s caller.uid effect)
tells_new s caller NoEffect may = λ i g past there.
    let less = slice_get_within s.files i g there in
    absurd (omega (arith, less, past))
tells_new s caller (OnFile index op) may = rw may.1 (new_file_none s index (file_after may.0 s.clock op) (clock_after s.clock op) (op_entries (mirror_of s index) caller.uid op))
tells_new s caller (NewFile name owner group mode) may = λ i g past there. by_place i g past (pushed s.files file i g there)
  where
    file : StoredFile
    file = new_file owner group mode (next_tick s.clock)

    by_place : (i : ℕ) (g : StoredFile) → length s.files ≤ i → Pushed s.files file i g → copy_of g ≡ copy_by (mirror_of s i) no_copy (entries_of s caller.uid (NewFile name owner group mode))
    by_place i g past (Old old) = let less = slice_get_within s.files i g old in absurd (omega (arith, less, past))
    by_place i g past (New at is) = rw (is, at, itself (mirror_of s (length s.files))) refl
