-- In a copy behind a dirty end each live mirror but the first is to be replaced by a target, or leaves with it (RFC 8435, section 8.3).
use Rattle.std.proofs.Common.{◌≡◌, ℕ, zero, suc, ◌+◌, ◌⊎◌, Bool, true, false, ltb, cond, ◌&&◌, not, List, [], ◌∷◌, ◌++◌, map, set, drop, Option, Some, None, is_some, refl, sym, ap, subst, ◌∙◌, inl, inr}
use Rattle.std.specs.Prelude.{slice_get}
use Rattle.std.specs.List.{AllByRecursion, flat_map}
use Rattle.std.proofs.lemmas.Bool.{cond_both}
use Rattle.std.proofs.lemmas.Option.{same_Some}
use Rattle.cluster_model.specs.declared.ids.MirrorId.{MirrorId}
use Rattle.cluster_model.specs.declared.ids.Mirror.{Mirror}
use Rattle.cluster_model.specs.declared.phase.LeftCause.{LeftCause}
use Rattle.cluster_model.specs.declared.phase.LeftCause.TheVariants.{Error, Timeouts}
use Rattle.cluster_model.specs.declared.call_stage.CallStage.{CallStage}
use Rattle.cluster_model.specs.declared.call_stage.CallStage.TheVariants.{Waits, Out, KeptOut, KeptBack, Done, GivenUp}
use Rattle.cluster_model.specs.declared.targets.SwappedIn.{SwappedIn}
use Rattle.cluster_model.specs.Journal.{is_mirror}
use Rattle.cluster_model.specs.Phases.{ids_of, but_for, is_source, put_if, in_place, with_targets}
use Rattle.cluster_model.specs.DsCalls.{DsReplyValue, Created, Set, Written, Committed, Bytes, NotSync, Failed}
use Rattle.cluster_model.specs.Fences.{is_out, is_over, odd_status}
use Rattle.copy_rule.specs.Copies.{CopyState, CopyAfter, TargetStep, is_given_up, at_stage, goes_on_with, target_fails, create_answered, write_answered, target_answered, target_late, stage_for, to_write, to_make, with_target, with_read, with_piece, with_next, have_answered, swap_of, goes_on, step_told, copy_then, stranger, source_fails, is_long, read_answered, read_late, target_of, step_at, step_from, by_read}
use Rattle.copy_rule.specs.declared.copy_target.CopyTarget.{CopyTarget}
use Rattle.copy_rule.specs.declared.copy_target.CopyStep.{CopyStep}
use Rattle.copy_rule.specs.declared.copy_target.CopyStep.TheVariants as copy_step
use Rattle.file_rule.specs.MdsFiles.{replacing}
use Rattle.file_rule.specs.FilePhases.{FileInput, Answers, TimesOut, Ticks}
use Rattle.cluster_laws.proofs.Lives.{itself}
use Rattle.machine_walk.proofs.StepKinds.{lost_by, copy_turned}

-- a target that is not given up replaces the mirror
pub record IsToReplace (x : CopyTarget) (id : MirrorId) : Type 0 where
  pub replaces : x.replaced ≡ Some id
  pub up : is_given_up x.stage ≡ false

abbrev pub IsReplaced : List CopyTarget → MirrorId → Type 0
IsReplaced [] id = ⊥
IsReplaced (x ∷ targets) id = IsToReplace x id ⊎ IsReplaced targets id

-- it is covered still, or it was lost
abbrev pub OrLost : List CopyTarget → CopyStep → MirrorId → Type 0
OrLost targets step id = IsReplaced targets id ⊎ (lost_by step ≡ Some id)

abbrev pub KeepsOrLoses : CopyTarget → TargetStep → Type 0
KeepsOrLoses x y = (id : MirrorId) → IsToReplace x id → IsToReplace y.target id ⊎ (lost_by y.step ≡ Some id)

pub covered_map : (f : CopyTarget → CopyTarget) (id : MirrorId) → ((x : CopyTarget) → IsToReplace x id → IsToReplace (f x) id) → (targets : List CopyTarget) → IsReplaced targets id → IsReplaced (map f targets) id
covered_map f id keeps [] h = h
covered_map f id keeps (x ∷ targets) (inl h) = inl (keeps x h)
covered_map f id keeps (x ∷ targets) (inr h) = inr (covered_map f id keeps targets h)

pub covered_set : (L : Type 0) (y x : CopyTarget) (id : MirrorId) → (IsToReplace x id → IsToReplace y id ⊎ L) → (targets : List CopyTarget) (place : ℕ) → slice_get targets place ≡ Some x → IsReplaced targets id → IsReplaced (set targets place y) id ⊎ L
covered_set L y x id keeps [] place is h = absurd h
covered_set L y x id keeps (z ∷ targets) zero is (inl h) =
    elim (keeps (subst (λ (k : CopyTarget). IsToReplace k id) (same_Some z x is) h)) [
      | inl k ↦ inl (inl k)
      | inr l ↦ inr l
    ]
covered_set L y x id keeps (z ∷ targets) zero is (inr h) = inl (inr h)
covered_set L y x id keeps (z ∷ targets) (suc place) is (inl h) = inl (inl h)
covered_set L y x id keeps (z ∷ targets) (suc place) is (inr h) =
    elim (covered_set L y x id keeps targets place is h) [
      | inl k ↦ inl (inr k)
      | inr l ↦ inr l
    ]

-- ---- one target

fails_or : (x : CopyTarget) (cause : LeftCause) → KeepsOrLoses x (target_fails x cause)
fails_or x cause id h = inr h.replaces

created_or : (x : CopyTarget) (reply : DsReplyValue) → KeepsOrLoses x (create_answered x reply)
created_or x (Created fileid shown) id h = inl (record { replaces = h.replaces; up = refl })
created_or x (Set shown) id h = fails_or x (Error odd_status) id h
created_or x (Written shown verifier) id h = fails_or x (Error odd_status) id h
created_or x (Committed shown verifier) id h = fails_or x (Error odd_status) id h
created_or x (Bytes shown eof bytes) id h = fails_or x (Error odd_status) id h
created_or x (NotSync shown) id h = fails_or x (Error odd_status) id h
created_or x (Failed status shown) id h = fails_or x (Error status) id h

written_or : (x : CopyTarget) (reply : DsReplyValue) → KeepsOrLoses x (write_answered x reply)
written_or x (Created fileid shown) id h = fails_or x (Error odd_status) id h
written_or x (Set shown) id h = fails_or x (Error odd_status) id h
written_or x (Written shown verifier) id h = inl (record { replaces = h.replaces; up = refl })
written_or x (Committed shown verifier) id h = fails_or x (Error odd_status) id h
written_or x (Bytes shown eof bytes) id h = fails_or x (Error odd_status) id h
written_or x (NotSync shown) id h = fails_or x (Error odd_status) id h
written_or x (Failed status shown) id h = fails_or x (Error status) id h

answered_or : (x : CopyTarget) (reply : DsReplyValue) (made : Option Mirror) → KeepsOrLoses x (target_answered x reply made)
answered_or x reply None = created_or x reply
answered_or x reply (Some m) = written_or x reply

late_or : (x : CopyTarget) (stage : CallStage) → KeepsOrLoses x (target_late x stage)
late_or x Waits = λ id h. inl h
late_or x (Out xid timeouts) = cond_both (ltb (timeouts + 1) 3) (goes_on_with (at_stage x (Out xid (timeouts + 1)))) (target_fails x Timeouts) (KeepsOrLoses x) (λ e id h. inl (record { replaces = h.replaces; up = refl })) (λ e. fails_or x Timeouts)
late_or x (KeptOut xid) = λ id h. inl h
late_or x KeptBack = λ id h. inl h
late_or x Done = λ id h. inl h
late_or x GivenUp = λ id h. inl h

stage_up : (bytes : List ℕ) → is_given_up (stage_for bytes) ≡ false
stage_up [] = refl
stage_up (b ∷ bytes) = refl

writes_on : (bytes : List ℕ) (id : MirrorId) (x : CopyTarget) → IsToReplace x id → IsToReplace (to_write bytes x) id
writes_on bytes id x h = cond_both (is_given_up x.stage) x (at_stage x (stage_for bytes)) (λ (y : CopyTarget). IsToReplace y id) (λ e. h) (λ e. record { replaces = h.replaces; up = stage_up bytes })

-- ---- a copy

told_same : (c : CopyState) (step : CopyStep) (id : MirrorId) → lost_by step ≡ Some id → lost_by (step_told c step) ≡ Some id
told_same c copy_step.Stranger id e = absurd cc
told_same c copy_step.Waiting id e = absurd cc
told_same c (copy_step.SourceFailed cause) id e = absurd cc
told_same c (copy_step.TargetFailed server replaced cause) id e = e
told_same c copy_step.Done id e = absurd cc

goes_targets : (c : CopyState) → (goes_on c).targets ≡ c.targets
goes_targets c = cond_both (is_over c.read && not c.ended && have_answered c) (with_next c) c (λ (k : CopyState). k.targets ≡ c.targets) (λ e. refl) (λ e. refl)

module _ (c : CopyState) (id : MirrorId) (h : IsReplaced c.targets id) where
  abbrev Or : CopyAfter → Type 0
  Or r = OrLost r.copy.targets r.step id

  then_or : (k : CopyState) (step : CopyStep) → OrLost k.targets step id → Or (copy_then k step)
  then_or k step (inl g) = inl (subst (λ (ts : List CopyTarget). IsReplaced ts id) (sym (goes_targets k)) g)
  then_or k step (inr e) = inr (told_same k step id e)

  from_or : (step : CopyTarget → TargetStep) → ((x : CopyTarget) → KeepsOrLoses x (step x)) → (xid : ℕ) (reads : CopyAfter) → Or reads → (found : Option ℕ) → Or (step_from c step (by_read c xid reads) found)
  from_or step keeps xid reads ok None = cond_both (is_out xid c.read) reads (stranger c) Or (λ e. ok) (λ e. inl h)
  from_or step keeps xid reads ok (Some place) = at_place (slice_get c.targets place) refl
    where
      at_place : (got : Option CopyTarget) → slice_get c.targets place ≡ got → Or (step_at c step place got)
      at_place None is = inl h
      at_place (Some x) is = then_or (with_target c place (step x).target) (step x).step (covered_set (lost_by (step x).step ≡ Some id) (step x).target x id (keeps x id) c.targets place is h)

  read_or : (reply : DsReplyValue) → Or (read_answered c reply)
  read_or (Created fileid shown) = inl h
  read_or (Set shown) = inl h
  read_or (Written shown verifier) = inl h
  read_or (Committed shown verifier) = inl h
  read_or (Bytes shown eof bytes) =
      cond_both (is_long c bytes) (source_fails c KeptBack (Error odd_status)) (copy_then (with_piece c eof bytes) copy_step.Waiting) Or (λ e. inl h)
      (λ e. then_or (with_piece c eof bytes) copy_step.Waiting (inl (covered_map (to_write bytes) id (writes_on bytes id) c.targets h)))
  read_or (NotSync shown) = inl h
  read_or (Failed status shown) = inl h

  late_read_or : (stage : CallStage) → Or (read_late c stage)
  late_read_or Waits = inl h
  late_read_or (Out xid timeouts) = cond_both (ltb (timeouts + 1) 3) (record { copy = with_read c (Out xid (timeouts + 1)); step = copy_step.Waiting }) (source_fails c (KeptOut xid) Timeouts) Or (λ e. inl h) (λ e. inl h)
  late_read_or (KeptOut xid) = inl h
  late_read_or KeptBack = inl h
  late_read_or Done = inl h
  late_read_or GivenUp = inl h

  pub turn_or : (input : FileInput) → Or (copy_turned input c)
  turn_or (Answers xid reply) = from_or (λ x. target_answered x reply x.made) (λ x. answered_or x reply x.made) xid (read_answered c reply) (read_or reply) (target_of c xid)
  turn_or (TimesOut xid) = from_or (λ x. target_late x x.stage) (λ x. late_or x x.stage) xid (read_late c c.read) (late_read_or c.read) (target_of c xid)
  turn_or Ticks = inl h
  turn_or _ = inl h

-- ---- the mirrors but the first

abbrev pub AllReplaced : (MirrorId → Type 0) → List CopyTarget → List MirrorId → Type 0
AllReplaced L targets [] = Unit {0}
AllReplaced L targets (id ∷ ids) = (IsReplaced targets id ⊎ L id) × AllReplaced L targets ids

-- those behind the first one
abbrev pub AreReplaced : (MirrorId → Type 0) → List CopyTarget → List MirrorId → Type 0
AreReplaced L targets [] = Unit {0}
AreReplaced L targets (id ∷ ids) = AllReplaced L targets ids

abbrev pub NoneLost : MirrorId → Type 0
NoneLost id = ⊥

-- ---- what a copy's end makes of them

pub record IsOldOf (o : SwappedIn) (id : MirrorId) : Type 0 where
  pub old : o.old ≡ Some id

abbrev pub IsSwappedOut : List SwappedIn → MirrorId → Type 0
IsSwappedOut [] id = ⊥
IsSwappedOut (o ∷ targets) id = IsOldOf o id ⊎ IsSwappedOut targets id

out_more : (a b : List SwappedIn) (id : MirrorId) → IsSwappedOut a id → IsSwappedOut (a ++ b) id
out_more [] b id h = absurd h
out_more (o ∷ a) b id (inl h) = inl h
out_more (o ∷ a) b id (inr h) = inr (out_more a b id h)

out_behind : (a b : List SwappedIn) (id : MirrorId) → IsSwappedOut b id → IsSwappedOut (a ++ b) id
out_behind [] b id h = h
out_behind (o ∷ a) b id h = inr (out_behind a b id h)

-- of each target that is not given up: it was made
pub swapped_out : (id : MirrorId) (targets : List CopyTarget) → AllByRecursion (λ (x : CopyTarget). is_given_up x.stage ≡ false → is_some x.made ≡ true) targets → IsReplaced targets id → IsSwappedOut (flat_map (λ (x : CopyTarget). swap_of x x.made) targets) id
swapped_out id [] made h = absurd h
swapped_out id (x ∷ targets) made (inl h) = out_more (swap_of x x.made) (flat_map (λ (y : CopyTarget). swap_of y y.made) targets) id (one x.made (made.0 h.up))
  where
    one : (m : Option Mirror) → is_some m ≡ true → IsSwappedOut (swap_of x m) id
    one None e = absurd cc
    one (Some m) e = inl (record { old = h.replaces })
swapped_out id (x ∷ targets) made (inr h) = out_behind (swap_of x x.made) (flat_map (λ (y : CopyTarget). swap_of y y.made) targets) id (swapped_out id targets made.1 h)

-- with each swap a mirror that is to go is in its place no more
module _ (Good : MirrorId → Type 0) where
  abbrev GoodOr : List SwappedIn → Mirror → Type 0
  GoodOr targets m = Good m.id ⊎ IsSwappedOut targets m.id

  pushed_good : (o : SwappedIn) (targets : List SwappedIn) (live : List Mirror) → Good o.new.id → o.old ≡ None → AllByRecursion (GoodOr (o ∷ targets)) live → AllByRecursion (GoodOr targets) (live ++ o.new ∷ [])
  pushed_good o targets [] good none h = (inl good, tt)
  pushed_good o targets (m ∷ live) good none h = (one h.0, pushed_good o targets live good none h.1)
    where
      wrong : (id : MirrorId) → None ≡ Some id → ⊥
      wrong id e = cc

      one : GoodOr (o ∷ targets) m → GoodOr targets m
      one (inl g) = inl g
      one (inr (inl k)) = absurd (wrong m.id (sym none ∙ k.old))
      one (inr (inr k)) = inr k

  put_good : (o : SwappedIn) (targets : List SwappedIn) (old : MirrorId) (live : List Mirror) → Good o.new.id → o.old ≡ Some old → AllByRecursion (GoodOr (o ∷ targets)) live → AllByRecursion (GoodOr targets) (map (put_if old o.new) live)
  put_good o targets old [] good is h = tt
  put_good o targets old (m ∷ live) good is h = (by_test (is_mirror m.id old) refl h.0, put_good o targets old live good is h.1)
    where
      wrong : false ≡ true → ⊥
      wrong e = cc

      by_test : (b : Bool) → is_mirror m.id old ≡ b → GoodOr (o ∷ targets) m → GoodOr targets (cond b o.new m)
      by_test true e k = inl good
      by_test false e (inl g) = inl g
      by_test false e (inr (inl k)) = absurd (wrong (sym e ∙ ap (λ (x : MirrorId). is_mirror m.id x) (same_Some old m.id (sym is ∙ k.old)) ∙ itself m.id))
      by_test false e (inr (inr k)) = inr k

  placed_good : (o : SwappedIn) (targets : List SwappedIn) (old : Option MirrorId) (live : List Mirror) → Good o.new.id → o.old ≡ old → AllByRecursion (GoodOr (o ∷ targets)) live → AllByRecursion (GoodOr targets) (in_place o old live)
  placed_good o targets None live good is h = pushed_good o targets live good is h
  placed_good o targets (Some old) live good is h = put_good o targets old live good is h

  all_good : (live : List Mirror) → AllByRecursion (GoodOr []) live → AllByRecursion (λ m. Good m.id) live
  all_good [] h = tt
  all_good (m ∷ live) h = (one h.0, all_good live h.1)
    where
      one : GoodOr [] m → Good m.id
      one (inl g) = g
      one (inr k) = absurd k

  pub swapped_good : (targets : List SwappedIn) (live : List Mirror) → AllByRecursion (λ (o : SwappedIn). Good o.new.id) targets → AllByRecursion (GoodOr targets) live → AllByRecursion (λ m. Good m.id) (with_targets targets live)
  swapped_good [] live good h = all_good live h
  swapped_good (o ∷ targets) live good h = swapped_good targets (in_place o o.old live) good.1 (placed_good o targets o.old live good.0 refl h)

-- ---- over a list

pub replaced_by : (L M : MirrorId → Type 0) (targets next : List CopyTarget) → ((id : MirrorId) → IsReplaced targets id ⊎ L id → IsReplaced next id ⊎ M id) → (ids : List MirrorId) → AllReplaced L targets ids → AllReplaced M next ids
replaced_by L M targets next g [] h = tt
replaced_by L M targets next g (id ∷ ids) h = (g id h.0, replaced_by L M targets next g ids h.1)

pub are_replaced_by : (L M : MirrorId → Type 0) (targets next : List CopyTarget) → ((id : MirrorId) → IsReplaced targets id ⊎ L id → IsReplaced next id ⊎ M id) → (ids : List MirrorId) → AreReplaced L targets ids → AreReplaced M next ids
are_replaced_by L M targets next g [] h = tt
are_replaced_by L M targets next g (id ∷ ids) h = replaced_by L M targets next g ids h

-- one of them leaves
without_lost : (targets : List CopyTarget) (L : MirrorId → Type 0) (gone : MirrorId) → ((id : MirrorId) → L id → gone ≡ id) → (live : List Mirror) → AllReplaced L targets (ids_of live) → AllReplaced NoneLost targets (ids_of (but_for gone live))
without_lost targets L gone only [] h = tt
without_lost targets L gone only (m ∷ live) h = by_test (without_lost targets L gone only live h.1) (is_mirror m.id gone) refl h.0
  where
    wrong : false ≡ true → ⊥
    wrong e = cc

    by_test : AllReplaced NoneLost targets (ids_of (but_for gone live)) → (b : Bool) → is_mirror m.id gone ≡ b → IsReplaced targets m.id ⊎ L m.id → AllReplaced NoneLost targets (ids_of (cond (not b) (m ∷ but_for gone live) (but_for gone live)))
    by_test rest true e k = rest
    by_test rest false e (inl k) = (inl k, rest)
    by_test rest false e (inr l) = absurd (wrong (sym e ∙ ap (λ (x : MirrorId). is_mirror m.id x) (only m.id l) ∙ itself m.id))

pub lost_replaced : (targets : List CopyTarget) (L : MirrorId → Type 0) (gone : MirrorId) → ((id : MirrorId) → L id → gone ≡ id) → (live : List Mirror) → is_source gone live ≡ false → AreReplaced L targets (ids_of live) → AreReplaced NoneLost targets (ids_of (but_for gone live))
lost_replaced targets L gone only [] other h = tt
lost_replaced targets L gone only (m ∷ live) other h =
    subst (λ (b : Bool). AreReplaced NoneLost targets (ids_of (cond (not b) (m ∷ but_for gone live) (but_for gone live)))) (sym other) (without_lost targets L gone only live h)

-- a copy that begins replaces each but the first
begun_each : (name : ℕ) (live : List Mirror) (front : List CopyTarget) → ((id : MirrorId) → IsReplaced (map to_make (replacing name live)) id → IsReplaced front id) → AllReplaced NoneLost front (ids_of live)
begun_each name [] front g = tt
begun_each name (m ∷ live) front g = (inl (g m.id (inl (record { replaces = refl; up = refl }))), begun_each (name + 1) live front (λ id k. g id (inr k)))

pub begun_replaced : (name : ℕ) (live : List Mirror) → AreReplaced NoneLost (map to_make (replacing name (drop 1 live))) (ids_of live)
begun_replaced name [] = tt
begun_replaced name (m ∷ live) = begun_each name live (map to_make (replacing name live)) (λ id k. k)
