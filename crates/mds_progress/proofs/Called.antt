-- What a call that goes out leaves of the calls that are outstanding: it is one of them, and those that were stay.
use Rattle.std.proofs.Common.{◌≡◌, ℕ, zero, suc, Bool, true, false, List, [], ◌∷◌, Option, Some, None, refl, sym, ap, subst, ◌∙◌}
use Rattle.std.specs.Prelude.{◌==◌, ◌&&◌, ◌||◌, position, slice_get, slice_set, if◌then◌else◌}
use Rattle.std.specs.Option.{option_map}
use Rattle.std.specs.List.{list_any}
use Rattle.std.proofs.lemmas.Bool.{eq-eqb}
use Rattle.std.proofs.lemmas.List.Quantifiers.{position-Some}
use Rattle.std.proofs.lemmas.Option.{none-some, same_Some, get_or_from_slice_get}
use Rattle.cluster_model.specs.declared.ids.Mirror.{Mirror}
use Rattle.cluster_model.specs.declared.ids.FileId.{FileId}
use Rattle.cluster_model.specs.declared.limits.TheConstants.{PIECE_SIZE}
use Rattle.cluster_model.specs.declared.call_stage.CallStage.{CallStage}
use Rattle.cluster_model.specs.declared.call_stage.CallStage.TheVariants.{Waits, Out, KeptOut, KeptBack, Done, GivenUp}
use Rattle.cluster_model.specs.declared.fence_mirror.FenceMirror.{FenceMirror}
use Rattle.cluster_model.specs.DsCalls.{DsCallValue, Read}
use Rattle.cluster_model.specs.Fences.{waits, is_out, FenceState, with_stage, waiting_at, fence_call_at, call_from}
use Rattle.copy_rule.specs.declared.copy_target.CopyTarget.{CopyTarget}
use Rattle.copy_rule.specs.Copies.{CopyState, may_read_on}
use Rattle.copy_rule.specs.Copies as copy
use Rattle.file_rule.specs.declared.creation.Creation.{Creation}
use Rattle.file_rule.specs.MdsFiles.{Creations, Activity, Idle, Makes, Fences, Settles, Copies, MdsFile, in_stage}
use Rattle.file_rule.specs.FilePhases.{CallOut, creation_waiting, create_out_at, create_out, fence_out, settle_out, copy_out, call_out_of, call_out, is_outstanding_in, is_outstanding}

-- ---- lists and tests

pub not_both : false ≡ true → ⊥
not_both e = absurd cc

pub and_false : (b : Bool) → (b && false) ≡ false
and_false true = refl
and_false false = refl

pub both_true : (a b : ℕ) → ((a == a) && (b == b)) ≡ true
both_true a b = ap (λ x. x && (b == b)) (eq-eqb a a refl) ∙ eq-eqb b b refl

or_first : (a a' b : Bool) → (a ≡ true → a' ≡ true) → (a || b) ≡ true → (a' || b) ≡ true
or_first true a' b first is = ap (λ x. x || b) (first refl)
or_first false true b first is = refl
or_first false false b first is = is

or_second : (a b b' : Bool) → (b ≡ true → b' ≡ true) → (a || b) ≡ true → (a || b') ≡ true
or_second true b b' second is = refl
or_second false b b' second is = second is

pub or_left : (a b : Bool) → a ≡ true → (a || b) ≡ true
or_left a b is = ap (λ x. x || b) is

or_right : (a b : Bool) → b ≡ true → (a || b) ≡ true
or_right true b is = refl
or_right false b is = is

pub any_here : {X : Type 0} (test : X → Bool) (xs : List X) (i : ℕ) (x y : X) → slice_get xs i ≡ Some y → test x ≡ true → list_any test (slice_set xs i x) ≡ true
any_here test [] i x y at is = absurd (none-some y at)
any_here test (z ∷ xs) zero x y at is = or_left (test x) (list_any test xs) is
any_here test (z ∷ xs) (suc i) x y at is = or_right (test z) (list_any test (slice_set xs i x)) (any_here test xs i x y at is)

pub any_there : {X : Type 0} (test : X → Bool) (xs : List X) (i : ℕ) (x y : X) → slice_get xs i ≡ Some y → test y ≡ false → list_any test xs ≡ true → list_any test (slice_set xs i x) ≡ true
any_there test [] i x y at off is = absurd (none-some y at)
any_there test (z ∷ xs) zero x y at off is =
    let fails : test z ≡ false = ap test (same_Some z y at) ∙ off in
    or_right (test x) (list_any test xs) (sym (ap (λ b. b || list_any test xs) fails) ∙ is)
any_there test (z ∷ xs) (suc i) x y at off is = or_second (test z) (list_any test xs) (list_any test (slice_set xs i x)) (any_there test xs i x y at off) is

at_position : {X : Type 0} (test : X → Bool) (xs : List X) (i : ℕ) (y : X) → position test xs ≡ Some i → slice_get xs i ≡ Some y → test y ≡ true
at_position test xs i y is at = ap test (sym (get_or_from_slice_get xs i y y at)) ∙ (position-Some test xs i y is).1

not_out : (xid : ℕ) (stage : CallStage) → waits stage ≡ true → is_out xid stage ≡ false
not_out xid Waits is = refl
not_out xid (Out own timeouts) is = absurd (not_both is)
not_out xid (KeptOut own) is = absurd (not_both is)
not_out xid KeptBack is = absurd (not_both is)
not_out xid Done is = absurd (not_both is)
not_out xid GivenUp is = absurd (not_both is)

not_out_there : (here : Bool) (xid : ℕ) (stage : CallStage) → waits stage ≡ true → (here && is_out xid stage) ≡ false
not_out_there here xid stage is = ap (λ b. here && b) (not_out xid stage is) ∙ and_false here

-- ---- a file's call

abbrev pub GoesOut : ℕ → Option CallOut → Type 0
GoesOut xid None = Unit {0}
GoesOut xid (Some c) = is_outstanding c.file c.server xid ≡ true

create_goes : (f : MdsFile) (all : Creations) (xid place : ℕ) (o : Option Creation) → slice_get all.items place ≡ o → GoesOut xid (create_out_at f all xid place o)
create_goes f all xid place None at = tt
create_goes f all xid place (Some c) at = any_here (λ (d : Creation). d.server == c.server && is_out xid d.stage) all.items place (in_stage c (Out xid 0)) c at (both_true c.server xid)

creates_go : (f : MdsFile) (all : Creations) (xid : ℕ) (o : Option ℕ) → GoesOut xid (create_out f all xid o)
creates_go f all xid None = tt
creates_go f all xid (Some place) = create_goes f all xid place (slice_get all.items place) refl

fence_at_goes : (f : MdsFile) (fence : FenceState) (xid place : ℕ) (o : Option FenceMirror) → slice_get fence.mirrors place ≡ o → GoesOut xid (fence_out f (fence_call_at fence xid place o))
fence_at_goes f fence xid place None at = tt
fence_at_goes f fence xid place (Some m) at = any_here (λ (n : FenceMirror). n.id.server == m.id.server && is_out xid n.stage) fence.mirrors place (with_stage m (Out xid 0)) m at (both_true m.id.server xid)

fence_goes : (f : MdsFile) (fence : FenceState) (xid : ℕ) (o : Option ℕ) → GoesOut xid (fence_out f (call_from fence xid o))
fence_goes f fence xid None = tt
fence_goes f fence xid (Some place) = fence_at_goes f fence xid place (slice_get fence.mirrors place) refl

-- the COMMIT goes to the first live mirror
settle_goes : (f : MdsFile) (xid : ℕ) (live : List Mirror) → f.layout.live ≡ live → (b : Bool) → GoesOut xid (if b then settle_out f xid live else None)
settle_goes f xid [] at true = tt
settle_goes f xid (m ∷ live) at true = subst (λ (l : List Mirror). ((xid == xid) && Rattle.file_rule.specs.FilePhases.first_is_on l m.id.server) ≡ true) (sym at) (both_true xid m.id.server)
settle_goes f xid live at false = tt

target_goes : (f : MdsFile) (c : CopyState) (xid place : ℕ) (o : Option CopyTarget) → slice_get c.targets place ≡ o → GoesOut xid (copy_out f (copy.target_call_at c xid place o))
target_goes f c xid place None at = tt
target_goes f c xid place (Some t) at =
    or_left (list_any (λ (u : CopyTarget). u.server == t.server && is_out xid u.stage) (slice_set c.targets place (copy.at_stage t (Out xid 0)))) (c.source.server == t.server && is_out xid c.read)
    (any_here (λ (u : CopyTarget). u.server == t.server && is_out xid u.stage) c.targets place (copy.at_stage t (Out xid 0)) t at (both_true t.server xid))

copy_goes : (f : MdsFile) (c : CopyState) (xid : ℕ) (o : Option ℕ) → GoesOut xid (copy_out f (copy.call_from c xid o))
copy_goes f c xid None = by_test (waits c.read && may_read_on c)
  where
    by_test : (b : Bool) → GoesOut xid (copy_out f (if b then Some (record { copy = copy.with_read c (Out xid 0); server = c.source.server; uid = 0; call = Read c.source.fileid c.at PIECE_SIZE }) else None))
    by_test true = or_right (list_any (λ (t : CopyTarget). t.server == c.source.server && is_out xid t.stage) c.targets) ((c.source.server == c.source.server) && (xid == xid)) (both_true c.source.server xid)
    by_test false = tt
copy_goes f c xid (Some place) = target_goes f c xid place (slice_get c.targets place) refl

pub goes_out : (f : MdsFile) (xid : ℕ) (a : Activity) → GoesOut xid (call_out_of f xid a)
goes_out f xid Idle = tt
goes_out f xid (Makes all) = creates_go f all xid (creation_waiting all)
goes_out f xid (Fences fence) = fence_goes f fence xid (waiting_at fence)
goes_out f xid (Settles stage) = settle_goes f xid f.layout.live refl (waits stage)
goes_out f xid (Copies c) = copy_goes f c xid (copy.waiting_at c)

-- ---- what was outstanding stays so

abbrev pub KeepsOut : ℕ → ℕ → MdsFile → Activity → Option CallOut → Type 0
KeepsOut server xid f a None = Unit {0}
KeepsOut server xid f a (Some c) = is_outstanding_in f server xid a ≡ true → is_outstanding c.file server xid ≡ true

create_stays : (server own : ℕ) (f : MdsFile) (all : Creations) (xid place : ℕ) → creation_waiting all ≡ Some place → (o : Option Creation) → slice_get all.items place ≡ o → KeepsOut server own f (Makes all) (create_out_at f all xid place o)
create_stays server own f all xid place is None at = tt
create_stays server own f all xid place is (Some c) at =
    any_there (λ (d : Creation). d.server == server && is_out own d.stage) all.items place (in_stage c (Out xid 0)) c at
    (not_out_there (c.server == server) own c.stage (at_position (λ (d : Creation). waits d.stage) all.items place c is at))

creates_stay : (server own : ℕ) (f : MdsFile) (all : Creations) (xid : ℕ) (o : Option ℕ) → creation_waiting all ≡ o → KeepsOut server own f (Makes all) (create_out f all xid o)
creates_stay server own f all xid None is = tt
creates_stay server own f all xid (Some place) is = create_stays server own f all xid place is (slice_get all.items place) refl

fence_at_stays : (server own : ℕ) (f : MdsFile) (fence : FenceState) (xid place : ℕ) → waiting_at fence ≡ Some place → (o : Option FenceMirror) → slice_get fence.mirrors place ≡ o → KeepsOut server own f (Fences fence) (fence_out f (fence_call_at fence xid place o))
fence_at_stays server own f fence xid place is None at = tt
fence_at_stays server own f fence xid place is (Some m) at =
    any_there (λ (n : FenceMirror). n.id.server == server && is_out own n.stage) fence.mirrors place (with_stage m (Out xid 0)) m at
    (not_out_there (m.id.server == server) own m.stage (at_position (λ (n : FenceMirror). waits n.stage) fence.mirrors place m is at))

fence_stays : (server own : ℕ) (f : MdsFile) (fence : FenceState) (xid : ℕ) (o : Option ℕ) → waiting_at fence ≡ o → KeepsOut server own f (Fences fence) (fence_out f (call_from fence xid o))
fence_stays server own f fence xid None is = tt
fence_stays server own f fence xid (Some place) is = fence_at_stays server own f fence xid place is (slice_get fence.mirrors place) refl

settle_stays : (server own : ℕ) (f : MdsFile) (xid : ℕ) (stage : CallStage) (live : List Mirror) (b : Bool) → waits stage ≡ b → KeepsOut server own f (Settles stage) (if b then settle_out f xid live else None)
settle_stays server own f xid stage live false is = tt
settle_stays server own f xid stage [] true is = tt
settle_stays server own f xid stage (m ∷ live) true is =
    λ out. absurd (not_both (sym (ap (λ b. b && Rattle.file_rule.specs.FilePhases.first_is_on f.layout.live server) (not_out own stage is)) ∙ out))

target_stays : (server own : ℕ) (f : MdsFile) (c : CopyState) (xid place : ℕ) → copy.waiting_at c ≡ Some place → (o : Option CopyTarget) → slice_get c.targets place ≡ o → KeepsOut server own f (Copies c) (copy_out f (copy.target_call_at c xid place o))
target_stays server own f c xid place is None at = tt
target_stays server own f c xid place is (Some t) at =
    or_first (list_any (λ (u : CopyTarget). u.server == server && is_out own u.stage) c.targets) (list_any (λ (u : CopyTarget). u.server == server && is_out own u.stage) (slice_set c.targets place (copy.at_stage t (Out xid 0)))) (c.source.server == server && is_out own c.read)
    (any_there (λ (u : CopyTarget). u.server == server && is_out own u.stage) c.targets place (copy.at_stage t (Out xid 0)) t at
    (not_out_there (t.server == server) own t.stage (at_position (λ (u : CopyTarget). waits u.stage) c.targets place t is at)))

copy_stays : (server own : ℕ) (f : MdsFile) (c : CopyState) (xid : ℕ) (o : Option ℕ) → copy.waiting_at c ≡ o → KeepsOut server own f (Copies c) (copy_out f (copy.call_from c xid o))
copy_stays server own f c xid None is = by_test (waits c.read) refl (may_read_on c)
  where
    by_test : (w : Bool) → waits c.read ≡ w → (b : Bool) → KeepsOut server own f (Copies c) (copy_out f (if w && b then Some (record { copy = copy.with_read c (Out xid 0); server = c.source.server; uid = 0; call = Read c.source.fileid c.at PIECE_SIZE }) else None))
    by_test true its true =
        or_second (list_any (λ (t : CopyTarget). t.server == server && is_out own t.stage) c.targets) (c.source.server == server && is_out own c.read) (c.source.server == server && (xid == own))
        (λ out. absurd (not_both (sym (not_out_there (c.source.server == server) own c.read its) ∙ out)))
    by_test true its false = tt
    by_test false its b = tt
copy_stays server own f c xid (Some place) is = target_stays server own f c xid place is (slice_get c.targets place) refl

pub stays_out : (server own : ℕ) (f : MdsFile) (xid : ℕ) (a : Activity) → KeepsOut server own f a (call_out_of f xid a)
stays_out server own f xid Idle = tt
stays_out server own f xid (Makes all) = creates_stay server own f all xid (creation_waiting all) refl
stays_out server own f xid (Fences fence) = fence_stays server own f fence xid (waiting_at fence) refl
stays_out server own f xid (Settles stage) = settle_stays server own f xid stage f.layout.live (waits stage) refl
stays_out server own f xid (Copies c) = copy_stays server own f c xid (copy.waiting_at c) refl
