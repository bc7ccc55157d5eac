-- What a tick, and a call that goes out, leave of the calls that a file keeps.
use Rattle.std.proofs.Common.{◌≡◌, ℕ, zero, suc, Bool, true, false, List, [], ◌∷◌, Option, Some, None, refl, sym, ap, ◌∙◌}
use Rattle.std.specs.Prelude.{map, slice_get, slice_set, ◌&&◌, if◌then◌else◌}
use Rattle.std.specs.List.{find}
use Rattle.std.proofs.lemmas.Option.{none-some}
use Rattle.cluster_model.specs.declared.ids.Mirror.{Mirror}
use Rattle.cluster_model.specs.declared.call_stage.CallStage.{CallStage}
use Rattle.cluster_model.specs.declared.call_stage.CallStage.TheVariants.{Waits, Out, KeptOut, KeptBack, Done, GivenUp}
use Rattle.cluster_model.specs.declared.fence_mirror.FenceMirror.{FenceMirror}
use Rattle.cluster_model.specs.Fences.{waits, stage_at_tick, at_tick, FenceState, with_stage, waiting_at, fence_call_at, call_from}
use Rattle.call_stage.specs.KeptCalls.{is_kept_out, kept_out_to}
use Rattle.cluster_model.specs.declared.limits.TheConstants.{PIECE_SIZE}
use Rattle.cluster_model.specs.DsCalls.{Read}
use Rattle.copy_rule.specs.declared.copy_target.CopyTarget.{CopyTarget}
use Rattle.copy_rule.specs.Copies.{CopyState, CopyCall, may_read_on}
use Rattle.copy_rule.specs.Copies as copy
use Rattle.file_rule.specs.declared.creation.Creation.{Creation}
use Rattle.file_rule.specs.MdsFiles.{Creations, Activity, Idle, Makes, Fences, Settles, Copies, MdsFile, in_stage}
use Rattle.file_rule.specs.FilePhases.{ticked, CallOut, creation_waiting, create_out_at, create_out, fence_out, settle_out, copy_out, call_out_of}
use Rattle.fence.specs.Calls as fence
use Rattle.mds_creations.specs.Makings as making
use Rattle.mds_activity.specs.FileCalls.{kept_by}

-- ---- nothing that a file has under way is kept

abbrev pub no_creation : List Creation → Type 0
no_creation items = find (λ (c : Creation). is_kept_out c.stage) items ≡ None

abbrev pub no_mirror : List FenceMirror → Type 0
no_mirror mirrors = find (λ (m : FenceMirror). is_kept_out m.stage) mirrors ≡ None

abbrev pub NoneKept : Activity → Type 0
NoneKept Idle = Unit {0}
NoneKept (Makes all) = no_creation all.items
NoneKept (Fences f) = no_mirror f.mirrors
NoneKept (Settles stage) = is_kept_out stage ≡ false
NoneKept (Copies c) = is_kept_out c.read ≡ false

not_out : (server : ℕ) (stage : CallStage) → is_kept_out stage ≡ false → kept_out_to server stage ≡ None
not_out server Waits is = refl
not_out server (Out xid timeouts) is = refl
not_out server (KeptOut xid) is = absurd cc
not_out server KeptBack is = refl
not_out server Done is = refl
not_out server GivenUp is = refl

pub none_out : (live : List Mirror) (a : Activity) → NoneKept a → kept_by live a ≡ None
none_out live Idle none = refl
none_out live (Makes all) none = ap making.kept_create none
none_out live (Fences f) none = ap fence.kept_set none
none_out [] (Settles stage) none = refl
none_out (m ∷ live) (Settles stage) none = not_out m.id.server stage none
none_out live (Copies c) none = not_out c.source.server c.read none

-- ---- a tick

stage_ticked : (stage : CallStage) → is_kept_out (stage_at_tick stage) ≡ false
stage_ticked Waits = refl
stage_ticked (Out xid timeouts) = refl
stage_ticked (KeptOut xid) = refl
stage_ticked KeptBack = refl
stage_ticked Done = refl
stage_ticked GivenUp = refl

-- the first fails the test
find_behind : {X : Type 0} (test : X → Bool) (y : X) (ys : List X) → test y ≡ false → find test ys ≡ None → find test (y ∷ ys) ≡ None
find_behind {X = X} test y ys off none = ap (λ (b : Bool). if b then Some y else find test ys) off ∙ none

creations_ticked : (items : List Creation) → no_creation (map (λ (c : Creation). in_stage c (stage_at_tick c.stage)) items)
creations_ticked [] = refl
creations_ticked (c ∷ items) = find_behind (λ (c : Creation). is_kept_out c.stage) (in_stage c (stage_at_tick c.stage)) (map (λ (c : Creation). in_stage c (stage_at_tick c.stage)) items) (stage_ticked c.stage) (creations_ticked items)

mirrors_ticked : (mirrors : List FenceMirror) → no_mirror (map at_tick mirrors)
mirrors_ticked [] = refl
mirrors_ticked (m ∷ mirrors) = find_behind (λ (m : FenceMirror). is_kept_out m.stage) (at_tick m) (map at_tick mirrors) (stage_ticked m.stage) (mirrors_ticked mirrors)

pub none_ticked : (a : Activity) → NoneKept (ticked a)
none_ticked Idle = tt
none_ticked (Makes all) = creations_ticked all.items
none_ticked (Fences f) = mirrors_ticked f.mirrors
none_ticked (Settles stage) = stage_ticked stage
none_ticked (Copies c) = stage_ticked c.read

-- ---- a call that goes out

-- where nothing is found, the first fails the test, and nothing is found behind it
find_fails : {X : Type 0} (test : X → Bool) (y : X) (ys : List X) → find test (y ∷ ys) ≡ None → test y ≡ false
find_fails {X = X} test y ys none = by_test (test y) refl none
  where
    by_test : (b : Bool) → test y ≡ b → (if b then Some y else find test ys) ≡ None → test y ≡ false
    by_test true is its = absurd (none-some y (sym its))
    by_test false is its = is

find_rest : {X : Type 0} (test : X → Bool) (y : X) (ys : List X) → find test (y ∷ ys) ≡ None → find test ys ≡ None
find_rest {X = X} test y ys none = by_test (test y) none
  where
    by_test : (b : Bool) → (if b then Some y else find test ys) ≡ None → find test ys ≡ None
    by_test true its = absurd (none-some y (sym its))
    by_test false its = its

-- nor is one that is set there
found_set : {X : Type 0} (test : X → Bool) (xs : List X) (place : ℕ) (x : X) → find test xs ≡ None → test x ≡ false → find test (slice_set xs place x) ≡ None
found_set test [] place x none off = none
found_set test (y ∷ ys) zero x none off = find_behind test x ys off (find_rest test y ys none)
found_set test (y ∷ ys) (suc place) x none off = find_behind test y (slice_set ys place x) (find_fails test y ys none) (found_set test ys place x (find_rest test y ys none) off)

-- what goes out leaves nothing kept
abbrev pub OutKeeps : Option CallOut → Type 0
OutKeeps None = Unit {0}
OutKeeps (Some c) = NoneKept c.file.activity

create_keeps : (f : MdsFile) (all : Creations) (xid place : ℕ) (o : Option Creation) → no_creation all.items → OutKeeps (create_out_at f all xid place o)
create_keeps f all xid place None none = tt
create_keeps f all xid place (Some c) none = found_set (λ (c : Creation). is_kept_out c.stage) all.items place (in_stage c (Out xid 0)) none refl

creates_keep : (f : MdsFile) (all : Creations) (xid : ℕ) (o : Option ℕ) → no_creation all.items → OutKeeps (create_out f all xid o)
creates_keep f all xid None none = tt
creates_keep f all xid (Some place) none = create_keeps f all xid place (slice_get all.items place) none

fence_at_keeps : (f : MdsFile) (fence : FenceState) (xid place : ℕ) (o : Option FenceMirror) → no_mirror fence.mirrors → OutKeeps (fence_out f (fence_call_at fence xid place o))
fence_at_keeps f fence xid place None none = tt
fence_at_keeps f fence xid place (Some m) none = found_set (λ (m : FenceMirror). is_kept_out m.stage) fence.mirrors place (with_stage m (Out xid 0)) none refl

fence_keeps : (f : MdsFile) (fence : FenceState) (xid : ℕ) (o : Option ℕ) → no_mirror fence.mirrors → OutKeeps (fence_out f (call_from fence xid o))
fence_keeps f fence xid None none = tt
fence_keeps f fence xid (Some place) none = fence_at_keeps f fence xid place (slice_get fence.mirrors place) none

settle_keeps : (f : MdsFile) (xid : ℕ) (live : List Mirror) (b : Bool) → OutKeeps (if b then settle_out f xid live else None)
settle_keeps f xid [] true = tt
settle_keeps f xid (m ∷ live) true = refl
settle_keeps f xid live false = tt

target_keeps : (f : MdsFile) (c : CopyState) (xid place : ℕ) (o : Option CopyTarget) → is_kept_out c.read ≡ false → OutKeeps (copy_out f (copy.target_call_at c xid place o))
target_keeps f c xid place None none = tt
target_keeps f c xid place (Some t) none = none

copy_keeps : (f : MdsFile) (c : CopyState) (xid : ℕ) (o : Option ℕ) → is_kept_out c.read ≡ false → OutKeeps (copy_out f (copy.call_from c xid o))
copy_keeps f c xid None none = by_test (waits c.read && may_read_on c)
  where
    by_test : (b : Bool) → OutKeeps (copy_out f (if b then Some (record { copy = copy.with_read c (Out xid 0); server = c.source.server; uid = 0; call = Read c.source.fileid c.at PIECE_SIZE }) else None))
    by_test true = refl
    by_test false = tt
copy_keeps f c xid (Some place) none = target_keeps f c xid place (slice_get c.targets place) none

pub out_keeps : (f : MdsFile) (xid : ℕ) (a : Activity) → NoneKept a → OutKeeps (call_out_of f xid a)
out_keeps f xid Idle none = tt
out_keeps f xid (Makes all) none = creates_keep f all xid (creation_waiting all) none
out_keeps f xid (Fences fence) none = fence_keeps f fence xid (waiting_at fence) none
out_keeps f xid (Settles stage) none = settle_keeps f xid f.layout.live (waits stage)
out_keeps f xid (Copies c) none = copy_keeps f c xid (copy.waiting_at c) none
