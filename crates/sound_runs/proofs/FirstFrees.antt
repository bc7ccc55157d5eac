-- Which entries of a step free a file for the first time.
use Rattle.std.proofs.Common.{◌≡◌, ℕ, ◌⊎◌, Bool, true, false, List, [], ◌∷◌, ◌++◌, Option, Some, None, is_some, refl, sym, ap, subst, ◌∙◌, inl, inr}
use Rattle.std.specs.List.{AllByRecursion}
use Rattle.std.proofs.lemmas.Bool.{cond_both}
use Rattle.cluster_model.specs.declared.ids.FileId.{FileId}
use Rattle.cluster_model.specs.declared.ids.MirrorId.{MirrorId}
use Rattle.cluster_model.specs.declared.ids.Mirror.{Mirror}
use Rattle.cluster_model.specs.declared.entry.Entry.{Entry}
use Rattle.cluster_model.specs.declared.entry.Entry.TheVariants as entry
use Rattle.cluster_model.specs.declared.layout_state.LayoutPhase.{LayoutPhase}
use Rattle.cluster_model.specs.declared.layout_state.LayoutPhase.TheVariants.{Making, Free, Held, Fencing, Settling, Copying}
use Rattle.cluster_model.specs.declared.layout_state.LayoutState.{LayoutState}
use Rattle.cluster_model.specs.declared.layout_state.FenceEnd.{FenceEnd}
use Rattle.cluster_model.specs.declared.layout_state.FenceEnd.TheVariants.{Clean, Dirty, Copied}
use Rattle.cluster_model.specs.declared.targets.SwappedIn.{SwappedIn}
use Rattle.cluster_model.specs.GuardLaws.{IsOfServer}
use Rattle.cluster_model.specs.Journal.{content_of}
use Rattle.cluster_model.specs.Phases.{ids_of, is_source, phase_without, free_entries, swapped_entries}
use Rattle.file_rule.specs.MdsFiles.{Activity, Idle, Makes, Fences, Settles, Copies, FileStep}
use Rattle.file_rule.specs.declared.fresh.Fresh.{Fresh}
use Rattle.file_rule.specs.FilePhases.{FileInput}
use Rattle.cluster_laws.specs.Machine.{file_id}
use Rattle.cluster_laws.specs.FenceLaw.{is_file, first_free, changed_live, live_after, live_by, live_in}
use Rattle.cluster_laws.specs.Agreement.{Has}
use Rattle.cluster_laws.proofs.Lists.{all_append, all_more}
use Rattle.cluster_laws.proofs.Journals.{live_append}
use Rattle.cluster_laws.proofs.Invariant.{live_of}
use Rattle.machine_walk.proofs.Stories.{AreEach}
use Rattle.sound_runs.proofs.FileTurns.{is_making}
use Rattle.machine_walk.proofs.StepKinds.{IsLeaving, OneLeft, OneTold, IsTakenWith, NoWrite, OneWrite, StepKind, Rests, Learnt, Recalled, Grants, Ends, Resilvers, MakingTurns, MakingDone, FenceTurns, FenceLoses, FenceDone, SettleTurns, SettleLoses, SettleFrees, CopyBegins, CopyTurns, CopyLoses, TargetLost, CopyFrees, CopySwaps}

-- at a file's first entry free its mirrors are empty
abbrev pub AreNewMirrorsEmpty : List Entry → Type 0
AreNewMirrorsEmpty journal =
    (before behind : List Entry) (f : FileId) (live : List MirrorId) → journal ≡ before ++ entry.Free f live ∷ behind → live_in before f ≡ None → AllByRecursion (λ m. Has [] (content_of before m).content) live

-- an entry that frees a file for the first time frees it with empty mirrors
abbrev pub FreesEmpty : List Entry → Entry → Type 0
FreesEmpty before (entry.Free file mirrors) = live_in before file ≡ None → AllByRecursion (λ m. Has [] (content_of before m).content) mirrors
FreesEmpty before _ = Unit {0}

-- ---- a live list stays

pub not_none : (o : Option (List MirrorId)) → is_some o ≡ true → o ≡ None → ⊥
not_none None a b = cc
not_none (Some l) a b = cc

changed_some : (g : List MirrorId → List MirrorId) (live : Option (List MirrorId)) → is_some live ≡ true → is_some (changed_live g live) ≡ true
changed_some g None h = h
changed_some g (Some l) h = refl

first_some : (mirrors : List MirrorId) (live : Option (List MirrorId)) → is_some (first_free mirrors live) ≡ true
first_some mirrors None = refl
first_some mirrors (Some l) = refl

some_one : (f : FileId) (live : Option (List MirrorId)) (e : Entry) → is_some live ≡ true → is_some (live_after f live e) ≡ true
some_one f live (entry.Free file mirrors) h = cond_both (is_file file f) (first_free mirrors live) live (λ (o : Option (List MirrorId)). is_some o ≡ true) (λ t. first_some mirrors live) (λ t. h)
some_one f live (entry.Left file mirror cause) h = cond_both (is_file file f) (changed_live _ live) live (λ (o : Option (List MirrorId)). is_some o ≡ true) (λ t. changed_some _ live h) (λ t. h)
some_one f live (entry.Swapped file old new) h = cond_both (is_file file f) (changed_live _ live) live (λ (o : Option (List MirrorId)). is_some o ≡ true) (λ t. changed_some _ live h) (λ t. h)
some_one f live _ h = h

some_by : (f : FileId) (live : Option (List MirrorId)) (es : List Entry) → is_some live ≡ true → is_some (live_by f live es) ≡ true
some_by f live [] h = h
some_by f live (e ∷ es) h = some_by f (live_after f live e) es (some_one f live e h)

pub some_on : (f : FileId) (journal es : List Entry) → is_some (live_in journal f) ≡ true → is_some (live_in (journal ++ es) f) ≡ true
some_on f journal es h = subst (λ (o : Option (List MirrorId)). is_some o ≡ true) (sym (live_append f None journal es)) (some_by f (live_in journal f) es h)

pub none_before : (f : FileId) (journal es : List Entry) → live_in (journal ++ es) f ≡ None → live_in journal f ≡ None
none_before f journal es h = by_live (live_in journal f) refl
  where
    by_live : (o : Option (List MirrorId)) → live_in journal f ≡ o → live_in journal f ≡ None
    by_live None is = is
    by_live (Some l) is = absurd (not_none (live_in (journal ++ es) f) (some_on f journal es (ap (λ (o : Option (List MirrorId)). is_some o) is)) h)

-- ---- a list of a phase

pub making_of : (q : LayoutPhase) (ids : List MirrorId) → live_of q ids ≡ None → is_making q ≡ true
making_of Making ids e = refl
making_of Free ids e = absurd cc
making_of (Held holder is_recalled) ids e = absurd cc
making_of (Fencing next end) ids e = absurd cc
making_of (Settling copies) ids e = absurd cc
making_of (Copying copier copies) ids e = absurd cc

pub listed_of : (q : LayoutPhase) (ids : List MirrorId) → is_making q ≡ false → is_some (live_of q ids) ≡ true
listed_of Making ids e = absurd cc
listed_of Free ids e = refl
listed_of (Held holder is_recalled) ids e = refl
listed_of (Fencing next end) ids e = refl
listed_of (Settling copies) ids e = refl
listed_of (Copying copier copies) ids e = refl

making_left : (q : LayoutPhase) (b : Bool) → is_making (phase_without q b) ≡ is_making q
making_left Making b = refl
making_left Free b = refl
making_left (Held holder is_recalled) b = refl
making_left (Fencing next end) b = refl
making_left (Settling copies) b = refl
making_left (Copying copier copies) true = refl
making_left (Copying copier copies) false = refl

-- ---- what a step frees

-- an entry free is of this file, which was free before
abbrev pub FreesOwn : ℕ → Bool → Entry → Type 0
FreesOwn n b (entry.Free file mirrors) = (file ≡ file_id n) × (b ≡ false)
FreesOwn n b _ = Unit {0}

leaving_own : (n : ℕ) (b : Bool) (e : Entry) → IsLeaving n e → FreesOwn n b e
leaving_own n b e (OneLeft id cause) = tt
leaving_own n b e (OneTold cred at bytes) = tt

free_own : (n : ℕ) (b : Bool) (end : FenceEnd) (live : List Mirror) → b ≡ false → AllByRecursion (FreesOwn n b) (free_entries (file_id n) end live)
free_own n b Clean live e = ((refl, e), tt)
free_own n b Dirty live e = tt
free_own n b Copied live e = ((refl, e), tt)

swapped_own : (n : ℕ) (b : Bool) (targets : List SwappedIn) → AllByRecursion (FreesOwn n b) (swapped_entries (file_id n) targets)
swapped_own n b [] = tt
swapped_own n b (t ∷ targets) = (tt, swapped_own n b targets)

taken_own : (n : ℕ) (b : Bool) (cred : _) (writes : List Entry) → IsTakenWith n cred writes → AllByRecursion (FreesOwn n b) writes
taken_own n b cred writes NoWrite = tt
taken_own n b cred writes (OneWrite at bytes) = (tt, tt)

abbrev makes : Activity → Bool
makes Idle = false
makes (Makes all) = true
makes (Fences fence) = false
makes (Settles stage) = false
makes (Copies c) = false

module _ (n : ℕ) (fresh : Fresh) (input : FileInput) where
  abbrev Own : LayoutState → FileStep → Type 0
  Own s x = AllByRecursion (FreesOwn n (is_making s.phase)) x.entries

  like : (a b : LayoutState) (x : FileStep) → is_making b.phase ≡ is_making a.phase → Own b x → Own a x
  like a b x e h = subst (λ (k : Bool). AllByRecursion (FreesOwn n k) x.entries) e h

  frees_own : {s : LayoutState} {a : Activity} {x : FileStep} → StepKind n fresh input s a x → makes a ≡ false → Own s x
  frees_own (Rests s a) h = tt
  frees_own (Learnt s y a x e k) h = like s y x (ap is_making e.phase) (frees_own k h)
  frees_own (Recalled s holder is_recalled is) h = tt
  frees_own (Grants s holder writes is taken) h = (tt, taken_own n (is_making s.phase) s.cred writes taken)
  frees_own (Ends s holder is_recalled left cause live end is leaving of kept) h =
      all_append (FreesOwn n (is_making s.phase)) left (entry.Ended (file_id n) s.cred cause ∷ []) (all_more (IsLeaving n) (FreesOwn n (is_making s.phase)) left (leaving_own n (is_making s.phase)) leaving) (tt, tt)
  frees_own (Resilvers s is) h = tt
  frees_own (MakingTurns s all then x same k) h = absurd cc
  frees_own (MakingDone s all is) h = absurd cc
  frees_own (FenceTurns s fence then x same k) h = frees_own k refl
  frees_own (FenceLoses s fence id cause x some k) h = (tt, subst (λ (b : Bool). AllByRecursion (FreesOwn n b) x.entries) (making_left s.phase (is_source id s.live)) (frees_own k refl))
  frees_own (FenceDone s fence next end is same done) h = (tt, free_own n (is_making s.phase) end s.live (ap is_making is))
  frees_own (SettleTurns s stage then x outs k) h = frees_own k refl
  frees_own (SettleLoses s stage m live cause is some) h = (tt, tt)
  frees_own (SettleFrees s stage copies is none by) h = ((refl, ap is_making is), tt)
  frees_own (CopyBegins s stage copies is some by) h = tt
  frees_own (CopyTurns s c x k shown) h = frees_own k refl
  frees_own (CopyLoses s c m live cause is some) h = (tt, tt)
  frees_own (TargetLost s c id cause x other k) h = (tt, subst (λ (b : Bool). AllByRecursion (FreesOwn n b) x.entries) (making_left s.phase (is_source id s.live)) (frees_own k refl))
  frees_own (CopyFrees s c by copies is over none) h = ((refl, ap is_making is), tt)
  frees_own (CopySwaps s c by copies is t targets over some) h = swapped_own n (is_making s.phase) (t ∷ targets)

  -- a step frees a new file with its mirrors, or none
  abbrev FreesFirst : FileStep → Type 0
  FreesFirst x = x.entries ≡ entry.Free (file_id n) (ids_of x.file.layout.live) ∷ []

  or_like : (a b : LayoutState) (x : FileStep) → is_making b.phase ≡ is_making a.phase → FreesFirst x ⊎ Own b x → FreesFirst x ⊎ Own a x
  or_like a b x e (inl is) = inl is
  or_like a b x e (inr h) = inr (like a b x e h)

  pub first_or : {s : LayoutState} {a : Activity} {x : FileStep} → StepKind n fresh input s a x → FreesFirst x ⊎ Own s x
  first_or (Learnt s y a x e k) = or_like s y x (ap is_making e.phase) (first_or k)
  first_or (MakingTurns s all then x same k) = first_or k
  first_or (MakingDone s all is) = inl refl
  first_or (Rests s a) = inr tt
  first_or (Recalled s holder is_recalled is) = inr tt
  first_or (Grants s holder writes is taken) = inr (frees_own (Grants s holder writes is taken) refl)
  first_or (Ends s holder is_recalled left cause live end is leaving of kept) = inr (frees_own (Ends s holder is_recalled left cause live end is leaving of kept) refl)
  first_or (Resilvers s is) = inr tt
  first_or (FenceTurns s fence then x same k) = inr (frees_own k refl)
  first_or (FenceLoses s fence id cause x some k) = inr (frees_own (FenceLoses s fence id cause x some k) refl)
  first_or (FenceDone s fence next end is same done) = inr (frees_own (FenceDone s fence next end is same done) refl)
  first_or (SettleTurns s stage then x outs k) = inr (frees_own k refl)
  first_or (SettleLoses s stage m live cause is some) = inr (tt, tt)
  first_or (SettleFrees s stage copies is none by) = inr ((refl, ap is_making is), tt)
  first_or (CopyBegins s stage copies is some by) = inr tt
  first_or (CopyTurns s c x k shown) = inr (frees_own k refl)
  first_or (CopyLoses s c m live cause is some) = inr (tt, tt)
  first_or (TargetLost s c id cause x other k) = inr (frees_own (TargetLost s c id cause x other k) refl)
  first_or (CopyFrees s c by copies is over none) = inr ((refl, ap is_making is), tt)
  first_or (CopySwaps s c by copies is t targets over some) = inr (swapped_own n (is_making s.phase) (t ∷ targets))

-- a file that was free is freed again
pub later_frees : (n : ℕ) (b : Bool) (journal es : List Entry) → AllByRecursion (FreesOwn n b) es → (b ≡ false → is_some (live_in journal (file_id n)) ≡ true) → AreEach FreesEmpty journal es
later_frees n b journal [] all some = tt
later_frees n b journal (e ∷ es) all some = (one e all.0, later_frees n b (journal ++ e ∷ []) es all.1 (λ w. some_on (file_id n) journal (e ∷ []) (some w)))
  where
    one : (x : Entry) → FreesOwn n b x → FreesEmpty journal x
    one (entry.Free file mirrors) k = λ none. absurd (not_none (live_in journal (file_id n)) (some k.1) (ap (live_in journal) (sym k.0) ∙ none))
    one _ k = tt

-- a data server frees none
pub server_frees : (n : ℕ) (e : Entry) → IsOfServer n e → (before : List Entry) → FreesEmpty before e
server_frees n (entry.Free file mirrors) k before = absurd k
server_frees n _ k before = tt
