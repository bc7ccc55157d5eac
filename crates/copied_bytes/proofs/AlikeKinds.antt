-- Behind a copy that follows a dirty end all live mirrors are alike, and so they are when the file is free again.
use Rattle.std.proofs.Common.{◌≡◌, ℕ, ◌⊎◌, Bool, true, false, List, [], ◌∷◌, Some, refl, sym, ap, subst, ◌∙◌, inl, inr}
use Rattle.std.specs.List.{AllByRecursion}
use Rattle.std.proofs.lemmas.Option.{same_Some}
use Rattle.cluster_model.specs.declared.ids.FileId.{FileId}
use Rattle.cluster_model.specs.declared.ids.MirrorId.{MirrorId}
use Rattle.cluster_model.specs.declared.entry.Entry.{Entry}
use Rattle.cluster_model.specs.declared.entry.Entry.TheVariants as entry
use Rattle.cluster_model.specs.declared.layout_state.LayoutPhase.{LayoutPhase}
use Rattle.cluster_model.specs.declared.layout_state.LayoutPhase.TheVariants.{Making, Free, Held, Fencing, Settling, Copying}
use Rattle.cluster_model.specs.declared.layout_state.FenceEnd.TheVariants.{Clean, Dirty, Copied}
use Rattle.cluster_model.specs.declared.layout_state.CopyKind.TheVariants.{Replacing, Adding}
use Rattle.cluster_model.specs.Journal.{content_of}
use Rattle.cluster_model.specs.Phases.{phase_without}
use Rattle.file_rule.specs.MdsFiles.{Activity, Idle, Makes, Fences, Settles, Copies}
use Rattle.cluster_laws.specs.Machine.{file_id}
use Rattle.cluster_laws.specs.FenceLaw.{live_in}
use Rattle.cluster_laws.specs.Agreement.{shown_at, bytes_of, Has}
use Rattle.cluster_laws.proofs.Lists.{all_more}
use Rattle.copied_bytes.specs.CopiedBytes.{users_since, EndedDirty}
use Rattle.copied_bytes.proofs.Wholes.{IsWhole, whole_has, whole_shown}
use Rattle.copied_bytes.proofs.Replaced.{AreReplaced}

-- ---- what is known of a file's live mirrors by its phase

abbrev pub ReplacedIn : (MirrorId → Type 0) → Activity → List MirrorId → Type 0
ReplacedIn L Idle ids = Unit {0}
ReplacedIn L (Makes all) ids = Unit {0}
ReplacedIn L (Fences fence) ids = Unit {0}
ReplacedIn L (Settles stage) ids = Unit {0}
ReplacedIn L (Copies c) ids = AreReplaced L c.targets ids

module _ (n : ℕ) (Steady : List MirrorId → Type 0) where
  abbrev pub AreAlikeBy : (MirrorId → Type 0) → List Entry → LayoutPhase → List MirrorId → Activity → Type 0
  AreAlikeBy L front Making ids a = Unit {0}
  AreAlikeBy L front Free ids a = Unit {0}
  AreAlikeBy L front (Held holder is_recalled) ids a = Unit {0}
  AreAlikeBy L front (Fencing next Clean) ids a = Unit {0}
  AreAlikeBy L front (Fencing next Dirty) ids a = Unit {0}
  AreAlikeBy L front (Fencing next Copied) ids a = (users_since front (file_id n) ≡ []) ⊎ Steady ids
  AreAlikeBy L front (Settling copies) ids a = Unit {0}
  AreAlikeBy L front (Copying copier Replacing) ids a = ReplacedIn L a ids
  AreAlikeBy L front (Copying copier Adding) ids a = Unit {0}

  -- with other entries, and another activity
  pub alike_by : (L M : MirrorId → Type 0) (front later : List Entry) (ids : List MirrorId) (a b : Activity) → (users_since front (file_id n) ≡ [] → users_since later (file_id n) ≡ []) → (ReplacedIn L a ids → ReplacedIn M b ids)
      → (p : LayoutPhase) → AreAlikeBy L front p ids a → AreAlikeBy M later p ids b
  alike_by L M front later ids a b users replaced Making h = tt
  alike_by L M front later ids a b users replaced Free h = tt
  alike_by L M front later ids a b users replaced (Held holder is_recalled) h = tt
  alike_by L M front later ids a b users replaced (Fencing next Clean) h = tt
  alike_by L M front later ids a b users replaced (Fencing next Dirty) h = tt
  alike_by L M front later ids a b users replaced (Fencing next Copied) (inl none) = inl (users none)
  alike_by L M front later ids a b users replaced (Fencing next Copied) (inr h) = inr h
  alike_by L M front later ids a b users replaced (Settling copies) h = tt
  alike_by L M front later ids a b users replaced (Copying copier Replacing) h = replaced h
  alike_by L M front later ids a b users replaced (Copying copier Adding) h = tt

  -- a mirror leaves
  pub alike_without : (L M : MirrorId → Type 0) (front later : List Entry) (ids less : List MirrorId) (a b : Activity) (source : Bool) → (users_since front (file_id n) ≡ [] → users_since later (file_id n) ≡ []) → (Steady ids → Steady less) → (source ≡ false → ReplacedIn L a ids → ReplacedIn M b less)
      → (p : LayoutPhase) → AreAlikeBy L front p ids a → AreAlikeBy M later (phase_without p source) less b
  alike_without L M front later ids less a b source users steady replaced Making h = tt
  alike_without L M front later ids less a b source users steady replaced Free h = tt
  alike_without L M front later ids less a b source users steady replaced (Held holder is_recalled) h = tt
  alike_without L M front later ids less a b source users steady replaced (Fencing next Clean) h = tt
  alike_without L M front later ids less a b source users steady replaced (Fencing next Dirty) h = tt
  alike_without L M front later ids less a b source users steady replaced (Fencing next Copied) (inl none) = inl (users none)
  alike_without L M front later ids less a b source users steady replaced (Fencing next Copied) (inr h) = inr (steady h)
  alike_without L M front later ids less a b source users steady replaced (Settling copies) h = tt
  alike_without L M front later ids less a b true users steady replaced (Copying copier copies) h = tt
  alike_without L M front later ids less a b false users steady replaced (Copying copier Replacing) h = replaced refl h
  alike_without L M front later ids less a b false users steady replaced (Copying copier Adding) h = tt

-- the fence behind a copy
abbrev pub is_behind_copy : LayoutPhase → Bool
is_behind_copy Making = false
is_behind_copy Free = false
is_behind_copy (Held holder is_recalled) = false
is_behind_copy (Fencing next Clean) = false
is_behind_copy (Fencing next Dirty) = false
is_behind_copy (Fencing next Copied) = true
is_behind_copy (Settling copies) = false
is_behind_copy (Copying copier copies) = false

-- with other entries, and by what is steady then
pub alike_map : (n : ℕ) (S T : List MirrorId → Type 0) (L : MirrorId → Type 0) (front later : List Entry) (ids : List MirrorId) (a : Activity) → (users_since front (file_id n) ≡ [] → users_since later (file_id n) ≡ [])
    → (p : LayoutPhase) → (is_behind_copy p ≡ true → S ids → T ids) → AreAlikeBy n S L front p ids a → AreAlikeBy n T L later p ids a
alike_map n S T L front later ids a users Making steady h = tt
alike_map n S T L front later ids a users Free steady h = tt
alike_map n S T L front later ids a users (Held holder is_recalled) steady h = tt
alike_map n S T L front later ids a users (Fencing next Clean) steady h = tt
alike_map n S T L front later ids a users (Fencing next Dirty) steady h = tt
alike_map n S T L front later ids a users (Fencing next Copied) steady (inl none) = inl (users none)
alike_map n S T L front later ids a users (Fencing next Copied) steady (inr h) = inr (steady refl h)
alike_map n S T L front later ids a users (Settling copies) steady h = tt
alike_map n S T L front later ids a users (Copying copier Replacing) steady h = h
alike_map n S T L front later ids a users (Copying copier Adding) steady h = tt

-- ---- what is said where a file is free

abbrev pub IsFreedAlike : List Entry → Entry → Type 0
IsFreedAlike before (entry.Free f mirrors) = (uid : ℕ) → EndedDirty before f uid → (live : List MirrorId) → live_in before f ≡ Some live → AllByRecursion (λ m. Has (bytes_of before f) (content_of before m).content) live
IsFreedAlike before _ = Unit {0}

pub all_has : (before : List Entry) (f : FileId) (ids : List MirrorId) → live_in before f ≡ Some ids → (bytes : List ℕ) → AllByRecursion (λ id. IsWhole bytes (content_of before id).content) ids → (live : List MirrorId) → live_in before f ≡ Some live
    → AllByRecursion (λ m. Has (bytes_of before f) (content_of before m).content) live
all_has before f ids is bytes h live e = subst (AllByRecursion (λ m. Has (bytes_of before f) (content_of before m).content)) (same_Some ids live (sym is ∙ e)) (by_ids ids is h)
  where
    by_ids : (all : List MirrorId) → live_in before f ≡ Some all → AllByRecursion (λ id. IsWhole bytes (content_of before id).content) all → AllByRecursion (λ m. Has (bytes_of before f) (content_of before m).content) all
    by_ids [] at k = tt
    by_ids (id ∷ all) at k =
        let shown : bytes_of before f ≡ bytes = ap (shown_at before) at ∙ whole_shown bytes (content_of before id).content k.0 in
        all_more (λ m. IsWhole bytes (content_of before m).content) (λ m. Has (bytes_of before f) (content_of before m).content) (id ∷ all) (λ m w. subst (λ (b : List ℕ). Has b (content_of before m).content) (sym shown) (whole_has bytes (content_of before m).content w)) k
