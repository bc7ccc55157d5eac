-- What holds of the periods of a file at every moment: its uids are its own and were not granted, and who is owed a fence.
use Rattle.std.proofs.Common.{◌≡◌, ◌≢◌, ℕ, ◌+◌, ◌<◌, Bool, true, false, eqb, cond, List, [], ◌∷◌, ◌++◌, length, Option, Some, None, refl, sym, ap, subst, ◌∙◌, arith}
use Rattle.std.specs.List.{AllByRecursion}
use Rattle.std.specs.Option.{is_some}
use Rattle.std.proofs.lemmas.Bool.{eq-eqb, ne_eqb}
use Rattle.cluster_model.specs.declared.ids.Cred.{Cred}
use Rattle.cluster_model.specs.declared.entry.Entry.{Entry}
use Rattle.cluster_model.specs.declared.layout_state.LayoutState.{LayoutState}
use Rattle.cluster_model.specs.declared.layout_state.LayoutPhase.{LayoutPhase}
use Rattle.cluster_model.specs.declared.layout_state.LayoutPhase.TheVariants.{Making, Free, Held, Fencing, Settling, Copying}
use Rattle.cluster_model.specs.declared.layout_state.FenceEnd.{FenceEnd}
use Rattle.cluster_model.specs.declared.layout_state.FenceEnd.TheVariants.{Clean, Dirty, Copied}
use Rattle.file_rule.specs.MdsFiles.{Creations, Activity, Idle, Makes, Fences, Settles, Copies, MdsFile, FileStep, standing}
use Rattle.file_rule.specs.declared.creation.Creation.{Creation}
use Rattle.cluster_laws.specs.Machine.{file_id}
use Rattle.cluster_laws.specs.Telling.{is_telling}
use Rattle.cluster_laws.specs.Periods.{owed_in, user_in, was_granted}
use Rattle.cluster_laws.proofs.Lists.{all_more}
use Rattle.cluster_laws.proofs.Invariant.{If, is_answered}
use Rattle.cluster_laws.proofs.PeriodFacts.{AreInPlace, granted_in, granted_append, none_granted, IsNoPeriod, owed_same, user_same, IsOfFile, IsStill}

-- a uid that was drawn for a file
pub record IsMine (whose : ℕ → ℕ) (next_uid n uid : ℕ) : Type 0 where
  pub mine : whose uid ≡ n
  pub drawn : uid < next_uid

abbrev pub IsUnused : List Entry → ℕ → Type 0
IsUnused journal uid = was_granted journal uid ≡ false

-- nobody is owed a fence, and the file's user is that of the last one
pub record IsFenced (journal : List Entry) (n : ℕ) (s : LayoutState) : Type 0 where
  pub some : 0 < length s.live
  pub owed : owed_in journal (file_id n) ≡ None
  pub user : user_in journal (file_id n) ≡ Some s.cred.0

abbrev pub is_free : LayoutPhase → Bool
is_free Making = false
is_free Free = true
is_free (Held holder is_recalled) = false
is_free (Fencing next end) = false
is_free (Settling copies) = false
is_free (Copying copier copies) = false

pub record IsIdleSo (journal : List Entry) (n : ℕ) (s : LayoutState) : Type 0 where
  pub fenced : IsFenced journal n s
  pub unused : is_free s.phase ≡ true → IsUnused journal s.cred.0

-- what is answered is made
abbrev pub IsMadeSo : Creation → Type 0
IsMadeSo c = is_answered c.stage ≡ true → is_some c.made ≡ true

pub record IsMakingSo (journal : List Entry) (n : ℕ) (s : LayoutState) (all : Creations) : Type 0 where
  pub owed : owed_in journal (file_id n) ≡ None
  pub user : user_in journal (file_id n) ≡ None
  pub unused : IsUnused journal s.cred.0
  pub stands : 0 < standing all
  pub made : AllByRecursion IsMadeSo all.items

-- behind a copy nobody is
abbrev pub owed_of : FenceEnd → ℕ → Option ℕ
owed_of Clean uid = Some uid
owed_of Dirty uid = Some uid
owed_of Copied uid = None

pub record IsFencingSo (whose : ℕ → ℕ) (next_uid : ℕ) (journal : List Entry) (n : ℕ) (s : LayoutState) (cred : ℕ) : Type 0 where
  pub some : 0 < length s.live
  pub next : Cred
  pub end : FenceEnd
  pub phase : s.phase ≡ Fencing next end
  pub owed : owed_in journal (file_id n) ≡ owed_of end s.cred.0
  pub fresh : next.0 ≡ cred
  pub mine : IsMine whose next_uid n cred
  pub unused : IsUnused journal cred

pub record IsSettlingSo (journal : List Entry) (n : ℕ) (s : LayoutState) : Type 0 where
  pub fenced : IsFenced journal n s
  pub unused : IsUnused journal s.cred.0

pub record IsCopyingSo (whose : ℕ → ℕ) (next_uid : ℕ) (journal : List Entry) (n : ℕ) (s : LayoutState) (copier : ℕ) : Type 0 where
  pub fenced : IsFenced journal n s
  pub unused : IsUnused journal s.cred.0
  pub mine : IsMine whose next_uid n copier
  pub new : IsUnused journal copier

abbrev pub IsActive : (ℕ → ℕ) → ℕ → List Entry → ℕ → LayoutState → Activity → Type 0
IsActive whose next_uid journal n s Idle = IsIdleSo journal n s
IsActive whose next_uid journal n s (Makes all) = IsMakingSo journal n s all
IsActive whose next_uid journal n s (Fences fence) = IsFencingSo whose next_uid journal n s fence.cred
IsActive whose next_uid journal n s (Settles stage) = IsSettlingSo journal n s
IsActive whose next_uid journal n s (Copies c) = IsCopyingSo whose next_uid journal n s c.copier

pub record IsPeriod (whose : ℕ → ℕ) (next_uid : ℕ) (journal : List Entry) (n : ℕ) (f : MdsFile) : Type 0 where
  pub mine : IsMine whose next_uid n f.layout.cred.0
  pub active : IsActive whose next_uid journal n f.layout f.activity

-- ---- a file that takes no step

module _ (whose : ℕ → ℕ) (next_uid : ℕ) (then_whose : ℕ → ℕ) (then_uid : ℕ) (journal entries : List Entry) (k : ℕ) (none : AllByRecursion (IsNoPeriod (file_id k)) entries)
    (mine_on : (uid : ℕ) → IsMine whose next_uid k uid → IsMine then_whose then_uid k uid) (unused_on : (uid : ℕ) → IsMine whose next_uid k uid → IsUnused journal uid → IsUnused (journal ++ entries) uid) where
  pub fenced_on : (s : LayoutState) → IsFenced journal k s → IsFenced (journal ++ entries) k s
  fenced_on s h = record { some = h.some; owed = owed_same (file_id k) journal entries none ∙ h.owed; user = user_same (file_id k) journal entries none ∙ h.user }

  active_on : (s : LayoutState) (activity : Activity) → IsMine whose next_uid k s.cred.0 → IsActive whose next_uid journal k s activity → IsActive then_whose then_uid (journal ++ entries) k s activity
  active_on s Idle mine h = record { fenced = fenced_on s h.fenced; unused = λ e. unused_on s.cred.0 mine (h.unused e) }
  active_on s (Makes all) mine h = record { owed = owed_same (file_id k) journal entries none ∙ h.owed; user = user_same (file_id k) journal entries none ∙ h.user; unused = unused_on s.cred.0 mine h.unused; stands = h.stands; made = h.made }
  active_on s (Fences fence) mine h = record { some = h.some; next = h.next; end = h.end; phase = h.phase; owed = owed_same (file_id k) journal entries none ∙ h.owed; fresh = h.fresh; mine = mine_on fence.cred h.mine; unused = unused_on fence.cred h.mine h.unused }
  active_on s (Settles stage) mine h = record { fenced = fenced_on s h.fenced; unused = unused_on s.cred.0 mine h.unused }
  active_on s (Copies c) mine h = record { fenced = fenced_on s h.fenced; unused = unused_on s.cred.0 mine h.unused; mine = mine_on c.copier h.mine; new = unused_on c.copier h.mine h.new }

  pub period_on : (f : MdsFile) → IsPeriod whose next_uid journal k f → IsPeriod then_whose then_uid (journal ++ entries) k f
  period_on f h = record { mine = mine_on f.layout.cred.0 h.mine; active = active_on f.layout f.activity h.mine h.active }

-- ---- a step of a file

abbrev pub drawn_for : (ℕ → ℕ) → ℕ → ℕ → ℕ → ℕ
drawn_for whose uid n k = cond (eqb k uid) n (whose k)

pub mine_drawn : (whose : ℕ → ℕ) (next_uid n k uid : ℕ) → IsMine whose next_uid k uid → IsMine (drawn_for whose next_uid n) (next_uid + 1) k uid
mine_drawn whose next_uid n k uid h =
    let less = h.drawn in
    record { mine = ap (λ (b : Bool). cond b n (whose uid)) (ne_eqb uid next_uid (λ e. absurd (omega (arith, e, less)))) ∙ h.mine; drawn = omega (arith, less) }

pub new_mine : (whose : ℕ → ℕ) (next_uid n : ℕ) → IsMine (drawn_for whose next_uid n) (next_uid + 1) n next_uid
new_mine whose next_uid n = record { mine = ap (λ (b : Bool). cond b n (whose next_uid)) (eq-eqb next_uid next_uid refl); drawn = omega arith }

pub record PeriodRow (whose : ℕ → ℕ) (next_uid : ℕ) (journal : List Entry) (n : ℕ) (g : MdsFile) (entries : List Entry) : Type 0 where
  pub place : AreInPlace journal entries
  pub of_file : AllByRecursion (IsOfFile n) entries
  pub grants : AllByRecursion (λ e. If (granted_in e) (IsMine whose next_uid n)) entries
  pub tells : AllByRecursion (λ e. is_telling e ≡ true) entries
  pub period : IsPeriod whose next_uid (journal ++ entries) n g

pub data PeriodOk (whose : ℕ → ℕ) (next_uid : ℕ) (journal : List Entry) (n : ℕ) (x : FileStep) : Type 0 where
  Plain : x.uids ≡ 0 → PeriodRow whose next_uid journal n x.file x.entries → PeriodOk whose next_uid journal n x
  Draws : x.uids ≡ 1 → PeriodRow (drawn_for whose next_uid n) (next_uid + 1) journal n x.file x.entries → PeriodOk whose next_uid journal n x

-- ---- entries that say nothing of periods

pub still_none : (n : ℕ) (entries : List Entry) → AllByRecursion IsStill entries → AllByRecursion (IsNoPeriod (file_id n)) entries
still_none n entries h = all_more IsStill (IsNoPeriod (file_id n)) entries (λ e k. k.none (file_id n)) h

pub still_of : (n : ℕ) (entries : List Entry) → AllByRecursion IsStill entries → AllByRecursion (IsOfFile n) entries
still_of n entries h = all_more IsStill (IsOfFile n) entries (λ e k j other. k.none (file_id j)) h

pub still_place : (before entries : List Entry) → AllByRecursion IsStill entries → AreInPlace before entries
still_place before [] h = tt
still_place before (e ∷ entries) h = (h.0.place before, still_place (before ++ e ∷ []) entries h.1)

pub still_grants : (P : ℕ → Type 0) (entries : List Entry) → AllByRecursion IsStill entries → AllByRecursion (λ e. If (granted_in e) P) entries
still_grants P entries h = all_more IsStill (λ e. If (granted_in e) P) entries (λ e k. subst (λ (x : Option ℕ). If x P) (sym k.grant) tt) h

pub still_tells : (entries : List Entry) → AllByRecursion IsStill entries → AllByRecursion (λ e. is_telling e ≡ true) entries
still_tells entries h = all_more IsStill (λ e. is_telling e ≡ true) entries (λ e k. k.tells) h

pub still_unused : (journal entries : List Entry) → AllByRecursion IsStill entries → (uid : ℕ) → IsUnused journal uid → IsUnused (journal ++ entries) uid
still_unused journal entries h uid k = granted_append uid journal entries k (none_granted uid entries (still_grants (λ u. u ≢ uid) entries h))

pub still_row : (whose : ℕ → ℕ) (next_uid : ℕ) (journal : List Entry) (n : ℕ) (g : MdsFile) (entries : List Entry) → AllByRecursion IsStill entries → IsPeriod whose next_uid (journal ++ entries) n g → PeriodRow whose next_uid journal n g entries
still_row whose next_uid journal n g entries h p = record { place = still_place journal entries h; of_file = still_of n entries h; grants = still_grants (IsMine whose next_uid n) entries h; tells = still_tells entries h; period = p }

-- below what is to be drawn nothing was granted of it
pub new_unused : (next_uid : ℕ) (journal : List Entry) → AllByRecursion (λ e. If (granted_in e) (λ u. u < next_uid)) journal → IsUnused journal next_uid
new_unused next_uid journal h = none_granted next_uid journal (all_more (λ e. If (granted_in e) (λ u. u < next_uid)) (λ e. If (granted_in e) (λ u. u ≢ next_uid)) journal (λ e. other (granted_in e)) h)
  where
    other : (x : Option ℕ) → If x (λ u. u < next_uid) → If x (λ u. u ≢ next_uid)
    other None k = tt
    other (Some u) k = λ e. absurd (omega (arith, e, k))
