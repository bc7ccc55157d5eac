-- Who may write: users that were granted a file, and copies; and the uids of each file.
use Rattle.std.proofs.Common.{◌≡◌, ℕ, ◌<◌, ◌≤◌, ◌⊎◌, Bool, true, false, List, [], ◌∷◌, Option, Some, None, refl, sym, subst, ◌∙◌, arith, inl, inr}
use Rattle.std.specs.List.{AllByRecursion}
use Rattle.cluster_model.specs.declared.ids.NodeId.{NodeId}
use Rattle.cluster_model.specs.declared.ids.Cred.{Cred}
use Rattle.cluster_model.specs.declared.ids.MirrorId.{MirrorId}
use Rattle.cluster_model.specs.declared.entry.Entry.{Entry}
use Rattle.cluster_model.specs.declared.entry.Entry.TheVariants as entry
use Rattle.cluster_model.specs.declared.layout_state.LayoutState.{LayoutState}
use Rattle.cluster_model.specs.declared.layout_state.FenceEnd.{FenceEnd}
use Rattle.cluster_model.specs.declared.layout_state.FenceEnd.TheVariants.{Clean, Dirty, Copied}
use Rattle.cluster_model.specs.declared.ids.Mirror.{Mirror}
use Rattle.cluster_model.specs.declared.targets.SwappedIn.{SwappedIn}
use Rattle.cluster_model.specs.Phases.{free_entries, swapped_entries}
use Rattle.file_rule.specs.MdsFiles.{Activity, Idle, Makes, Fences, Settles, Copies, FileStep}
use Rattle.file_rule.specs.declared.fresh.Fresh.{Fresh}
use Rattle.file_rule.specs.FilePhases.{FileInput, Answers, TimesOut, Ticks}
use Rattle.cluster_laws.specs.Machine.{file_id}
use Rattle.copy_rule.specs.Copies.{CopyState}
use Rattle.cluster_laws.specs.Agreement.{bytes_of}
use Rattle.cluster_laws.proofs.Lists.{all_append, all_more, all_any}
use Rattle.cluster_laws.proofs.PeriodCopies.{reply_step, timeout_step}
use Rattle.cluster_laws.proofs.Invariant.{IsNotSource}
use Rattle.cluster_laws.proofs.PeriodFacts.{granted_in}
use Rattle.cluster_laws.proofs.PeriodStates.{IsMine}
use Rattle.machine_walk.proofs.Stories.{Story, begun_copy, IsOnward}
use Rattle.machine_walk.proofs.StepKinds.{copy_turned, IsAlike, IsLeaving, OneLeft, OneTold, IsTakenWith, StepKind, Rests, Learnt, Recalled, Grants, Ends, Resilvers, MakingTurns, MakingDone, FenceTurns, FenceLoses, FenceDone, SettleTurns, SettleLoses, SettleFrees, CopyBegins, CopyTurns, CopyLoses, TargetLost, CopyFrees, CopySwaps}

-- ---- uids

-- a uid of a file, of no copy, and one of a copy
pub record IsPlainUid (t : Story) (uid n u : ℕ) : Type 0 where
  pub mine : IsMine t.whose uid n u
  pub no_copy : t.copied u ≡ None

pub record IsCopyUid (t : Story) (uid n u : ℕ) : Type 0 where
  pub mine : IsMine t.whose uid n u
  pub bytes : List ℕ
  pub copy : t.copied u ≡ Some bytes

-- a user that is a copy, whatever its file
pub record IsCopier (t : Story) (uid u : ℕ) : Type 0 where
  pub drawn : u < uid
  pub bytes : List ℕ
  pub copy : t.copied u ≡ Some bytes

-- those of a file by what it has under way
pub record HasFenceUids (t : Story) (uid n cred fresh : ℕ) : Type 0 where
  pub old : IsMine t.whose uid n cred
  pub new : IsPlainUid t uid n fresh
  pub later : cred < fresh

pub record HasCopyUids (t : Story) (uid n cred by : ℕ) : Type 0 where
  pub plain : IsPlainUid t uid n cred
  pub copier : IsCopyUid t uid n by
  pub later : cred < by

abbrev pub HasUids : Story → ℕ → ℕ → LayoutState → Activity → Type 0
HasUids t uid n s Idle = IsPlainUid t uid n s.cred.0
HasUids t uid n s (Makes all) = IsPlainUid t uid n s.cred.0
HasUids t uid n s (Fences fence) = HasFenceUids t uid n s.cred.0 fence.cred
HasUids t uid n s (Settles stage) = IsPlainUid t uid n s.cred.0
HasUids t uid n s (Copies c) = HasCopyUids t uid n s.cred.0 c.copier

-- ---- later on

module _ (t : Story) (uid name : ℕ) (then : Story) (more : ℕ) (on : IsOnward t uid name then) (up : uid ≤ more) where
  pub mine_on : (n u : ℕ) → IsMine t.whose uid n u → IsMine then.whose more n u
  mine_on n u h = let less = h.drawn in record { mine = on.whose u less ∙ h.mine; drawn = omega (arith, less, up) }

  pub plain_on : (n u : ℕ) → IsPlainUid t uid n u → IsPlainUid then more n u
  plain_on n u h = record { mine = mine_on n u h.mine; no_copy = on.copied u h.mine.drawn ∙ h.no_copy }

  pub copy_on : (n u : ℕ) → IsCopyUid t uid n u → IsCopyUid then more n u
  copy_on n u h = record { mine = mine_on n u h.mine; bytes = h.bytes; copy = on.copied u h.mine.drawn ∙ h.copy }

  pub copier_on : (u : ℕ) → IsCopier t uid u → IsCopier then more u
  copier_on u h = let less = h.drawn in record { drawn = omega (arith, less, up); bytes = h.bytes; copy = on.copied u less ∙ h.copy }

  pub uids_on : (n : ℕ) (s : LayoutState) (a : Activity) → HasUids t uid n s a → HasUids then more n s a
  uids_on n s Idle h = plain_on n s.cred.0 h
  uids_on n s (Makes all) h = plain_on n s.cred.0 h
  uids_on n s (Fences fence) h = record { old = mine_on n s.cred.0 h.old; new = plain_on n fence.cred h.new; later = h.later }
  uids_on n s (Settles stage) h = plain_on n s.cred.0 h
  uids_on n s (Copies c) h = record { plain = plain_on n s.cred.0 h.plain; copier = copy_on n c.copier h.copier; later = h.later }

-- ---- a step of a file

-- what is drawn by a step
pub record IsNewUid (journal : List Entry) (n uid : ℕ) (then : Story) (more : ℕ) (a : Activity) : Type 0 where
  pub mine : IsMine then.whose more n uid
  pub copied : then.copied uid ≡ begun_copy journal n a

pub alike_uids : (t : Story) (uid n : ℕ) (s x : LayoutState) (a : Activity) → IsAlike s x → HasUids t uid n s a → HasUids t uid n x a
alike_uids t uid n s x Idle e h = subst (λ (c : Cred). IsPlainUid t uid n c.0) (sym e.cred) h
alike_uids t uid n s x (Makes all) e h = subst (λ (c : Cred). IsPlainUid t uid n c.0) (sym e.cred) h
alike_uids t uid n s x (Fences fence) e h = subst (λ (c : Cred). HasFenceUids t uid n c.0 fence.cred) (sym e.cred) h
alike_uids t uid n s x (Settles stage) e h = subst (λ (c : Cred). IsPlainUid t uid n c.0) (sym e.cred) h
alike_uids t uid n s x (Copies c) e h = subst (λ (k : Cred). HasCopyUids t uid n k.0 c.copier) (sym e.cred) h

-- ---- what entries say of users

-- the user of a write that is noted
abbrev pub writer_in : Entry → Option ℕ
writer_in (entry.Sent file cred at bytes) = Some cred.0
writer_in (entry.Rogue file cred at bytes) = Some cred.0
writer_in _ = None

-- a write is applied
abbrev pub is_applied : Entry → Bool
is_applied (entry.Applied m cred at bytes) = true
is_applied _ = false

-- an entry that grants nothing, notes no write that was sent, and is of none that is applied
pub record IsSilent (e : Entry) : Type 0 where
  pub grant : granted_in e ≡ None
  pub writer : writer_in e ≡ None
  pub applied : is_applied e ≡ false

pub leaving_silent : (n : ℕ) (e : Entry) → IsLeaving n e → IsSilent e
leaving_silent n e (OneLeft id cause) = record { grant = refl; writer = refl; applied = refl }
leaving_silent n e (OneTold cred at bytes) = record { grant = refl; writer = refl; applied = refl }

pub free_silent : (n : ℕ) (end : FenceEnd) (live : List Mirror) → AllByRecursion IsSilent (free_entries (file_id n) end live)
free_silent n Clean live = (record { grant = refl; writer = refl; applied = refl }, tt)
free_silent n Dirty live = tt
free_silent n Copied live = (record { grant = refl; writer = refl; applied = refl }, tt)

pub swapped_silent : (n : ℕ) (targets : List SwappedIn) → AllByRecursion IsSilent (swapped_entries (file_id n) targets)
swapped_silent n [] = tt
swapped_silent n (t ∷ targets) = (record { grant = refl; writer = refl; applied = refl }, swapped_silent n targets)

abbrev pub has_calls : Activity → Bool
has_calls Idle = false
has_calls (Makes all) = true
has_calls (Fences fence) = true
has_calls (Settles stage) = true
has_calls (Copies c) = true

-- a grant, with the write that it is for
pub record IsGrantOf (t : Story) (uid n : ℕ) (s : LayoutState) (entries : List Entry) : Type 0 where
  pub cred : Cred
  pub own : cred ≡ s.cred
  pub plain : IsPlainUid t uid n cred.0
  pub holder : NodeId
  pub writes : List Entry
  pub taken : IsTakenWith n cred writes
  pub is : entries ≡ entry.Granted (file_id n) cred holder ∷ writes

module _ (n : ℕ) (fresh : Fresh) (input : FileInput) where
  pub busy_silent : {s : LayoutState} {a : Activity} {x : FileStep} → StepKind n fresh input s a x → has_calls a ≡ true → AllByRecursion IsSilent x.entries
  busy_silent (Rests s a) busy = tt
  busy_silent (Learnt s y a x e k) busy = busy_silent k busy
  busy_silent (Recalled s holder is_recalled is) busy = tt
  busy_silent (Grants s holder writes is taken) busy = absurd cc
  busy_silent (Ends s holder is_recalled left cause live end is leaving of kept) busy = absurd cc
  busy_silent (Resilvers s is) busy = tt
  busy_silent (MakingTurns s all then x same k) busy = busy_silent k refl
  busy_silent (MakingDone s all is) busy = (record { grant = refl; writer = refl; applied = refl }, tt)
  busy_silent (FenceTurns s fence then x same k) busy = busy_silent k refl
  busy_silent (FenceLoses s fence id cause x some k) busy = (record { grant = refl; writer = refl; applied = refl }, busy_silent k refl)
  busy_silent (FenceDone s fence next end is same done) busy = (record { grant = refl; writer = refl; applied = refl }, free_silent n end s.live)
  busy_silent (SettleTurns s stage then x outs k) busy = busy_silent k refl
  busy_silent (SettleLoses s stage m live cause is some) busy = (record { grant = refl; writer = refl; applied = refl }, tt)
  busy_silent (SettleFrees s stage copies is none by) busy = (record { grant = refl; writer = refl; applied = refl }, tt)
  busy_silent (CopyBegins s stage copies is some by) busy = tt
  busy_silent (CopyTurns s c x k shown) busy = busy_silent k refl
  busy_silent (CopyLoses s c m live cause is some) busy = (record { grant = refl; writer = refl; applied = refl }, tt)
  busy_silent (TargetLost s c id cause x other k) busy = (record { grant = refl; writer = refl; applied = refl }, busy_silent k refl)
  busy_silent (CopyFrees s c by copies is over none) busy = (record { grant = refl; writer = refl; applied = refl }, tt)
  busy_silent (CopySwaps s c by copies is t targets over some) busy = swapped_silent n (t ∷ targets)

  pub grant_or : (t : Story) (uid : ℕ) {s : LayoutState} {a : Activity} {x : FileStep} → StepKind n fresh input s a x → HasUids t uid n s a → IsGrantOf t uid n s x.entries ⊎ AllByRecursion IsSilent x.entries
  grant_or t uid (Rests s a) h = inr tt
  grant_or t uid (Learnt s y a x e k) h =
      elim (grant_or t uid k (alike_uids t uid n s y a e h)) [
        | inl g ↦ inl (record { cred = g.cred; own = g.own ∙ e.cred; plain = g.plain; holder = g.holder; writes = g.writes; taken = g.taken; is = g.is })
        | inr silent ↦ inr silent
      ]
  grant_or t uid (Recalled s holder is_recalled is) h = inr tt
  grant_or t uid (Grants s holder writes is taken) h = inl (record { cred = s.cred; own = refl; plain = h; holder = holder; writes = writes; taken = taken; is = refl })
  grant_or t uid (Ends s holder is_recalled left cause live end is leaving of kept) h =
      inr (all_append IsSilent left (entry.Ended (file_id n) s.cred cause ∷ []) (all_more (IsLeaving n) IsSilent left (leaving_silent n) leaving) (record { grant = refl; writer = refl; applied = refl }, tt))
  grant_or t uid (Resilvers s is) h = inr tt
  grant_or t uid (MakingTurns s all then x same k) h = inr (busy_silent k refl)
  grant_or t uid (MakingDone s all is) h = inr (record { grant = refl; writer = refl; applied = refl }, tt)
  grant_or t uid (FenceTurns s fence then x same k) h = inr (busy_silent k refl)
  grant_or t uid (FenceLoses s fence id cause x some k) h = inr (record { grant = refl; writer = refl; applied = refl }, busy_silent k refl)
  grant_or t uid (FenceDone s fence next end is same done) h = inr (record { grant = refl; writer = refl; applied = refl }, free_silent n end s.live)
  grant_or t uid (SettleTurns s stage then x outs k) h = inr (busy_silent k refl)
  grant_or t uid (SettleLoses s stage m live cause is some) h = inr (record { grant = refl; writer = refl; applied = refl }, tt)
  grant_or t uid (SettleFrees s stage copies is none by) h = inr (record { grant = refl; writer = refl; applied = refl }, tt)
  grant_or t uid (CopyBegins s stage copies is some by) h = inr tt
  grant_or t uid (CopyTurns s c x k shown) h = inr (busy_silent k refl)
  grant_or t uid (CopyLoses s c m live cause is some) h = inr (record { grant = refl; writer = refl; applied = refl }, tt)
  grant_or t uid (TargetLost s c id cause x other k) h = inr (record { grant = refl; writer = refl; applied = refl }, busy_silent k refl)
  grant_or t uid (CopyFrees s c by copies is over none) h = inr (record { grant = refl; writer = refl; applied = refl }, tt)
  grant_or t uid (CopySwaps s c by copies is o targets over some) h = inr (swapped_silent n (o ∷ targets))

-- ---- the uids of a file behind its step

none_source : (replaced : Option MirrorId) → IsNotSource [] replaced
none_source None = tt
none_source (Some id) = refl

pub same_copier : (input : FileInput) (c : CopyState) → (copy_turned input c).copy.copier ≡ c.copier
same_copier (Answers xid reply) c = (reply_step [] c (all_any (λ t. IsNotSource [] t.replaced) c.targets (λ t. none_source t.replaced)) xid reply).same
same_copier (TimesOut xid) c = (timeout_step [] c (all_any (λ t. IsNotSource [] t.replaced) c.targets (λ t. none_source t.replaced)) xid).same
same_copier Ticks c = refl
same_copier _ c = refl

module _ (t : Story) (uid name : ℕ) (then : Story) (more : ℕ) (on : IsOnward t uid name then) (up : uid ≤ more) (n names servers : ℕ) (input : FileInput) (journal : List Entry) where
  abbrev fresh : Fresh
  fresh = record { uid = uid; name = names; servers = servers }

  abbrev Draws : FileStep → Type 0
  Draws x = x.uids ≡ 1 → IsNewUid journal n uid then more x.file.activity

  stays_so : (s : LayoutState) (a : Activity) → HasUids t uid n s a → HasUids then more n s a
  stays_so s a h = uids_on t uid name then more on up n s a h

  same_plain : (u : ℕ) → IsPlainUid t uid n u → IsPlainUid then more n u
  same_plain u h = plain_on t uid name then more on up n u h

  new_fence : (a : Activity) → IsMine then.whose more n uid → then.copied uid ≡ None → IsPlainUid then more n uid
  new_fence a mine copied = record { mine = mine; no_copy = copied }

  freed_uid : (s : LayoutState) (fence next : ℕ) → next ≡ fence → HasFenceUids t uid n s.cred.0 fence → IsPlainUid then more n next
  freed_uid s fence next same h = subst (λ (u : ℕ). IsPlainUid then more n u) (sym same) (same_plain fence h.new)

  pub uids_kind : {s : LayoutState} {a : Activity} {x : FileStep} → StepKind n fresh input s a x → HasUids t uid n s a → Draws x → HasUids then more n x.file.layout x.file.activity
  uids_kind (Rests s a) h d = stays_so s a h
  uids_kind (Learnt s y a x e k) h d = uids_kind k (alike_uids t uid n s y a e h) d
  uids_kind (Recalled s holder is_recalled is) h d = same_plain s.cred.0 h
  uids_kind (Grants s holder writes is taken) h d = same_plain s.cred.0 h
  uids_kind (Ends s holder is_recalled left cause live end is leaving of kept) h d = let new = d refl in record { old = mine_on t uid name then more on up n s.cred.0 h.mine; new = record { mine = new.mine; no_copy = new.copied }; later = h.mine.drawn }
  uids_kind (Resilvers s is) h d = same_plain s.cred.0 h
  uids_kind (MakingTurns s all next x same k) h d = uids_kind k h d
  uids_kind (MakingDone s all is) h d = same_plain s.cred.0 h
  uids_kind (FenceTurns s fence next x same k) h d = uids_kind k (subst (λ (u : ℕ). HasFenceUids t uid n s.cred.0 u) (sym same) h) d
  uids_kind (FenceLoses s fence id cause x some k) h d = uids_kind k h d
  uids_kind (FenceDone s fence next Clean is same done) h d = freed_uid s fence.cred next.0 same h
  uids_kind (FenceDone s fence next Dirty is same done) h d = freed_uid s fence.cred next.0 same h
  uids_kind (FenceDone s fence next Copied is same done) h d = freed_uid s fence.cred next.0 same h
  uids_kind (SettleTurns s stage next x outs k) h d = uids_kind k h d
  uids_kind (SettleLoses s stage m live cause is some) h d = same_plain s.cred.0 h
  uids_kind (SettleFrees s stage copies is none by) h d = same_plain s.cred.0 h
  uids_kind (CopyBegins s stage copies is some by) h d = let new = d refl in record { plain = same_plain s.cred.0 h; copier = record { mine = new.mine; bytes = bytes_of journal (file_id n); copy = new.copied }; later = h.mine.drawn }
  uids_kind (CopyTurns s c x k shown) h d = uids_kind k (subst (λ (u : ℕ). HasCopyUids t uid n s.cred.0 u) (sym (same_copier input c)) h) d
  uids_kind (CopyLoses s c m live cause is some) h d = same_plain s.cred.0 h.plain
  uids_kind (TargetLost s c id cause x other k) h d = uids_kind k h d
  uids_kind (CopyFrees s c by copies is over none) h d = same_plain s.cred.0 h.plain
  uids_kind (CopySwaps s c by copies is o targets over some) h d = let new = d refl in record { old = mine_on t uid name then more on up n c.copier h.copier.mine; new = record { mine = new.mine; no_copy = new.copied }; later = h.copier.mine.drawn }
