-- The source of a copy: its COMMIT, the READs of it, and that nobody may write to it (RFC 1813, sections 3.3.6 and 3.3.21).
use Rattle.std.proofs.Common.{◌≡◌, ℕ, ◌+◌, ◌≤◌, ◌⊎◌, Bool, true, false, List, [], ◌∷◌, length, Option, Some, None, refl, arith, inl, inr}
use Rattle.std.specs.List.{AllByRecursion}
use Rattle.cluster_model.specs.declared.ids.MirrorId.{MirrorId}
use Rattle.cluster_model.specs.declared.entry.Entry.{Entry}
use Rattle.cluster_model.specs.declared.call_stage.CallStage.{CallStage}
use Rattle.cluster_model.specs.declared.layout_state.LayoutState.{LayoutState}
use Rattle.cluster_model.specs.declared.layout_state.LayoutPhase.{LayoutPhase}
use Rattle.cluster_model.specs.declared.layout_state.LayoutPhase.TheVariants.{Making, Free, Held, Fencing, Settling, Copying}
use Rattle.cluster_model.specs.declared.limits.TheConstants.{PIECE_SIZE}
use Rattle.cluster_model.specs.Journal.{is_mirror, content_of}
use Rattle.cluster_model.specs.DsCalls.{Commit, Read, DsReplyValue, Committed, Bytes}
use Rattle.cluster_model.specs.Fences.{is_out}
use Rattle.cluster_model.specs.Phases.{ids_of}
use Rattle.copy_rule.specs.Copies.{CopyState}
use Rattle.copy_rule.specs.declared.copy_target.CopyTarget.{CopyTarget}
use Rattle.file_rule.specs.MdsFiles.{Activity, Idle, Makes, Fences, Settles, Copies}
use Rattle.cluster_laws.specs.Machine.{PacketValue}
use Rattle.cluster_laws.proofs.PeriodStates.{IsMine, IsUnused}
use Rattle.machine_walk.proofs.Stories.{Story}
use Rattle.copied_bytes.proofs.Wholes.{IsWhole}
use Rattle.copied_bytes.proofs.Slices.{IsSlice}
use Rattle.copied_bytes.proofs.CallsKept.{IsOutSo}

abbrev pub owner_of : List Entry → MirrorId → ℕ
owner_of journal id = (content_of journal id).owner

-- from this uid on none of the file's was granted
pub record IsUnusedFrom (t : Story) (uid : ℕ) (journal : List Entry) (n least : ℕ) : Type 0 where
  pub none : (u : ℕ) → IsMine t.whose uid n u → least ≤ u → IsUnused journal u

-- a mirror that no user may write to, and no copy
pub record IsShut (t : Story) (uid : ℕ) (journal : List Entry) (n : ℕ) (id : MirrorId) : Type 0 where
  pub plain : t.copied (owner_of journal id) ≡ None
  pub unused : IsUnusedFrom t uid journal n (owner_of journal id)

abbrev pub AreShut : Story → ℕ → List Entry → ℕ → LayoutPhase → List MirrorId → Type 0
AreShut t uid journal n Making ids = Unit {0}
AreShut t uid journal n Free ids = AllByRecursion (IsShut t uid journal n) ids
AreShut t uid journal n (Held holder is_recalled) ids = Unit {0}
AreShut t uid journal n (Fencing next end) ids = Unit {0}
AreShut t uid journal n (Settling copies) ids = AllByRecursion (IsShut t uid journal n) ids
AreShut t uid journal n (Copying copier copies) ids = AllByRecursion (IsShut t uid journal n) ids

abbrev pub is_shut_phase : LayoutPhase → Bool
is_shut_phase Making = false
is_shut_phase Free = true
is_shut_phase (Held holder is_recalled) = false
is_shut_phase (Fencing next end) = false
is_shut_phase (Settling copies) = true
is_shut_phase (Copying copier copies) = true

pub shut_in : (t : Story) (uid : ℕ) (journal : List Entry) (n : ℕ) (p : LayoutPhase) (ids : List MirrorId) → is_shut_phase p ≡ true → AreShut t uid journal n p ids → AllByRecursion (IsShut t uid journal n) ids
shut_in t uid journal n Making ids e h = absurd cc
shut_in t uid journal n Free ids e h = h
shut_in t uid journal n (Held holder is_recalled) ids e h = absurd cc
shut_in t uid journal n (Fencing next end) ids e h = absurd cc
shut_in t uid journal n (Settling copies) ids e h = h
shut_in t uid journal n (Copying copier copies) ids e h = h

-- what is so of all of them holds in a phase in which they are shut, and in others nothing is asked
pub shut_by : (t : Story) (uid : ℕ) (journal : List Entry) (n : ℕ) (p : LayoutPhase) (ids : List MirrorId) → (is_shut_phase p ≡ true → AllByRecursion (IsShut t uid journal n) ids) → AreShut t uid journal n p ids
shut_by t uid journal n Making ids h = tt
shut_by t uid journal n Free ids h = h refl
shut_by t uid journal n (Held holder is_recalled) ids h = tt
shut_by t uid journal n (Fencing next end) ids h = tt
shut_by t uid journal n (Settling copies) ids h = h refl
shut_by t uid journal n (Copying copier copies) ids h = h refl

-- ---- what replies say

abbrev pub IsCommitReply : List Entry → MirrorId → DsReplyValue → Type 0
IsCommitReply journal id (Committed shown verifier) = (bytes : List ℕ) × IsWhole bytes (content_of journal id).content
IsCommitReply journal id _ = Unit {0}

abbrev pub IsReadReply : List ℕ → ℕ → DsReplyValue → Type 0
IsReadReply bytes at (Bytes shown eof piece) = IsSlice bytes at piece × (eof ≡ true → at + length piece ≡ length bytes)
IsReadReply bytes at _ = Unit {0}

-- ---- settling, and copying

abbrev pub SettlesSo : List PacketValue → ℕ → List Entry → CallStage → List MirrorId → Type 0
SettlesSo packets last journal stage [] = Unit {0}
SettlesSo packets last journal stage (id ∷ ids) = (xid : ℕ) → is_out xid stage ≡ true → IsOutSo packets last xid id.server (Commit id.fileid) (IsCommitReply journal id)

abbrev pub IsNotFirst : MirrorId → Option MirrorId → Type 0
IsNotFirst id None = Unit {0}
IsNotFirst id (Some old) = is_mirror id old ≡ false

pub record CopiesFrom (t : Story) (packets : List PacketValue) (last : ℕ) (journal : List Entry) (c : CopyState) (id : MirrorId) : Type 0 where
  pub from : c.source ≡ id
  pub bytes : List ℕ
  pub copy : t.copied c.copier ≡ Some bytes
  pub whole : IsWhole bytes (content_of journal id).content
  pub slice : IsSlice bytes c.at c.piece
  pub over : c.ended ≡ true → c.at + length c.piece ≡ length bytes
  pub reads : (xid : ℕ) → is_out xid c.read ≡ true → IsOutSo packets last xid id.server (Read id.fileid c.at PIECE_SIZE) (IsReadReply bytes c.at)
  pub replaced : AllByRecursion (λ (x : CopyTarget). IsNotFirst id x.replaced) c.targets

abbrev pub CopiesSo : Story → List PacketValue → ℕ → List Entry → CopyState → List MirrorId → Type 0
CopiesSo t packets last journal c [] = ⊥
CopiesSo t packets last journal c (id ∷ ids) = CopiesFrom t packets last journal c id

abbrev pub IsBusySo : Story → ℕ → List PacketValue → ℕ → List Entry → ℕ → LayoutState → Activity → Type 0
IsBusySo t uid packets last journal n s Idle = Unit {0}
IsBusySo t uid packets last journal n s (Makes all) = (u : ℕ) → IsMine t.whose uid n u → u ≡ s.cred.0
IsBusySo t uid packets last journal n s (Fences fence) = Unit {0}
IsBusySo t uid packets last journal n s (Settles stage) = SettlesSo packets last journal stage (ids_of s.live)
IsBusySo t uid packets last journal n s (Copies c) = CopiesSo t packets last journal c (ids_of s.live)

pub record KeepsFile (t : Story) (uid : ℕ) (packets : List PacketValue) (last : ℕ) (journal : List Entry) (n : ℕ) (s : LayoutState) (a : Activity) : Type 0 where
  pub above : IsUnusedFrom t uid journal n (s.cred.0 + 1)
  pub shut : AreShut t uid journal n s.phase (ids_of s.live)
  pub busy : IsBusySo t uid packets last journal n s a

-- ---- a file that takes no step

-- nobody may write there now
pub record IsShutNow (t : Story) (journal : List Entry) (id : MirrorId) : Type 0 where
  pub plain : t.copied (owner_of journal id) ≡ None
  pub unused : IsUnused journal (owner_of journal id)

pub shut_now : (t : Story) (uid : ℕ) (journal : List Entry) (n : ℕ) (id : MirrorId) → IsMine t.whose uid n (owner_of journal id) → IsShut t uid journal n id → IsShutNow t journal id
shut_now t uid journal n id mine h = record { plain = h.plain; unused = h.unused.none (owner_of journal id) mine (omega arith) }

-- what goes on of one mirror, and of the uids of a file
pub record GoesOnAt (t then : Story) (journal later : List Entry) (id : MirrorId) : Type 0 where
  pub rises : owner_of journal id ≤ owner_of later id
  pub plain : t.copied (owner_of journal id) ≡ None → then.copied (owner_of later id) ≡ None
  pub whole : (bytes : List ℕ) → IsShutNow t journal id → IsWhole bytes (content_of journal id).content → IsWhole bytes (content_of later id).content

pub record GoesOnWith (t : Story) (uid : ℕ) (then : Story) (more n : ℕ) (journal later : List Entry) : Type 0 where
  pub mine : (u : ℕ) → IsMine then.whose more n u → IsMine t.whose uid n u ⊎ (uid ≤ u)
  pub unused : (u : ℕ) → IsMine t.whose uid n u → IsUnused journal u → IsUnused later u
  pub fresh : (u : ℕ) → uid ≤ u → IsUnused later u

module _ (t : Story) (uid : ℕ) (then : Story) (more n : ℕ) (journal later : List Entry) (on : GoesOnWith t uid then more n journal later) where
  pub unused_from : (least next : ℕ) → least ≤ next → IsUnusedFrom t uid journal n least → IsUnusedFrom then more later n next
  unused_from least next up h = record {
    none = λ u mine le.
        elim (on.mine u mine) [
          | inl old ↦ on.unused u old (h.none u old (omega (arith, le, up)))
          | inr new ↦ on.fresh u new
        ];
  }

  pub shut_on : (id : MirrorId) → GoesOnAt t then journal later id → IsShut t uid journal n id → IsShut then more later n id
  shut_on id at h = record { plain = at.plain h.plain; unused = unused_from (owner_of journal id) (owner_of later id) at.rises h.unused }

  pub all_shut_on : (ids : List MirrorId) → AllByRecursion (GoesOnAt t then journal later) ids → AllByRecursion (IsShut t uid journal n) ids → AllByRecursion (IsShut then more later n) ids
  all_shut_on [] at h = tt
  all_shut_on (id ∷ ids) at h = (shut_on id at.0 h.0, all_shut_on ids at.1 h.1)
