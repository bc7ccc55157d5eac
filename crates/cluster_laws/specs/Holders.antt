-- What the agreement law asks of those who hold a file, as a relation on the moves of a run; and the law (RFC 8435, sections 2.2 and 8;
-- RFC 1813, sections 3.3.7 and 3.3.21).
use Rattle.std.specs.Prelude.{◌≡◌, ℕ, ◌<◌, ◌⊎◌, Bool, true, false, List, [], ◌∷◌, ◌++◌, length, map, Option, Some, None, is_some, slice_get}
use Rattle.std.specs.List.{AllByRecursion}
use Rattle.cluster_model.specs.declared.ids.NodeId.{NodeId}
use Rattle.cluster_model.specs.declared.ids.NodeId.TheVariants.{Mds, Client}
use Rattle.cluster_model.specs.declared.ids.FileId.{FileId}
use Rattle.cluster_model.specs.declared.ids.MirrorId.{MirrorId}
use Rattle.cluster_model.specs.declared.ids.Mirror.{Mirror}
use Rattle.cluster_model.specs.declared.phase.EndCause.{EndCause}
use Rattle.cluster_model.specs.declared.entry.Entry.{Entry}
use Rattle.cluster_model.specs.declared.ds_call.Shown.{Shown}
use Rattle.cluster_model.specs.declared.layout_state.LayoutPhase.TheVariants.{Held}
use Rattle.cluster_model.specs.Content.{Pending}
use Rattle.cluster_model.specs.Laws.{AreDisjoint}
use Rattle.cluster_model.specs.DsCalls.{DsCallValue, Create, SetAttr, Write, Commit, Read, Written, Committed}
use Rattle.cluster_model.specs.Phases.{ids_of, unreported, is_clean}
use Rattle.file_rule.specs.MdsFiles.{MdsFile}
use Rattle.file_rule.specs.FilePhases.{FileInput, OwnWrite, Returns, OwnEnds}
use Rattle.cluster_laws.specs.Machine.{PacketValue, Call, Reply, Holding, Machine, Move, Deliver, Creates, Happens, CallsOut, SendsAgain, GivesUpWaiting, Hears, Uses, Learns, Takes, Strays, Tells, Restarts, new_machine, numbered_at, moved, journal_of}
use Rattle.cluster_laws.specs.FenceLaw.{new_servers}
use Rattle.cluster_laws.specs.Agreement.{sent_of, rogue_of, causes_of, AgreesAlways}

-- ---- packets

abbrev pub IsPacketAt : List PacketValue → ℕ → PacketValue → Type 0
IsPacketAt packets place packet = slice_get packets place ≡ Some packet

-- A write is covered at a mirror: a WRITE of it was answered, a COMMIT of the mirror went out behind that answer, and this COMMIT was
-- answered with the same verifier.
pub record IsCovered (packets : List PacketValue) (uid : ℕ) (id : MirrorId) (w : Pending) : Type 0 where
  pub writer : NodeId
  pub write_xid : ℕ
  pub write_gid : ℕ
  pub synced : Bool
  pub write_place : ℕ
  pub write : IsPacketAt packets write_place (Call writer id.server write_xid uid write_gid (Write id.fileid w.at synced w.bytes))
  pub verifier : ℕ
  pub write_shown : Option Shown
  pub written_place : ℕ
  pub written : IsPacketAt packets written_place (Reply write_place id.server writer write_xid (Written write_shown verifier))
  pub committer : NodeId
  pub commit_xid : ℕ
  pub commit_uid : ℕ
  pub commit_gid : ℕ
  pub commit_place : ℕ
  pub behind : written_place < commit_place
  pub commit : IsPacketAt packets commit_place (Call committer id.server commit_xid commit_uid commit_gid (Commit id.fileid))
  pub commit_shown : Option Shown
  pub committed_place : ℕ
  pub committed : IsPacketAt packets committed_place (Reply commit_place id.server committer commit_xid (Committed commit_shown verifier))

-- each write that was taken, at each of these mirrors
abbrev pub AreCovered : List PacketValue → List Entry → ℕ → List MirrorId → Type 0
AreCovered packets journal uid ids = AllByRecursion (λ id. AllByRecursion (IsCovered packets uid id) (sent_of uid journal)) ids

-- ---- writes of a user

abbrev pub IsIn : Pending → List Pending → Type 0
IsIn w [] = ⊥
IsIn w (v ∷ writes) = (v ≡ w) ⊎ IsIn w writes

abbrev pub the_write : ℕ → List ℕ → Pending
the_write at bytes = record { at = at; bytes = bytes }

pub record HasEndedClean (journal : List Entry) (uid : ℕ) : Type 0 where
  pub cause : EndCause
  pub more : List EndCause
  pub causes : causes_of uid journal ≡ cause ∷ more
  pub clean : is_clean cause ≡ true

abbrev pub HasNotEndedClean : List Entry → ℕ → Type 0
HasNotEndedClean journal uid = AllByRecursion (λ (cause : EndCause). is_clean cause ≡ false) (causes_of uid journal)

-- ---- what a holder may do

-- A WRITE that goes out under a granted uid is of a write that was taken, or that strayed.
abbrev pub IsBoundCall : List Entry → ℕ → DsCallValue → Type 0
IsBoundCall journal uid (Create name owner) = Unit {0}
IsBoundCall journal uid (SetAttr fileid owner guard) = Unit {0}
IsBoundCall journal uid (Write fileid at synced bytes) = IsIn (the_write at bytes) (sent_of uid journal) ⊎ IsIn (the_write at bytes) (rogue_of uid journal)
IsBoundCall journal uid (Commit fileid) = Unit {0}
IsBoundCall journal uid (Read fileid at count) = Unit {0}

-- What is taken is not empty, apart from all that was taken, before anything of its user strayed, and not behind a clean end.
pub record MayTake (journal : List Entry) (uid at : ℕ) (bytes : List ℕ) : Type 0 where
  pub some : 0 < length bytes
  pub apart : AllByRecursion (λ w. AreDisjoint w.at w.bytes at bytes) (sent_of uid journal)
  pub follows : rogue_of uid journal ≡ []
  pub not_clean : HasNotEndedClean journal uid

-- What is told is a write of a user that has ended clean, or is covered at every mirror of its layout, reported or not.
pub record IsCoveredEverywhere (packets : List PacketValue) (journal : List Entry) (h : Holding) (at : ℕ) (bytes : List ℕ) : Type 0 where
  pub some : 0 < length bytes
  pub sent : IsIn (the_write at bytes) (sent_of h.uid journal)
  pub covered : AllByRecursion (λ id. IsCovered packets h.uid id (the_write at bytes)) h.mirrors

abbrev pub MayTell : List PacketValue → List Entry → Holding → ℕ → List ℕ → Type 0
MayTell packets journal h at bytes = HasEndedClean journal h.uid ⊎ IsCoveredEverywhere packets journal h at bytes

-- A clean end: none of the user strayed, and each write that was taken is covered at each mirror that stays. With no mirror left the end is
-- dirty.
pub record MayEndClean (packets : List PacketValue) (journal : List Entry) (uid : ℕ) (ids : List MirrorId) : Type 0 where
  pub follows : rogue_of uid journal ≡ []
  pub covered : AreCovered packets journal uid ids

abbrev pub MayEnd : List PacketValue → List Entry → ℕ → List Mirror → Type 0
MayEnd packets journal uid [] = Unit {0}
MayEnd packets journal uid (m ∷ kept) = MayEndClean packets journal uid (ids_of (m ∷ kept))

-- ---- moves

abbrev pub IsBoundInput : List PacketValue → List Entry → FileInput → Option MdsFile → Type 0
IsBoundInput packets journal input None = Unit {0}
IsBoundInput packets journal (OwnWrite at bytes) (Some f) = 0 < length bytes
IsBoundInput packets journal (Returns client claimed places) (Some f) =
    (is_recalled : Bool) → f.layout.phase ≡ Held (Client client) is_recalled → f.layout.cred.0 ≡ claimed.0 → MayEnd packets journal f.layout.cred.0 (unreported places f.layout.live)
IsBoundInput packets journal (OwnEnds causes at bytes) (Some f) =
    (is_recalled : Bool) → f.layout.phase ≡ Held Mds is_recalled → MayEnd packets journal f.layout.cred.0 (unreported (map is_some causes) f.layout.live)
IsBoundInput packets journal _ (Some f) = Unit {0}

-- the uid was granted, and the layout that was granted with it is so
pub record HeldUnder (m : Machine) (uid : ℕ) (P : Holding → Type 0) : Type 0 where
  pub place : ℕ
  pub held : Holding
  pub there : slice_get m.holdings place ≡ Some held
  pub its_uid : held.uid ≡ uid
  pub so : P held

-- a move in the machine and behind the journal that it meets
abbrev pub IsBound : Machine → List Entry → Move → Type 0
IsBound m journal (Deliver place) = Unit {0}
IsBound m journal (Creates at_servers) = Unit {0}
IsBound m journal (Happens n input) = IsBoundInput m.packets journal input (numbered_at m.files n)
IsBound m journal (CallsOut n xid) = Unit {0}
IsBound m journal (SendsAgain place) = Unit {0}
IsBound m journal (GivesUpWaiting n xid) = Unit {0}
IsBound m journal (Hears n place) = Unit {0}
IsBound m journal (Uses node server xid uid gid call) = IsBoundCall journal uid call
IsBound m journal (Learns n place id) = Unit {0}
IsBound m journal (Takes file uid at bytes) = HeldUnder m uid (λ h. MayTake journal uid at bytes)
IsBound m journal (Strays file uid at bytes) = HeldUnder m uid (λ h. HasNotEndedClean journal uid)
IsBound m journal (Tells file uid at bytes) = HeldUnder m uid (λ h. MayTell m.packets journal h at bytes)
IsBound m journal (Restarts n pieces) = Unit {0}

abbrev pub AreBoundFrom : Machine → List Entry → List Move → Type 0
AreBoundFrom m journal [] = Unit {0}
AreBoundFrom m journal (move ∷ moves) = IsBound m journal move × AreBoundFrom (moved m move).machine (journal ++ (moved m move).entries) moves

abbrev pub AreBound : List ℕ → List Move → Type 0
AreBound boots moves = AreBoundFrom (new_machine (new_servers 1 boots)) [] moves

-- ---- the law

-- Where all moves are bound each file agrees always.
abbrev pub AgreementLaw : List ℕ → List Move → Type 0
AgreementLaw boots moves = AreBound boots moves → (f : FileId) → AgreesAlways (journal_of (new_machine (new_servers 1 boots)) moves) f
