-- The moves of a metadata server are bound: what the world knows of the ends of its periods, and what stands of its own writes in the
-- machine between its events (RFC 8435, sections 2.2 and 8; RFC 8881, section 18.32; RFC 1813, sections 3.3.7 and 3.3.21).
use Rattle.std.specs.Prelude.{◌≡◌, ℕ, ◌*◌, ◌<◌, ◌≤◌, Bool, true, false, List, [], ◌∷◌, ◌++◌, length, map, Option, Some, None, is_some}
use Rattle.std.specs.List.{find}
use Rattle.cluster_model.specs.declared.ids.NodeId.TheVariants.{Mds}
use Rattle.cluster_model.specs.declared.ids.FileId.{FileId}
use Rattle.cluster_model.specs.declared.ids.Cred.{Cred}
use Rattle.cluster_model.specs.declared.ids.MirrorId.{MirrorId}
use Rattle.cluster_model.specs.declared.phase.EndCause.{EndCause}
use Rattle.cluster_model.specs.declared.phase.EndCause.TheVariants.{Returned, Own, AllReported, Recalled, Lease, NoLayout, ClientGone, ReturnedAll}
use Rattle.cluster_model.specs.declared.phase.LeftCause.{LeftCause}
use Rattle.cluster_model.specs.declared.entry.Entry.{Entry}
use Rattle.cluster_model.specs.declared.entry.Entry.TheVariants as entry
use Rattle.cluster_model.specs.declared.ds_call.Shown.{Shown}
use Rattle.cluster_model.specs.declared.layout_state.LayoutPhase.TheVariants.{Held}
use Rattle.cluster_model.specs.DsCalls.{DsCallValue, Write, Commit, Written}
use Rattle.cluster_model.specs.Phases.{ids_of}
use Rattle.cluster_model.specs.Members.{IsOneOf}
use Rattle.file_rule.specs.declared.fresh.Fresh.{Fresh}
use Rattle.file_rule.specs.MdsFiles.{Idle, MdsFile}
use Rattle.cluster_laws.specs.Machine.{PacketValue, Call, Reply, Machine, Move, new_machine, machine_after, journal_of}
use Rattle.cluster_laws.specs.CallRanges.{AreServersInRange}
use Rattle.cluster_laws.specs.FenceLaw.{live_in, new_servers}
use Rattle.cluster_laws.specs.Agreement.{a_write, sent_of, rogue_of}
use Rattle.cluster_laws.specs.Holders.{IsPacketAt, IsCovered, AreCovered, IsIn, the_write, AreBoundFrom}
use Rattle.cluster_laws.specs.Telling.{telling}
use Rattle.cluster_laws.proofs.FewMirrors.{FileHasFew}
use Rattle.machine_moves.specs.MachineGoesOn.{MachineGoesOn}
use Rattle.machine_moves.specs.MachineMoves.{KeepsPackets}
use Rattle.device_addr.specs.Universal.{AddressValue}
use Rattle.mirror_writer.specs.declared.call.WriteAnswer.{WriteAnswer}
use Rattle.mirror_writer.specs.declared.call.WriterCall.{WriterCall}
use Rattle.mirror_writer.specs.declared.call.WriterCall.TheVariants.{NoCall, OutWrite, OutCommit}
use Rattle.mirror_writer.specs.Writers.{WriterMirror}
use Rattle.mds_rule.specs.MdsStates.{WaitingWrite, ServedFile, MdsSend, CallsServer, MdsValue, new_mds}
use Rattle.mds_rule.specs.Answers.{is_failure_of}
use Rattle.mds_walk.specs.MdsRuns.{MdsEvent, after_event}
use Rattle.mds_walk.proofs.Lists.{AllOf}
use Rattle.mds_moves.specs.MdsMoves.{IsMdsOf, MayComeTo}

-- ---- the machine, with its journal

-- a run of the machine came to it, with this journal
pub record IsReachedBy (mc : Machine) (past : List Entry) : Type 0 where
  pub boots : List ℕ
  pub moves : List Move
  pub machine : machine_after (new_machine (new_servers 1 boots)) moves ≡ mc
  pub journal : journal_of (new_machine (new_servers 1 boots)) moves ≡ past

-- ---- what is known of the entries of an event

-- A clean end by a return: nothing of the user strayed, and what was taken is covered at the mirrors that are live. By an own write: nothing
-- strayed, and what was taken is the one write that is told right before it.
pub record EndsByReturn (packets : List PacketValue) (journal : List Entry) (f : FileId) (uid : ℕ) : Type 0 where
  pub follows : rogue_of uid journal ≡ []
  pub covered : (ids : List MirrorId) → live_in journal f ≡ Some ids → AreCovered packets journal uid ids

pub record EndsByOwn (journal a : List Entry) (f : FileId) (cred : Cred) : Type 0 where
  pub follows : rogue_of cred.0 journal ≡ []
  pub one : (before : List Entry) (at : ℕ) (bytes : List ℕ) → a ≡ before ++ entry.Told f cred at bytes ∷ [] → sent_of cred.0 journal ≡ a_write at bytes

abbrev pub IsCleanEnd : List PacketValue → List Entry → List Entry → FileId → Cred → EndCause → Type 0
IsCleanEnd packets journal a f cred Returned = EndsByReturn packets journal f cred.0
IsCleanEnd packets journal a f cred Own = EndsByOwn journal a f cred
IsCleanEnd packets journal a f cred AllReported = Unit {0}
IsCleanEnd packets journal a f cred Recalled = Unit {0}
IsCleanEnd packets journal a f cred Lease = Unit {0}
IsCleanEnd packets journal a f cred NoLayout = Unit {0}
IsCleanEnd packets journal a f cred ClientGone = Unit {0}
IsCleanEnd packets journal a f cred ReturnedAll = Unit {0}

-- each clean end, behind all that was entered before it
abbrev pub EndsInOrder : List PacketValue → List Entry → List Entry → Type 0
EndsInOrder packets past entries =
    (a b : List Entry) (f : FileId) (cred : Cred) (cause : EndCause) → entries ≡ a ++ entry.Ended f cred cause ∷ b → IsCleanEnd packets (past ++ telling a) a f cred cause

-- ---- what stands of an own write

-- a WRITE of it to a mirror was answered with this verifier
pub record IsWriteAnswered (packets : List PacketValue) (uid : ℕ) (id : MirrorId) (at : ℕ) (bytes : List ℕ) (verifier : ℕ) : Type 0 where
  pub xid : ℕ
  pub synced : Bool
  pub called : ℕ
  pub call : IsPacketAt packets called (Call Mds id.server xid uid uid (Write id.fileid at synced bytes))
  pub shown : Option Shown
  pub place : ℕ
  pub there : IsPacketAt packets place (Reply called id.server Mds xid (Written shown verifier))

-- the metadata server's calls of a number are behind this place
abbrev pub AreCallsBehind : List PacketValue → ℕ → ℕ → Type 0
AreCallsBehind packets place xid = (p server uid gid : ℕ) (call : DsCallValue) → IsPacketAt packets p (Call Mds server xid uid gid call) → place < p

pub record IsAnsweredBefore (packets : List PacketValue) (uid : ℕ) (id : MirrorId) (at : ℕ) (bytes : List ℕ) (verifier xid : ℕ) : Type 0 where
  pub answer : IsWriteAnswered packets uid id at bytes verifier
  pub before : AreCallsBehind packets answer.place xid

abbrev pub IsAnswerKept : List PacketValue → ℕ → MirrorId → ℕ → List ℕ → WriteAnswer → Type 0
IsAnswerKept packets uid id at bytes a = IsWriteAnswered packets uid id at bytes a.verifier

-- its call that is out was sent; a COMMIT went out behind the answers that are kept
abbrev pub IsCallOut : List PacketValue → List MdsSend → ℕ → ℕ → List ℕ → WriterMirror → WriterCall → Type 0
IsCallOut packets ss uid at bytes m NoCall = Unit {0}
IsCallOut packets ss uid at bytes m (OutWrite xid write timeouts) = IsOneOf (CallsServer m.id.server xid uid (Write m.id.fileid at false bytes)) ss
IsCallOut packets ss uid at bytes m (OutCommit xid timeouts) =
    IsOneOf (CallsServer m.id.server xid uid (Commit m.id.fileid)) ss × AllOf (λ (a : WriteAnswer). IsAnsweredBefore packets uid m.id at bytes a.verifier xid) m.answered

-- a mirror of it
pub record IsWrittenTo (packets : List PacketValue) (ss : List MdsSend) (uid at : ℕ) (bytes : List ℕ) (failures : List (MirrorId × LeftCause)) (m : WriterMirror) : Type 0 where
  pub out : IsCallOut packets ss uid at bytes m m.call
  pub answered : AllOf (IsAnswerKept packets uid m.id at bytes) m.answered
  pub is_covered : Bool
  pub flag : m.covered ≡ is_covered ∷ []
  pub covers : is_covered ≡ true → IsCovered packets uid m.id (the_write at bytes)
  pub failed : m.has_failed ≡ true → is_some (find (is_failure_of m.id) failures) ≡ true

-- The metadata server holds the file, which has its mirrors, and the write was taken.
pub record IsOwnWrite (packets : List PacketValue) (journal : List Entry) (ss : List MdsSend) (f : MdsFile) (w : WaitingWrite) : Type 0 where
  pub is_recalled : Bool
  pub held : f.layout.phase ≡ Held Mds is_recalled
  pub idle : f.activity ≡ Idle
  pub uid : f.layout.cred.0 ≡ w.writer.cred
  pub mirrors : map (λ (m : WriterMirror). m.id) w.writer.mirrors ≡ ids_of f.layout.live
  pub taken : w.writer.taken ≡ (record { at = w.at; bytes = w.bytes }) ∷ []
  pub some : 0 < length w.bytes
  pub sent : IsIn (the_write w.at w.bytes) (sent_of w.writer.cred journal)
  pub each : AllOf (IsWrittenTo packets ss w.writer.cred w.at w.bytes w.failures) w.writer.mirrors

abbrev pub OwnWriteStands : List PacketValue → List Entry → List MdsSend → MdsFile → Option WaitingWrite → Type 0
OwnWriteStands packets journal ss f None = Unit {0}
OwnWriteStands packets journal ss f (Some w) = IsOwnWrite packets journal ss f w

abbrev pub ServedStands : List PacketValue → List Entry → List MdsSend → ServedFile → Type 0
ServedStands packets journal ss s = OwnWriteStands packets journal ss s.file s.write

-- of all files; none has more than four mirrors, and names are drawn with uids, four with one at most
pub record HasOwnWrites (packets : List PacketValue) (journal : List Entry) (ss : List MdsSend) (all : List ServedFile) (fresh : Fresh) : Type 0 where
  pub writes : AllOf (ServedStands packets journal ss) all
  pub few : AllOf (λ (s : ServedFile). FileHasFew s.file) all
  pub names : fresh.name ≤ 4 * fresh.uid

abbrev pub MdsHasOwnWrites : List PacketValue → List Entry → MdsValue → List MdsSend → Type 0
MdsHasOwnWrites packets journal m ss = HasOwnWrites packets journal ss m.files m.fresh

-- a new server has none
abbrev pub NewHasOwnWrites : Type 0
NewHasOwnWrites = (packets : List PacketValue) (journal : List Entry) (servers : List AddressValue) (mirrors : ℕ) → MdsHasOwnWrites packets journal (new_mds servers mirrors) []

-- they stand whatever else comes to the machine
abbrev pub OwnWritesStay : Type 0
OwnWritesStay =
    (mc n : Machine) (past more : List Entry) (m : MdsValue) (ss : List MdsSend) → KeepsPackets mc n → MdsHasOwnWrites mc.packets past m ss → MdsHasOwnWrites n.packets (past ++ more) m ss

-- ---- each event is bound moves of the machine

-- The machine goes on by moves that are bound, and by what these entries tell; its data servers are as they were, the server is its own
-- again, and its own writes stand.
pub record BoundGoesOnBy (mc : Machine) (past entries : List Entry) (m : MdsValue) (ss : List MdsSend) : Type 0 where
  pub machine : Machine
  pub goes : MachineGoesOn mc entries machine
  pub bound : AreBoundFrom mc past goes.moves
  pub servers : machine.servers ≡ mc.servers
  pub is : IsMdsOf machine m ss
  pub reached : IsReachedBy machine (past ++ telling entries)
  pub own : MdsHasOwnWrites machine.packets (past ++ telling entries) m ss

abbrev pub MdsGoesOnBound : Type 0
MdsGoesOnBound =
    (mc : Machine) (past : List Entry) (m : MdsValue) (ss : List MdsSend) (e : MdsEvent) → IsReachedBy mc past → AreServersInRange mc → IsMdsOf mc m ss → MayComeTo mc ss e.input
    → MdsHasOwnWrites mc.packets past m ss → EndsInOrder mc.packets past (after_event e m).entries
    → BoundGoesOnBy mc past (after_event e m).entries (after_event e m).mds (ss ++ (after_event e m).sends)
