-- A metadata server beside the cluster's machine: where the two stand alike, and what each event of the server is there.
use Rattle.std.specs.Prelude.{◌≡◌, ℕ, ◌+◌, ◌^◌, ◌<◌, ◌≤◌, true, not, ◌==◌, List, [], ◌++◌, length, map, Option, Some, None, ◌⊎◌}
use Rattle.rpc_record.specs.Replies.{RpcReply}
use Rattle.cluster_model.specs.declared.limits.TheConstants.{MAX_FILE}
use Rattle.cluster_model.specs.declared.ids.NodeId.{NodeId}
use Rattle.cluster_model.specs.declared.ids.NodeId.TheVariants.{Mds, Server, Client}
use Rattle.cluster_model.specs.declared.ds_call.Shown.{Shown}
use Rattle.cluster_model.specs.declared.entry.Entry.{Entry}
use Rattle.cluster_model.specs.DsCalls.{DsCallValue, Create, SetAttr, Write, Commit, Read, DsReplyValue}
use Rattle.cluster_model.specs.Members.{IsOneOf}
use Rattle.cluster_laws.specs.Machine.{Machine, Move, new_machine, machine_after, fresh_of, ctime_in}
use Rattle.cluster_laws.specs.CallRanges.{AreServersInRange}
use Rattle.cluster_laws.specs.FenceLaw.{new_servers}
use Rattle.machine_moves.specs.MachineGoesOn.{MachineGoesOn, HasCalled, HasServerAnswered}
use Rattle.device_addr.specs.Universal.{AddressValue}
use Rattle.file_rule.specs.declared.fresh.Fresh.{Fresh}
use Rattle.ds_calls.specs.GivenReplies.{reply_of_call}
use Rattle.ds_calls.specs.DsCallLaws.{DsMessage, HasRecord}
use Rattle.mds_receive.specs.MdsReceive.{PassedOver, IsReply, incoming_of}
use Rattle.mds_rule.specs.MdsStates.{WaitingWrite, ServedFile, MdsSend, CallsServer, CallsBack, Replies, Answers, AwaitedCall, MdsValue, new_mds}
use Rattle.mirror_writer.specs.declared.call.TakenWrite.{TakenWrite}
use Rattle.mirror_writer.specs.Writers.{WriterMirror, WriterValue}
use Rattle.mds_rule.specs.declared.waiter.Waiter.{Waiter}
use Rattle.mds_rule.specs.declared.waiter.Waiter.TheVariants.{ForFile, ForRead, ForWrite, ForRecall}
use Rattle.mds_rule.specs.Spelled.{mds_name}
use Rattle.mds_rule.specs.Answers.{attributes_shown, own_answer}
use Rattle.mds_walk.specs.MdsRuns.{MdsInput, MdsEvent, Hears, IsTimedOut, Ticks, RecallsFile, Resilvers, after_event}
use Rattle.mds_laws.specs.MdsRunLaws.{number_sent, AreBelow}
use Rattle.mds_walk.proofs.Lists.{AllOf}
use Rattle.mds_laws.proofs.Keeping.{is_read_call}

-- ---- the server and the machine

-- a run of the machine came to it
abbrev pub IsReached : Machine → Type 0
IsReached mc = (boots : List ℕ) × (moves : List Move) × (machine_after (new_machine (new_servers 1 boots)) moves ≡ mc)

-- a call of the metadata server, which has a record where each of its numbers fits its field
abbrev pub message_of : ℕ → ℕ → DsCallValue → DsMessage
message_of xid uid call = record { xid = xid; machine = mds_name; user = uid; call = call }

-- Its numbers fit; or it is a READ.
abbrev pub IsSpoken : DsMessage → Type 0
IsSpoken message = HasRecord message ⊎ ((HasRecord message → ⊥) × (is_read_call message.call ≡ true))

-- what was sent to a data server stands in the machine
abbrev pub IsSentIn : Machine → MdsSend → Type 0
IsSentIn mc (CallsServer server xid uid call) = HasCalled mc server xid uid call × IsSpoken (message_of xid uid call)
IsSentIn mc (CallsBack xid back file stateid) = Unit {0}
IsSentIn mc (Replies node reply) = Unit {0}
IsSentIn mc (Answers node bytes) = Unit {0}

-- what a file reads has bytes, and an own write sends WRITEs and COMMITs
abbrev pub ReadsBytes : DsCallValue → Type 0
ReadsBytes (Create name owner) = Unit {0}
ReadsBytes (SetAttr fileid owner guard) = Unit {0}
ReadsBytes (Write fileid at synced bytes) = Unit {0}
ReadsBytes (Commit fileid) = Unit {0}
ReadsBytes (Read fileid at count) = 0 < count

abbrev pub IsOfWrite : DsCallValue → Type 0
IsOfWrite (Create name owner) = ⊥
IsOfWrite (SetAttr fileid owner guard) = ⊥
IsOfWrite (Write fileid at synced bytes) = Unit {0}
IsOfWrite (Commit fileid) = Unit {0}
IsOfWrite (Read fileid at count) = ⊥

-- of a file and of an own write, whose answers are entered, the numbers fit
abbrev pub IsCallFor : Waiter → DsMessage → Type 0
IsCallFor (ForFile file) message = ReadsBytes message.call × HasRecord message
IsCallFor (ForRead file) message = Unit {0}
IsCallFor (ForWrite file) message = IsOfWrite message.call × HasRecord message
IsCallFor ForRecall message = Unit {0}

-- a call of a data server went out to that node, and is such as who waits for it sends
abbrev pub IsSentBy : NodeId → Waiter → MdsSend → Type 0
IsSentBy node caller (CallsServer server xid uid call) = (node ≡ Server server) × IsCallFor caller (message_of xid uid call)
IsSentBy node caller (CallsBack xid back file stateid) = Unit {0}
IsSentBy node caller (Replies other reply) = Unit {0}
IsSentBy node caller (Answers other bytes) = Unit {0}

-- an awaited call is the send that went out under its number, to its node
pub record IsAwaitedFor (call : AwaitedCall) : Type 0 where
  pub number : number_sent call.sent ≡ Some call.xid
  pub node : IsSentBy call.node call.caller call.sent

-- a new file has mirrors on as many servers, which are the machine's
pub record IsSetUp (servers : List AddressValue) (mirrors : ℕ) (mc : Machine) : Type 0 where
  pub some : 1 ≤ mirrors
  pub few : mirrors ≤ 4
  pub there : mirrors ≤ length servers
  pub same : length servers ≡ length mc.servers

-- ---- an own write that waits

-- a write ends within a file, and has at most 65,536 bytes
abbrev pub IsTakenInRange : TakenWrite → Type 0
IsTakenInRange t = (t.at + length t.bytes ≤ MAX_FILE) × (length t.bytes ≤ 65536)

-- each call of its writer has numbers that fit
pub record IsWriterInRange (w : WriterValue) : Type 0 where
  pub cred : w.cred < 2 ^ 32
  pub fileids : AllOf (λ (n : ℕ). n < 2 ^ 64) (map (λ (m : WriterMirror). m.id.fileid) w.mirrors)
  pub taken : AllOf IsTakenInRange w.taken

abbrev pub IsWaitingInRange : Option WaitingWrite → Type 0
IsWaitingInRange None = Unit {0}
IsWaitingInRange (Some w) = IsWriterInRange w.writer

abbrev pub IsServedInRange : ServedFile → Type 0
IsServedInRange s = IsWaitingInRange s.write

-- ---- the whole

-- two that were sent under one number are the same
abbrev pub NumbersOnce : List MdsSend → Type 0
NumbersOnce ss = (a b : MdsSend) (xid : ℕ) → IsOneOf a ss → IsOneOf b ss → number_sent a ≡ Some xid → number_sent b ≡ Some xid → a ≡ b

-- by the parts of the server that it is about
pub record IsServerOf (mc : Machine) (servers : List AddressValue) (mirrors : ℕ) (all : List ServedFile) (next : Fresh) (awaited : List AwaitedCall) (next_xid : ℕ) (ss : List MdsSend) : Type 0 where
  pub files : map (λ (s : ServedFile). s.file) all ≡ mc.files
  pub fresh : next ≡ fresh_of mc
  pub setup : IsSetUp servers mirrors mc
  -- a number that is still to come is above those of all calls so far
  pub numbers : (next_xid ≡ 0) ⊎ (mc.last_xid Mds < next_xid)
  pub below : not (next_xid == 0) ≡ true → AreBelow next_xid ss
  pub few : next_xid ≤ 4294967295
  pub once : NumbersOnce ss
  pub calls : (call : AwaitedCall) → IsOneOf call awaited → IsOneOf call.sent ss × IsAwaitedFor call
  pub writes : AllOf IsServedInRange all
  pub sent : AllOf (IsSentIn mc) ss

-- the metadata server is the machine's, and this is all that it sent so far
abbrev pub IsMdsOf : Machine → MdsValue → List MdsSend → Type 0
IsMdsOf mc m ss = IsServerOf mc m.servers m.mirrors m.files m.fresh m.calls m.next_xid ss

-- a new server is a new machine's, with as many data servers
abbrev pub NewIsMdsOf : Type 0
NewIsMdsOf =
    (boots : List ℕ) (servers : List AddressValue) (mirrors : ℕ) → 1 ≤ mirrors → mirrors ≤ 4 → mirrors ≤ length servers → length servers ≡ length boots
    → IsMdsOf (new_machine (new_servers 1 boots)) (new_mds servers mirrors) []

-- ---- what comes to it

-- It is taken as it is: a READ's that gives nothing is not, but at the end of the file; and a WRITE's and a COMMIT's shows the ctime that it
-- shows.
abbrev pub ShowsCtime : DsReplyValue → Type 0
ShowsCtime given = (shown : Shown) → attributes_shown given ≡ Some shown → ctime_in given ≡ Some shown.seen

abbrev pub IsPlain : DsCallValue → DsReplyValue → Type 0
IsPlain (Create name owner) given = Unit {0}
IsPlain (SetAttr fileid owner guard) given = Unit {0}
IsPlain (Write fileid at synced bytes) given = ShowsCtime given
IsPlain (Commit fileid) given = ShowsCtime given
IsPlain (Read fileid at count) given = 0 < count → own_answer (Read fileid at count) given ≡ given

-- what a reply says is what the machine's data server answered
pub record WasAnswered (mc : Machine) (server xid : ℕ) (call : DsCallValue) (said : DsReplyValue) : Type 0 where
  pub given : DsReplyValue
  pub stands : HasServerAnswered mc server xid call given
  pub same : said ≡ given
  pub plain : IsPlain call given

-- A reply, as a function of the call: to a call of this data server, that one gave the answer.
abbrev pub IsSendAnswered : Machine → ℕ → (DsCallValue → DsReplyValue) → MdsSend → Type 0
IsSendAnswered mc server says (CallsServer other xid uid call) = HasRecord (message_of xid uid call) → other ≡ server → WasAnswered mc server xid call (says call)
IsSendAnswered mc server says (CallsBack xid back file stateid) = Unit {0}
IsSendAnswered mc server says (Replies node reply) = Unit {0}
IsSendAnswered mc server says (Answers node bytes) = Unit {0}

-- a record of a data server is the reply to a send that went out under its number
pub record AnswersSend (mc : Machine) (ss : List MdsSend) (server : ℕ) (bytes : List ℕ) : Type 0 where
  pub reply : RpcReply
  pub reads : incoming_of bytes ≡ IsReply reply
  pub sent : MdsSend
  pub inside : IsOneOf sent ss
  pub number : number_sent sent ≡ Some reply.xid
  pub answers : IsSendAnswered mc server (λ call. reply_of_call call reply) sent

-- or it is no reply in its form
abbrev pub MayComeFrom : Machine → List MdsSend → ℕ → List ℕ → Type 0
MayComeFrom mc ss server bytes = (incoming_of bytes ≡ PassedOver) ⊎ AnswersSend mc ss server bytes

abbrev pub MayComeTo : Machine → List MdsSend → MdsInput → Type 0
MayComeTo mc ss (Hears Mds bytes) = Unit {0}
MayComeTo mc ss (Hears (Server k) bytes) = MayComeFrom mc ss k bytes
MayComeTo mc ss (Hears (Client k) bytes) = Unit {0}
MayComeTo mc ss (IsTimedOut to which) = Unit {0}
MayComeTo mc ss Ticks = Unit {0}
MayComeTo mc ss (RecallsFile file) = Unit {0}
MayComeTo mc ss (Resilvers file) = Unit {0}

-- ---- each event is moves of the machine

-- a run goes on
abbrev pub StaysReached : Type 0
StaysReached = (mc n : Machine) (entries : List Entry) → IsReached mc → MachineGoesOn mc entries n → IsReached n

-- the machine goes on by what these entries tell, with its data servers as they were, and the server is its own again
pub record GoesOnBy (mc : Machine) (entries : List Entry) (m : MdsValue) (ss : List MdsSend) : Type 0 where
  pub machine : Machine
  pub goes : MachineGoesOn mc entries machine
  pub servers : machine.servers ≡ mc.servers
  pub is : IsMdsOf machine m ss

abbrev pub MdsGoesOn : Type 0
MdsGoesOn =
    (mc : Machine) (m : MdsValue) (ss : List MdsSend) (e : MdsEvent) → IsReached mc → AreServersInRange mc → IsMdsOf mc m ss → MayComeTo mc ss e.input
    → GoesOnBy mc (after_event e m).entries (after_event e m).mds (ss ++ (after_event e m).sends)
