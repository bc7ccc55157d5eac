-- What the answer to a READ rests on in every run of a metadata server, told by what came to it, what it entered and what it sent (RFC 8881,
-- section 18.22; RFC 1813, section 3.3.6).
use Rattle.std.specs.Prelude.{◌≡◌, ◌≤◌, ℕ, Bool, false, ◌==◌, ◌⊎◌, List, [], ◌∷◌, ◌++◌, Option, Some, None}
use Rattle.std.specs.List.{AllByRecursion}
use Rattle.ff_xdr.specs.Form.{Value, arm_of}
use Rattle.ff_xdr.specs.Arms.{arm}
use Rattle.rpc_record.specs.Replies.{RpcReply}
use Rattle.cluster_model.specs.declared.ids.NodeId.{NodeId}
use Rattle.cluster_model.specs.declared.ids.NodeId.TheVariants.{Server}
use Rattle.cluster_model.specs.declared.ids.FileId.{FileId}
use Rattle.cluster_model.specs.declared.ids.MirrorId.{MirrorId}
use Rattle.cluster_model.specs.declared.ds_call.Shown.{Shown}
use Rattle.cluster_model.specs.declared.entry.Entry.TheVariants.{ReadAnswer, Failed, Swapped}
use Rattle.cluster_model.specs.DsCalls.{Read, Bytes}
use Rattle.cluster_model.specs.Members.{IsOneOf}
use Rattle.cluster_laws.specs.FenceLaw.{live_in}
use Rattle.device_addr.specs.Universal.{AddressValue}
use Rattle.ds_calls.specs.GivenReplies.{reply_of_call}
use Rattle.nfs4_types.specs.Handles.{file_handle_of}
use Rattle.nfs4_types.specs.Sequences.{sequence4_args}
use Rattle.nfs4_types.specs.Stateids.{stateid4}
use Rattle.nfs4_compound.specs.declared.stop.Stop.TheVariants as stop
use Rattle.nfs4_compound.specs.Args.{argop4}
use Rattle.nfs4_compound.specs.Compounds.{CompoundValue}
use Rattle.mds_receive.specs.MdsReceive.{IsReply, IsCompound, incoming_of}
use Rattle.compound_reply.specs.Replied.{success_reply}
use Rattle.mds_rule.specs.MdsStates.{MdsSend, CallsServer, Replies, new_mds}
use Rattle.mds_rule.specs.FileOps.{read_length}
use Rattle.mds_walk.specs.MdsRuns.{MdsInput, MdsEvent, Hears}
use Rattle.mds_laws.specs.MdsRunLaws.{number_sent}
use Rattle.mds_histories.specs.MdsHistory.{MdsItem, Comes, Enters, Sends, mds_history, entries_in, sends_in}

-- ---- the compound that reads

-- SEQUENCE, PUTFH of a file, and a READ of so many bytes from an offset on, with nothing behind them
pub record ReadsFile (v : CompoundValue) (file : FileId) (at count : ℕ) : Type 0 where
  pub sequence : Value sequence4_args
  pub stateid : Value stateid4
  pub ops : v.ops.values ≡ arm 53 argop4 sequence ∷ arm 22 argop4 (file_handle_of file.0) ∷ arm 25 argop4 (stateid, (at, count)) ∷ []
  pub stop : v.ops.stop ≡ stop.End None

-- no operation of it is a READ 25
abbrev pub HasNoRead : CompoundValue → Type 0
HasNoRead v = AllByRecursion (λ op. (arm_of argop4 op == 25) ≡ false) v.ops.values

-- it reads in that form, or does not read
abbrev pub ReadsInForm : CompoundValue → Type 0
ReadsInForm v = HasNoRead v ⊎ ((file : FileId) × (at : ℕ) × (count : ℕ) × ReadsFile v file at count)

abbrev pub HearsInForm : MdsInput → Type 0
HearsInForm (Hears from bytes) = (xid : ℕ) (v : CompoundValue) → incoming_of bytes ≡ IsCompound xid v → ReadsInForm v
HearsInForm input = Unit {0}

abbrev pub AreInForm : List MdsEvent → Type 0
AreInForm events = AllByRecursion (λ (e : MdsEvent). HearsInForm e.input) events

-- ---- the start

abbrev pub EntersNoSwapOf : FileId → MdsItem → Type 0
EntersNoSwapOf file (Enters (Swapped other old new)) = other ≡ file → ⊥
EntersNoSwapOf file item = Unit {0}

-- these end with a swap of the file, or there are none
pub data EndsWithSwap (file : FileId) (items : List MdsItem) : Type 0 where
  HasNone : items ≡ [] → EndsWithSwap file items
  HasSwap : (before : List MdsItem) (old : Option MirrorId) (new : MirrorId) → items ≡ before ++ Enters (Swapped file old new) ∷ [] → EndsWithSwap file items

-- the request came at this moment as this record from this node, and its READ starts there or at the last swap since: all items until then,
-- and those that follow
pub record StartsAt (past : List MdsItem) (node : NodeId) (bytes : List ℕ) (file : FileId) (start since : List MdsItem) : Type 0 where
  pub before : List MdsItem
  pub now : ℕ
  pub swaps : List MdsItem
  pub split : past ≡ start ++ since
  pub start_is : start ≡ before ++ Comes (record { now = now; input = Hears node bytes }) ∷ swaps
  pub last : EndsWithSwap file swaps
  pub no_more : AllByRecursion (EntersNoSwapOf file) since

-- ---- what it rests on

-- a READ of the mirror was sent since the start under this number, which was not used until then; then came these
pub record WasAsked (start since : List MdsItem) (mirror : MirrorId) (at count xid : ℕ) (behind : List MdsItem) : Type 0 where
  pub before : List MdsItem
  pub split : since ≡ before ++ Sends (CallsServer mirror.server xid 0 (Read mirror.fileid at count)) ∷ behind
  pub new : (s : MdsSend) → IsOneOf s (sends_in start) → number_sent s ≡ Some xid → ⊥

-- a mirror of these was asked, and its reply that came then has the bytes
pub record WasGiven (start since : List MdsItem) (at count : ℕ) (live : List MirrorId) (bytes : List ℕ) : Type 0 where
  pub mirror : MirrorId
  pub live_then : IsOneOf mirror live
  pub xid : ℕ
  pub behind : List MdsItem
  pub asked : WasAsked start since mirror at count xid behind
  pub until : List MdsItem
  pub now : ℕ
  pub answer : List ℕ
  pub later : List MdsItem
  pub came : behind ≡ until ++ Comes (record { now = now; input = Hears (Server mirror.server) answer }) ∷ later
  pub reply : RpcReply
  pub reads : incoming_of answer ≡ IsReply reply
  pub number : reply.xid ≡ xid
  pub shown : Option Shown
  pub eof : Bool
  pub says : reply_of_call (Read mirror.fileid at count) reply ≡ Bytes shown eof bytes

-- a READ of the mirror was asked, and then it was entered as failed
pub record HasFailedRead (start since : List MdsItem) (at count : ℕ) (mirror : MirrorId) : Type 0 where
  pub before : List MdsItem
  pub xid : ℕ
  pub behind : List MdsItem
  pub split : since ≡ before ++ Enters (Failed mirror xid) ∷ behind
  pub later : List MdsItem
  pub asked : WasAsked start before mirror at count xid later

-- status 0, or 5, NFS4ERR_IO (RFC 8881, section 15.1)
abbrev pub HasReadCause : List MdsItem → List MdsItem → ℕ → ℕ → List MirrorId → ℕ → List ℕ → Type 0
HasReadCause start since at count live status bytes =
    ((status ≡ 0) × WasGiven start since at count live bytes) ⊎ ((status ≡ 5) × ((m : MirrorId) → IsOneOf m live → HasFailedRead start since at count m))

-- ---- an answer

-- the answer is entered behind these items, and these follow
pub record IsReadAnswered (past : List MdsItem) (file : FileId) (status : ℕ) (bytes : List ℕ) (behind : List MdsItem) : Type 0 where
  pub node : NodeId
  pub asked : List ℕ
  pub xid : ℕ
  pub v : CompoundValue
  pub compound : incoming_of asked ≡ IsCompound xid v
  pub at : ℕ
  pub count : ℕ
  pub reads : ReadsFile v file at count
  pub start : List MdsItem
  pub since : List MdsItem
  pub starts : StartsAt past node asked file start since
  pub live : List MirrorId
  pub live_then : live_in (entries_in start) file ≡ Some live
  pub cause : HasReadCause start since at (read_length count) live status bytes
  pub reply : RpcReply
  pub later : List MdsItem
  pub replied : behind ≡ Sends (Replies node reply) ∷ later
  pub number : reply.xid ≡ xid
  pub whole : reply ≡ success_reply xid reply.results

-- In every run in which a file is to have at most four mirrors and all that came reads in that form. (A return and an own write tell of the
-- first four places of a live list. Of five mirrors that are one data file the fifth would be read on where the four were told as gone.)
abbrev pub EachReadIsAnswered : Type 0
EachReadIsAnswered =
    (servers : List AddressValue) (mirrors : ℕ) (events : List MdsEvent) → mirrors ≤ 4 → AreInForm events
    → (past behind : List MdsItem) (file : FileId) (status : ℕ) (bytes : List ℕ) → mds_history (new_mds servers mirrors) events ≡ past ++ Enters (ReadAnswer file status bytes) ∷ behind
    → IsReadAnswered past file status bytes behind
