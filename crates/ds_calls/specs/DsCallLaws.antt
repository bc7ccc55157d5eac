-- The laws of calls to data servers and their replies.
use Rattle.std.specs.Prelude.{◌≡◌, ◌≢◌, ℕ, ◌+◌, ◌^◌, ◌<◌, ◌≤◌, List, [], ◌∷◌, length, Option, Some, None, Ok, IsTrue, nat_eq, ◌==◌, if◌then◌else◌}
use Rattle.std.specs.List.{list_any}
use Rattle.std.specs.Option.{option_map}
use Rattle.nfs3_wire.specs.declared.objects.TheConstants.{MAX_DATA}
use Rattle.ds_calls.specs.declared.call.TheConstants.{MAX_MACHINE}
use Rattle.ff_xdr.specs.Form.{Fits, arm_spelling}
use Rattle.ff_xdr.specs.Reading.{reading, whole}
use Rattle.ff_xdr.specs.WholeArms.{whole_arm}
use Rattle.rpc_record.specs.Rpc.{authsys_parms, credential_value}
use Rattle.rpc_record.specs.Calls.{RpcCall, call_at}
use Rattle.rpc_record.specs.Replies.{RpcReply, auth_none, success, reply_bytes, reply_at}
use Rattle.nfs3_wire.specs.declared.attributes.Fattr3.{Fattr3}
use Rattle.nfs3_wire.specs.declared.wcc.WccAttr.{WccAttr}
use Rattle.nfs3_wire.specs.declared.wcc.WccData.{WccData}
use Rattle.nfs3_wire.specs.declared.status.Stat3.{Stat3}
use Rattle.nfs3_wire.specs.declared.status.Stat3.TheVariants as stat
use Rattle.nfs3_wire.specs.Status.{stat_number, refusals}
use Rattle.nfs3_wire.specs.Calls.{calls, call_value, call_of}
use Rattle.nfs3_wire.specs.Replies.{Nfs3Reply, Null, SetAttrDone, SetAttrRefused, ReadDone, ReadRefused, WriteDone, WriteRefused, CreateDone, CreateRefused, CommitDone, CommitRefused, nfs3_results, reply_value}
use Rattle.cluster_model.specs.declared.ds_call.Shown.{Shown}
use Rattle.cluster_model.specs.Server.{ServerState, Caller}
use Rattle.cluster_model.specs.DsCalls.{DsCallValue, DsReplyValue, Created, Set, Written, Committed, Bytes, NotSync, Failed, ds_plan}
use Rattle.cluster_model.specs.DsCalls as ds
use Rattle.ds_calls.specs.MadeCalls.{fileid_handle, guard_time, asked_stability, nfs_call_of, user_credential, credential_body, ds_rpc_call, ds_call_bytes}
use Rattle.ds_calls.specs.GivenReplies.{reply_of_call}

-- ---- calls

-- each number is in its range, and the data of a WRITE have at most 1,048,576 bytes
abbrev pub IsSpeakable : DsCallValue → Type 0
IsSpeakable (ds.Create name owner) = (name < 2 ^ 64) × (owner < 2 ^ 32)
IsSpeakable (ds.SetAttr fileid owner guard) = (fileid < 2 ^ 64) × (owner < 2 ^ 32) × (guard.boot < 2 ^ 32) × (guard.count < 2 ^ 32)
IsSpeakable (ds.Write fileid at synced bytes) = (fileid < 2 ^ 64) × (at < 2 ^ 64) × (length bytes ≤ MAX_DATA)
IsSpeakable (ds.Commit fileid) = fileid < 2 ^ 64
IsSpeakable (ds.Read fileid at count) = (fileid < 2 ^ 64) × (at < 2 ^ 64) × (count < 2 ^ 32)

-- a call by a user from a machine, under a number
pub record DsMessage : Type 0 where
  pub xid : ℕ
  pub machine : List ℕ
  pub user : ℕ
  pub call : DsCallValue

pub record HasRecord (m : DsMessage) : Type 0 where
  pub xid_fits : m.xid < 2 ^ 32
  pub machine_fits : length m.machine ≤ MAX_MACHINE
  pub user_fits : m.user < 2 ^ 32
  pub call_fits : IsSpeakable m.call

abbrev pub record_of : DsMessage → List ℕ
record_of m = ds_call_bytes m.xid m.machine m.user m.call

abbrev pub message_call : DsMessage → RpcCall
message_call m = ds_rpc_call m.xid m.machine m.user m.call

-- The record is read as a call of NFS version 3; its credential is the user's, and its arguments are the call's, each with nothing
-- behind it.
pub record IsReadAsCall (m : DsMessage) : Type 0 where
  pub header : call_at (record_of m) ≡ Ok (message_call m)
  pub credential : whole (credential_body m.machine m.user) (reading authsys_parms (credential_body m.machine m.user) 0) ≡ Ok (credential_value (user_credential m.machine m.user))
  pub arguments : whole_arm calls (message_call m).procedure (message_call m).args ≡ Ok (call_value (nfs_call_of m.call))
  pub asked : call_of (call_value (nfs_call_of m.call)) ≡ nfs_call_of m.call

abbrev pub IsUnderstood : DsMessage → Type 0
IsUnderstood m = HasRecord m → IsReadAsCall m

-- different calls have different records
abbrev pub AreToldApart : DsMessage → DsMessage → Type 0
AreToldApart m n = HasRecord m → HasRecord n → record_of m ≡ record_of n → m ≡ n

-- ---- replies

-- the refusals of a call, by their numbers
abbrev pub IsRefusalNumber : ℕ → Type 0
IsRefusalNumber status = IsTrue (list_any (nat_eq status) refusals)

-- the answers that a data server gives to a call: that it was done as it was asked, or a refusal
abbrev pub IsAnswerTo : DsCallValue → DsReplyValue → Type 0
IsAnswerTo (ds.Create name owner) (Created fileid shown) = fileid < 2 ^ 64
IsAnswerTo (ds.Create name owner) (Failed status None) = IsRefusalNumber status
IsAnswerTo (ds.SetAttr fileid owner guard) (Set shown) = Unit {0}
IsAnswerTo (ds.SetAttr fileid owner guard) (NotSync shown) = Unit {0}
IsAnswerTo (ds.SetAttr fileid owner guard) (Failed status shown) = IsRefusalNumber status × (status ≢ 10002)
IsAnswerTo (ds.Write fileid at synced bytes) (Written shown verifier) = Unit {0}
IsAnswerTo (ds.Write fileid at synced bytes) (Failed status shown) = IsRefusalNumber status
IsAnswerTo (ds.Commit fileid) (Committed shown verifier) = Unit {0}
IsAnswerTo (ds.Commit fileid) (Failed status shown) = IsRefusalNumber status
IsAnswerTo (ds.Read fileid at count) (Bytes shown eof bytes) = length bytes ≤ count
IsAnswerTo (ds.Read fileid at count) (Failed status shown) = IsRefusalNumber status
IsAnswerTo call reply = ⊥

-- the status with a number
abbrev pub refusal_statuses : List Stat3
refusal_statuses =
    stat.NoEnt ∷ stat.Io ∷ stat.Acces ∷ stat.Exist ∷ stat.NotDir ∷ stat.IsDir ∷ stat.Inval ∷ stat.Fbig ∷ stat.NoSpc ∷ stat.NameTooLong ∷ stat.Stale ∷ stat.BadHandle
    ∷ stat.NotSync ∷ stat.NotSupp ∷ stat.ServerFault ∷ stat.Jukebox ∷ []

abbrev pub status_in : List Stat3 → ℕ → Stat3
status_in [] number = stat.ServerFault
status_in (status ∷ others) number = if number == stat_number status then status else status_in others number

abbrev pub status_by : ℕ → Stat3
status_by number = status_in refusal_statuses number

-- attributes that show this; what they say beside it is free
abbrev pub showing : Fattr3 → Shown → Fattr3
showing any shown = record any { uid = shown.owner.0; size = shown.size; ctime = guard_time shown.seen }

-- what a reply may say beside its answer
pub record AttributesBeside : Type 0 where
  pub attributes : Fattr3
  pub before : Option WccAttr
  pub directory : WccData

abbrev pub wcc_showing : AttributesBeside → Option Shown → WccData
wcc_showing b shown = record { before = b.before; after = option_map (showing b.attributes) shown }

-- the answers as NFSv3 replies (RFC 1813, section 3.3)
abbrev pub nfs_reply_of : AttributesBeside → DsCallValue → DsReplyValue → Nfs3Reply
nfs_reply_of b (ds.Create name owner) (Created fileid shown) = CreateDone (Some (fileid_handle fileid)) (Some (showing b.attributes shown)) b.directory
nfs_reply_of b (ds.Create name owner) (Failed status shown) = CreateRefused (status_by status) b.directory
nfs_reply_of b (ds.SetAttr fileid owner guard) (Set shown) = SetAttrDone (wcc_showing b shown)
nfs_reply_of b (ds.SetAttr fileid owner guard) (NotSync shown) = SetAttrRefused stat.NotSync (wcc_showing b (Some shown))
nfs_reply_of b (ds.SetAttr fileid owner guard) (Failed status shown) = SetAttrRefused (status_by status) (wcc_showing b shown)
nfs_reply_of b (ds.Write fileid at synced bytes) (Written shown verifier) = WriteDone (wcc_showing b shown) (length bytes) (asked_stability synced) verifier
nfs_reply_of b (ds.Write fileid at synced bytes) (Failed status shown) = WriteRefused (status_by status) (wcc_showing b shown)
nfs_reply_of b (ds.Commit fileid) (Committed shown verifier) = CommitDone (wcc_showing b shown) verifier
nfs_reply_of b (ds.Commit fileid) (Failed status shown) = CommitRefused (status_by status) (wcc_showing b shown)
nfs_reply_of b (ds.Read fileid at count) (Bytes shown eof bytes) = ReadDone (option_map (showing b.attributes) shown) (length bytes) eof bytes
nfs_reply_of b (ds.Read fileid at count) (Failed status shown) = ReadRefused (status_by status) (option_map (showing b.attributes) shown)
nfs_reply_of b call reply = Null

abbrev pub ds_rpc_reply : ℕ → Nfs3Reply → RpcReply
ds_rpc_reply xid reply = record { xid = xid; verf = auth_none; stat = success; results = arm_spelling nfs3_results (reply_value reply) }

-- the reply's record is read again, and comes to the answer
pub record IsReadAsAnswer (xid : ℕ) (b : AttributesBeside) (call : DsCallValue) (reply : DsReplyValue) : Type 0 where
  pub record_again : reply_at (reply_bytes (ds_rpc_reply xid (nfs_reply_of b call reply))) ≡ Ok (ds_rpc_reply xid (nfs_reply_of b call reply))
  pub answer : reply_of_call call (ds_rpc_reply xid (nfs_reply_of b call reply)) ≡ reply

abbrev pub IsAnswered : ℕ → AttributesBeside → DsCallValue → DsReplyValue → Type 0
IsAnswered xid b call reply = xid < 2 ^ 32 → IsAnswerTo call reply → Fits nfs3_results (reply_value (nfs_reply_of b call reply)) → IsReadAsAnswer xid b call reply

-- what the rule of a data server replies is an answer to the call, where the fileids are in their range
abbrev pub IsAnsweredByRule : ServerState → Caller → DsCallValue → Type 0
IsAnsweredByRule s caller call = length s.files + 2 < 2 ^ 64 → IsAnswerTo call (ds_plan s caller call).reply
