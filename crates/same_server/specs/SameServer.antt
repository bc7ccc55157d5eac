-- The rule of a data server on records does what the rule on the cluster's calls does (RFC 1813, section 3.3; RFC 5531, section 9).
use Rattle.std.specs.Prelude.{◌≡◌, ℕ, ◌+◌, ◌^◌, ◌<◌, [], length, Some, Ok}
use Rattle.ff_xdr.specs.Form.{Fits}
use Rattle.rpc_record.specs.Replies.{RpcReply, reply_bytes, reply_at}
use Rattle.nfs3_wire.specs.Replies.{nfs3_results, reply_value}
use Rattle.cluster_model.specs.Server.{ServerState, Caller}
use Rattle.cluster_model.specs.DsCalls.{ds_step}
use Rattle.ds_procedures.specs.Steps.{step_of}
use Rattle.ds_files.specs.Receive.{outcome_of}
use Rattle.ds_calls.specs.MadeCalls.{nfs_call_of, user_credential}
use Rattle.ds_calls.specs.GivenReplies.{reply_of_call}
use Rattle.ds_calls.specs.DsCallLaws.{DsMessage, HasRecord, record_of}

-- the user of a call, whose group has the same number, and who is in no further group
abbrev pub caller_of_user : ℕ → Caller
caller_of_user user = record { uid = user; gid = user; gids = [] }

-- The server and the entries are those of the call, and the reply is read as its answer, under its number.
pub record DoesTheCall (s : ServerState) (m : DsMessage) : Type 0 where
  pub reply : RpcReply
  pub server : (outcome_of s (record_of m)).server ≡ (ds_step s (caller_of_user m.user) m.call).server
  pub entries : (outcome_of s (record_of m)).entries ≡ (ds_step s (caller_of_user m.user) m.call).entries
  pub bytes : (outcome_of s (record_of m)).reply ≡ Some (reply_bytes reply)
  pub again : reply_at (reply_bytes reply) ≡ Ok reply
  pub number : reply.xid ≡ m.xid
  pub answer : reply_of_call m.call reply ≡ (ds_step s (caller_of_user m.user) m.call).reply

-- What every data server meets: each of its files has a name, and what it replies has a spelling.
pub record CanReply (s : ServerState) (m : DsMessage) : Type 0 where
  pub named : length s.names ≡ length s.files
  pub few : length s.files + 2 < 2 ^ 64
  pub fits : Fits nfs3_results (reply_value (step_of s (nfs_call_of m.call) (user_credential m.machine m.user)).reply)

-- of a call that has a record
abbrev pub IsSameServer : ServerState → DsMessage → Type 0
IsSameServer s m = HasRecord m → CanReply s m → DoesTheCall s m
