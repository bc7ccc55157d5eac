-- The record of a call is asked as this call.
use Rattle.std.proofs.Common.{◌≡◌, ℕ, Bool, true, false, List, Result, Ok, refl, ap, ◌∙◌}
use Rattle.std.specs.Prelude.{◌==◌, not, if◌then◌else◌}
use Rattle.ff_xdr.specs.declared.error.XdrError.{XdrError}
use Rattle.ff_xdr.specs.Form.{Value, arm_of, has_arm}
use Rattle.ff_xdr.specs.Reading.{reading, whole}
use Rattle.rpc_record.specs.Rpc.{Credential, authsys_parms}
use Rattle.rpc_record.specs.Replies as rpc_reply
use Rattle.nfs3_wire.specs.Calls.{Nfs3Call, calls, call_value}
use Rattle.cluster_model.specs.DsCalls.{DsCallValue, Create, SetAttr, Write, Commit, Read}
use Rattle.ds_files.specs.Receive.{Received, Asked, refuses, nobody, asked, with_args, with_cred, authenticated, dispatched, with_call, received}
use Rattle.ds_calls.specs.MadeCalls.{nfs_call_of, user_credential, credential_body}
use Rattle.ds_calls.specs.DsCallLaws.{DsMessage, record_of, message_call, IsReadAsCall}

procedure : DsCallValue → ℕ
procedure call = arm_of calls (call_value (nfs_call_of call))

is_built : (call : DsCallValue) → has_arm (procedure call) calls ≡ true
unfolding procedure
is_built (Create name owner) = refl
is_built (SetAttr fileid owner guard) = refl
is_built (Write fileid at synced bytes) = refl
is_built (Commit fileid) = refl
is_built (Read fileid at count) = refl

not_null : (call : DsCallValue) → (procedure call == 0) ≡ false
unfolding procedure
not_null (Create name owner) = refl
not_null (SetAttr fileid owner guard) = refl
not_null (Write fileid at synced bytes) = refl
not_null (Commit fileid) = refl
not_null (Read fileid at count) = refl

module _ (m : DsMessage) where
  by_credential : Received
  by_credential = with_cred (message_call m) (whole (credential_body m.machine m.user) (reading authsys_parms (credential_body m.machine m.user) 0))

  by_null : Bool → Received
  by_null t = if t then asked (message_call m) nobody else with_cred (message_call m) (whole (credential_body m.machine m.user) (reading authsys_parms (credential_body m.machine m.user) 0))

  by_built : Bool → Received
  by_built t = if not t then refuses m.xid rpc_reply.proc_unavail else authenticated (message_call m)

  reached : dispatched (message_call m) ≡ by_credential
  unfolding procedure by_credential by_null by_built
  reached = ap by_built (is_built m.call) ∙ ap by_null (not_null m.call)

  pub is_asked : IsReadAsCall m → received (record_of m) ≡ Asked m.xid (nfs_call_of m.call) (user_credential m.machine m.user)
  unfolding by_credential
  is_asked u =
      ap with_call u.header
      ∙ reached
      ∙ ap (with_cred (message_call m)) u.credential
      ∙ ap (with_args m.xid (user_credential m.machine m.user)) u.arguments
      ∙ ap (λ (c : Nfs3Call). Asked m.xid c (user_credential m.machine m.user)) u.asked
