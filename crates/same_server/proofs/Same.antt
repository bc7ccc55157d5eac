-- The record of a call does what the call does.
use Rattle.std.proofs.Common.{◌≡◌, ℕ, Some, refl, ap, subst, ◌∙◌}
use Rattle.ff_xdr.specs.Form.{Fits}
use Rattle.rpc_record.specs.Replies.{RpcReply, reply_bytes}
use Rattle.nfs3_wire.specs.Replies.{Nfs3Reply, nfs3_results, reply_value}
use Rattle.cluster_model.specs.Server.{ServerState, Caller, server_after, entries_of}
use Rattle.cluster_model.specs.DsCalls.{DsCallValue, DsReplyValue, ds_plan}
use Rattle.ds_procedures.specs.Steps.{step_of}
use Rattle.ds_files.specs.Receive.{Outcome, outcome_by, outcome_of, outcome_of_step}
use Rattle.ds_calls.specs.MadeCalls.{nfs_call_of, user_credential}
use Rattle.ds_calls.specs.DsCallLaws.{DsMessage, record_of, IsUnderstood, AttributesBeside, nfs_reply_of, ds_rpc_reply, IsAnswered, IsAnsweredByRule}
use Rattle.same_server.specs.SameServer.{caller_of_user, IsSameServer}
use Rattle.same_server.proofs.Asked.{is_asked}
use Rattle.same_server.proofs.Plans.{plan_same}

module _ (understood : (m : DsMessage) → IsUnderstood m)
    (answered : (xid : ℕ) (b : AttributesBeside) (call : DsCallValue) (reply : DsReplyValue) → IsAnswered xid b call reply)
    (ruled : (s : ServerState) (caller : Caller) (call : DsCallValue) → IsAnsweredByRule s caller call) where
  pub same_by : (s : ServerState) (m : DsMessage) → IsSameServer s m
  same_by s m has can =
      let said : DsReplyValue = (ds_plan s (caller_of_user m.user) m.call).reply in
      let answers = ruled s (caller_of_user m.user) m.call can.few in
      let p = plan_same s (caller_of_user m.user) m.call has.call_fits can.named answers in
      let is : outcome_of s (record_of m) ≡ outcome_of_step m.xid (step_of s (nfs_call_of m.call) (user_credential m.machine m.user)) = ap (outcome_by s) (is_asked m (understood m has)) in
      let fits = subst (λ (r : Nfs3Reply). Fits nfs3_results (reply_value r)) p.reply can.fits in
      let read = answered m.xid p.beside m.call said has.xid_fits answers fits in
      record {
        reply = ds_rpc_reply m.xid (nfs_reply_of p.beside m.call said);
        server = ap (λ (o : Outcome). o.server) is ∙ ap (server_after s) p.effect;
        entries = ap (λ (o : Outcome). o.entries) is ∙ ap (entries_of s m.user) p.effect;
        bytes = ap (λ (o : Outcome). o.reply) is ∙ ap (λ (r : Nfs3Reply). Some (reply_bytes (ds_rpc_reply m.xid r))) p.reply;
        again = read.record_again;
        number = refl;
        answer = read.answer;
      }
