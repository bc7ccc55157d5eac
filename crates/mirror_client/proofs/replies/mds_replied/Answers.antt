use Rattle.std.proofs.Common.{◌≡◌, Some, sym, ap, ◌∙◌}
use Rattle.std.proofs.lemmas.Result.{on_ok_weaker}
use Rattle.rpc_record.specs.Replies.{rpc_reply}
use Rattle.client_mds_calls.specs.MdsReplies.{reply_of_ask}
use Rattle.client_state.specs.ClientStates.{ClientValue}
use Rattle.mirror_client.proofs.StepLemmas.{replied_to}
use Rattle.mirror_client.proofs.replies.mds_replied.Goals as goal

pub returns : goal.returns
returns c =
    let v = c.args.client.now in
    let is : v.asked ≡ Some c.in-Some.asked = ap (λ (x : ClientValue). x.asked) (sym c.client.view_is) ∙ c.in-Some.is in
    on_ok_weaker c.end_event.result
    (λ stepped. replied_to v c.in-Some.asked c.args.reply.now.xid (λ kind. reply_of_ask kind (rpc_reply c.args.reply.now)) c.args.now c.args.out.now c.mds_answered.new.out c.end_event.new.out
    c.mds_answered.new.client c.end_event.new.client is c.if-asked-reply.false c.in_ok-mds_answered.ensures stepped)
    c.end_event.ensures
