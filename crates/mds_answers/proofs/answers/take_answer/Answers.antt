use Rattle.std.proofs.Common.{sym, ap, ◌∙◌}
use Rattle.rpc_record.specs.Replies.{rpc_reply, reply_stat, reply_results}
use Rattle.ds_calls.specs.GivenReplies.{reply_of_call}
use Rattle.recall_calls.specs.RecallAnswers.{recall_status}
use Rattle.awaited_calls.specs.Awaited.{sent_under}
use Rattle.mds_rule.specs.MdsStates.{AwaitedCall}
use Rattle.mds_rule.specs.Answers.{is_awaited}
use Rattle.mds_state.specs.contracts.state.State as state
use Rattle.mds_compounds.proofs.WalkLemmas.{on_ok}
use Rattle.mds_answers.proofs.FoundCalls.{nobody_so, client_so}
use Rattle.mds_answers.proofs.answers.take_answer.Goals as goal

pub returns-in_default : goal.returns-in_default
returns-in_default c =
    let m = state.the_view c.state.inside in
    rw (← c.state.view_is) (nobody_so c.args.now m c.args.node c.args.reply.now.xid (λ call. reply_of_call call (rpc_reply c.args.reply.now)) (recall_status (reply_stat c.args.reply.now.body) (reply_results c.args.reply.now.body)) c.take.new.self c.args.out.now (sym c.take.ensures.found ∙ c.in_default.is) c.take.ensures.rest)

pub returns-in-ToClient : goal.returns-in-ToClient
returns-in-ToClient c =
    let m = state.the_view c.state.inside in
    let call = c.in-Some.call in
    rw (← c.state.view_is)
    (on_ok c.client_answered.result c.client_answered.ensures
    (λ made.
    client_so c.args.now m c.args.node c.args.reply.now.xid (λ call. reply_of_call call (rpc_reply c.args.reply.now)) (recall_status (reply_stat c.args.reply.now.body) (reply_results c.args.reply.now.body)) c.take.new.self c.args.out.now c.client_answered.new.out c.client_answered.new.state call c.call.inside.xid c.in-ToClient.back c.in-ToClient.file c.in-ToClient.stateid
    (sym c.take.ensures.found ∙ c.in-Some.is) (sym (ap (is_awaited m) c.call.view_is) ∙ sym c.is_awaited.ensures ∙ c.if-not-is_awaited.false) (sym (ap (λ (x : AwaitedCall). x.sent) c.call.view_is) ∙ ap (sent_under c.call.inside.xid) c.in-ToClient.is)
    c.take.ensures.rest made))
