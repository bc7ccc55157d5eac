use Rattle.std.proofs.Common.{OnOk, subst}
use Rattle.mds_rule.specs.MdsStates.{MdsValue}
use Rattle.mds_rule.specs.Goes.{recall_call}
use Rattle.compound_run.specs.CompoundRuns.{HasMadeStep}
use Rattle.mds_state.specs.contracts.state.State as state
use Rattle.mds_sends.proofs.GoesRecalls.{recall_not, recall_went}
use Rattle.mds_sends.proofs.recalls.call_recall.Goals as goal

pub returns-then-waiting-file : goal.returns-then-waiting-file
returns-then-waiting-file c =
    let m : MdsValue = state.the_view c.state.inside in
    subst (λ (x : MdsValue). HasMadeStep (recall_call c.args.file x) c.args.out.now x c.args.out.now) c.state.view_is
    (recall_not m c.args.file c.in-Some.waiting c.args.out.now (c.in-Some.ensures m.next_xid) c.if-waiting-file.true)

pub returns : goal.returns
returns c =
    let m : MdsValue = state.the_view c.state.inside in
    subst (λ (x : MdsValue). OnOk c.call_back.result (HasMadeStep (recall_call c.args.file x) c.args.out.now c.call_back.new.state c.call_back.new.out)) c.state.view_is
    (recall_went m c.call_back.new.state c.args.file c.in-Some.waiting c.in-Some-next_call.call c.next_call.new.self c.args.out.now c.call_back.new.out c.call_back.result c.if-xid-eq0.false (c.in-Some.ensures m.next_xid)
    c.if-waiting-file.false c.in-Some-next_call.ensures c.call_back.ensures)
