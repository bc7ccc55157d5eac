use Rattle.std.proofs.Common.{ap, subst, ◌∙◌, OnOk}
use Rattle.recall.specs.Recalls.{RecallsAfter, after_reply}
use Rattle.nfs4_types.specs.declared.status.Stat4.{Stat4}
use Rattle.mds_rule.specs.Answers.{recall_end, recalls_after}
use Rattle.compound_run.specs.CompoundRuns.{HasMadeStep}
use Rattle.mds_state.specs.contracts.state.State as state
use Rattle.mds_answers.proofs.answers.client_answered.Goals as goal

pub returns : goal.returns
returns c =
    let m = state.the_view c.state.inside in
    rw (← c.state.view_is)
    (subst (λ (a : RecallsAfter). OnOk c.end_recall.result (HasMadeStep (recalls_after m a) c.args.out.now c.end_recall.new.state c.end_recall.new.out))
    (c.on_reply-outcome.ensures ∙ ap (λ (s : Stat4). after_reply m.recalls c.args.xid s) (c.recall_end-status.ensures ∙ ap recall_end c.recall_answer.ensures))
    c.end_recall.ensures.steps)
