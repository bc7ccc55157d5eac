use Rattle.std.proofs.Common.{sym, subst}
use Rattle.mds_rule.specs.MdsStates.{MdsValue}
use Rattle.compound_run.specs.declared.op_end.OpEnd.{OpEnd}
use Rattle.compound_run.specs.CompoundRuns.{HasMadeStep}
use Rattle.mds_state.proofs.StepLemmas.{stepped_none}
use Rattle.mds_compounds.specs.Walks.{goes_on}
use Rattle.mds_compounds.proofs.WalkLemmas.{walk_goes, walked_room, on_ok}
use Rattle.mds_compounds.proofs.walk.go_on.Goals as goal

pub loop-end-preserved : goal.loop-end-preserved
loop-end-preserved c =
    let l = c.loop-end in
    let e = c.in_ok-end-in-Goes.end in
    record {
      room = walked_room l.run c.step.new.run e c.in_ok-end-in-Goes.ensures.on (l.invariant.room c.in-Goes.is);
      rest = λ n new it.
          l.invariant.rest n new
          (subst (λ (x : OpEnd). HasMadeStep (goes_on c.args.now x l.state l.run) l.out n new) (sym c.in-Goes.is)
          (walk_goes c.args.now l.state c.step.new.state n l.run c.step.new.run e l.out c.step.new.out new c.in_ok-end-in-Goes.ensures.op c.in_ok-end-in-Goes.ensures.on it));
    }

pub returns-in-Ends : goal.returns-in-Ends
returns-in-Ends c =
    let l = c.loop-end in
    on_ok c.finish.result c.finish.ensures
    (λ made. l.invariant.rest c.finish.new.state c.finish.new.out (subst (λ (x : OpEnd). HasMadeStep (goes_on c.args.now x l.state l.run) l.out c.finish.new.state c.finish.new.out) (sym c.in-Ends.is) made))

pub returns-in-Waits : goal.returns-in-Waits
returns-in-Waits c =
    let l = c.loop-end in
    l.invariant.rest l.state l.out (subst (λ (x : OpEnd). HasMadeStep (goes_on c.args.now x l.state l.run) l.out l.state l.out) (sym c.in-Waits.is) (stepped_none l.state l.out))
