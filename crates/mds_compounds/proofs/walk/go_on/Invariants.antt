use Rattle.std.proofs.Common.{◌≡◌}
use Rattle.cluster_model.specs.declared.outbox.Outbox.{Outbox}
use Rattle.mds_rule.specs.MdsStates.{MdsValue}
use Rattle.compound_run.specs.declared.op_end.OpEnd.TheVariants.{Goes}
use Rattle.compound_run.specs.CompoundRuns.{HasMadeStep}
use Rattle.mds_compounds.specs.Walks.{HasRoomToGoOn, goes_on, steps_left}
use Rattle.mds_compounds.proofs.walk.go_on.Given as goal

abbrev pub invariant-loop-end : goal.invariant-loop-end
invariant-loop-end l = record {
  room : l.end ≡ Goes → HasRoomToGoOn l.run;
  rest : (n : MdsValue) (new : Outbox) → HasMadeStep (goes_on l.now l.end l.state l.run) l.out n new → HasMadeStep (goes_on l.fn.now l.fn.end l.fn.state l.fn.run) l.fn.out n new;
}

abbrev pub decreases-loop-end : goal.decreases-loop-end
decreases-loop-end l = steps_left l.end l.run
