use Rattle.std.proofs.Common.{length}
use Rattle.cluster_model.specs.declared.outbox.Outbox.{Outbox}
use Rattle.mds_rule.specs.MdsStates.{MdsValue}
use Rattle.mds_rule.specs.Events.{leases_end}
use Rattle.compound_run.specs.CompoundRuns.{HasMadeStep}
use Rattle.mds_core.proofs.ticks.end_leases.Given as goal

abbrev pub invariant-loop-client : goal.invariant-loop-client
invariant-loop-client l =
    (n : MdsValue) (new : Outbox) → HasMadeStep (leases_end l.now (length l.state.sessions.clients) l.state) l.out n new
    → HasMadeStep (leases_end l.now (length l.fn.state.sessions.clients) l.fn.state) l.fn.out n new

abbrev pub decreases-loop-client : goal.decreases-loop-client
decreases-loop-client l = length l.state.sessions.clients
