use Rattle.std.proofs.Common.{length, filter}
use Rattle.mds_rule.specs.MdsStates.{AwaitedCall}
use Rattle.awaited_calls.specs.Awaited.{is_behind}
use Rattle.mds_core.proofs.Forgotten.{IsForgotten}
use Rattle.mds_core.proofs.ticks.forget_calls.Given as goal

abbrev pub invariant-loop-call : goal.invariant-loop-call
invariant-loop-call l = IsForgotten l.fn.state l.after l.state

abbrev pub decreases-loop-call : goal.decreases-loop-call
decreases-loop-call l = length (filter (λ (c : AwaitedCall). is_behind l.after c.xid) l.state.calls)
