use Rattle.std.proofs.Common.{◌≡◌, length, filter}
use Rattle.std.specs.Prelude.{◌&&◌, find}
use Rattle.mds_rule.specs.MdsStates.{AwaitedCall}
use Rattle.mds_rule.specs.Events.{is_outstanding_to}
use Rattle.awaited_calls.specs.Awaited.{is_behind}
use Rattle.mds_core.proofs.timeouts.first_awaited.Given as goal

abbrev pub invariant-loop-call : goal.invariant-loop-call
invariant-loop-call l = find (is_outstanding_to l.fn.state l.fn.node) l.fn.state.calls ≡ find (λ (c : AwaitedCall). is_outstanding_to l.fn.state l.fn.node c && is_behind l.after c.xid) l.fn.state.calls

abbrev pub decreases-loop-call : goal.decreases-loop-call
decreases-loop-call l = length (filter (λ (c : AwaitedCall). is_behind l.after c.xid) l.fn.state.calls)
