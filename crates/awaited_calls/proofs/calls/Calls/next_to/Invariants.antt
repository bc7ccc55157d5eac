use Rattle.std.proofs.Common.{◌≡◌}
use Rattle.std.specs.Prelude.{◌&&◌, find}
use Rattle.cluster_model.specs.Nodes.{is_node}
use Rattle.awaited_calls.specs.Awaited.{calls_of, is_behind}
use Rattle.awaited_calls.proofs.calls.Calls.next_to.Given as goal

abbrev pub invariant-loop-call : goal.invariant-loop-call
invariant-loop-call l =
    (goal.iterator-loop-call).can_next l.call-iterator
    × (goal.iterator-loop-call).is_finite l.call-iterator
    × (find (λ call. is_node call.node l.node && is_behind l.fn.after call.xid) l.self ≡ find (λ call. is_node call.node l.node) (calls_of l.call-iterator))
