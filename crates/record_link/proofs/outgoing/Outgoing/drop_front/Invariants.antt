use Rattle.std.proofs.Common.{◌≡◌, ◌≤◌, length, drop}
use Rattle.record_link.proofs.outgoing.Outgoing.drop_front.Given as goal

abbrev pub invariant-loop-left : goal.invariant-loop-left
invariant-loop-left l = (drop l.left l.self ≡ drop l.fn.count l.fn.self) × (l.left ≤ length l.self)

abbrev pub decreases-loop-left : goal.decreases-loop-left
decreases-loop-left l = l.left
