use Rattle.std.proofs.Common.{◌≡◌, ◌++◌, List, ℕ, length}
use Rattle.record_link.specs.Stream.{gone_more}
use Rattle.record_link.proofs.outgoing.Outgoing.write_to.Given as goal

abbrev pub invariant-loop-self : goal.invariant-loop-self
invariant-loop-self g l =
    ((went : List ℕ) × (l.fn.self ≡ went ++ l.self) × (g.S.Stream.gone l.stream ≡ gone_more (g.S.Stream.gone l.fn.stream) went))
    × (g.S.Stream.coming l.stream ≡ g.S.Stream.coming l.fn.stream)
    × (g.S.Stream.faults l.stream ≡ g.S.Stream.faults l.fn.stream)

abbrev pub decreases-loop-self : goal.decreases-loop-self
decreases-loop-self g l = length l.self
