use Rattle.std.proofs.Common.{◌≡◌, false}
use Rattle.std.specs.Prelude.{◌&&◌, ◌==◌}
use Rattle.node_link.specs.Callees.{is_connected_to}
use Rattle.node_link.proofs.CalleeLemmas.{Before}
use Rattle.node_link.proofs.callees.Callees.from.Given as goal

abbrev pub invariant-loop-node : goal.invariant-loop-node
invariant-loop-node l = Before (λ x. (is_connected_to x.0 && x.1 == l.number) ≡ false) l.self l.node-index
