use Rattle.std.proofs.Common.{◌≡◌, ◌≤◌, ◌-◌, length}
use Rattle.line_runs.specs.Lines.{all_left}
use Rattle.user_nodes.proofs.PieceLemmas.{HasFilled}
use Rattle.user_nodes.proofs.pieces.read_piece.Given as goal

abbrev pub invariant-reads : goal.invariant-reads
invariant-reads g l = record {
  within : l.filled ≤ length l.piece;
  told : HasFilled (all_left l.fn.buffer (g.S.Source.left l.fn.source)) l.piece l.filled (all_left l.buffer (g.S.Source.left l.source));
  faults : g.S.Source.faults l.source ≡ g.S.Source.faults l.fn.source;
}

abbrev pub decreases-reads : goal.decreases-reads
decreases-reads g l = length l.initial.piece - l.filled
