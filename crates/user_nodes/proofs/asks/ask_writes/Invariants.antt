use Rattle.std.proofs.Common.{◌≡◌, length}
use Rattle.cluster_model.specs.declared.limits.TheConstants.{PIECE_SIZE}
use Rattle.line_runs.specs.Lines.{all_left}
use Rattle.user_nodes.proofs.ReadLemmas.{HasAskedPieces}
use Rattle.user_nodes.proofs.asks.ask_writes.Given as goal

abbrev pub invariant-pieces : goal.invariant-pieces
invariant-pieces g l = record {
  size : length l.piece ≡ PIECE_SIZE;
  asked : HasAskedPieces l.number (all_left l.fn.buffer (g.S.Source.left l.fn.source)) l.fn.client.client l.fn.out.sends.items (all_left l.buffer (g.S.Source.left l.source)) l.client.client l.out.sends.items;
  faults : g.S.Source.faults l.source ≡ g.S.Source.faults l.fn.source;
}
