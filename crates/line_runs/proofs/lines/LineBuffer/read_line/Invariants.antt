use Rattle.std.proofs.Common.{◌≡◌, ◌-◌, ◌≤◌, vec_len}
use Rattle.line_runs.specs.Lines.{HoldsLine}
use Rattle.line_runs.proofs.LineLemmas.{Begun}
use Rattle.line_runs.proofs.lines.LineBuffer.read_line.Given as goal

abbrev pub invariant-pieces : goal.invariant-pieces
invariant-pieces g l = record {
  room : vec_len l.line ≤ l.budget;
  faults : g.S.Source.faults l.source ≡ g.S.Source.faults l.fn.source;
  unasked : HoldsLine l.fn.self → (l.self ≡ l.fn.self) × (l.source ≡ l.fn.source);
  told : Begun l.budget l.fn.self (g.S.Source.left l.fn.source) l.line.items l.self (g.S.Source.left l.source);
}

abbrev pub decreases-pieces : goal.decreases-pieces
decreases-pieces g l = l.budget - vec_len l.line
