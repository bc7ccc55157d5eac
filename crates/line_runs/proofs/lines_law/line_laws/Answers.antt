use Rattle.line_runs.proofs.LineLemmas.{script_line, line_length, script_end, script_last, script_over}
use Rattle.line_runs.proofs.lines_law.line_laws.Goals as goal

pub returns : goal.returns
returns c = record {
  line = script_line;
  line_length = line_length;
  end = script_end;
  last = script_last;
  over = script_over;
}
