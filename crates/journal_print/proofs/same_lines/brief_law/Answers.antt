use Rattle.journal_print.proofs.LineData.{short_line}
use Rattle.journal_print.proofs.same_lines.brief_law.Goals as goal

pub returns : goal.returns
returns c = short_line
