use Rattle.journal_print.proofs.Distinct.{same_from_print}
use Rattle.journal_print.proofs.print_law.distinct_prints.Goals as goal

pub returns : goal.returns
returns c = same_from_print
