use Rattle.std.proofs.Common.{take}
use Rattle.mirror_writer.specs.Outstanding.{is_covered_everywhere}
use Rattle.client_answers.specs.AnswerSteps.{Splits}
use Rattle.client_answers.proofs.told.split_covered.Given as goal

abbrev pub invariant-loop-number : goal.invariant-loop-number
invariant-loop-number l = Splits (is_covered_everywhere l.writer) (take l.number-index l.untold) l.covered l.rest
