use Rattle.script_gen.proofs.GeneratedLines.{script_of_events}
use Rattle.script_gen.proofs.script_law.generated_law.Goals as goal

pub returns-clause-lines : goal.returns-clause-lines
returns-clause-lines c = λ seed budget room. (script_of_events seed budget room).0

pub returns-clause-count : goal.returns-clause-count
returns-clause-count c = λ seed budget room. (script_of_events seed budget room).1
