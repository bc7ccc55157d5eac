use Rattle.covered_writes.proofs.Moves.{run_covered, run_answered, run_applied}
use Rattle.covered_writes.proofs.laws.covered_writes.Goals as goal

pub returns-clause-covered : goal.returns-clause-covered
returns-clause-covered c = run_covered

pub returns-clause-answered : goal.returns-clause-answered
returns-clause-answered c = run_answered

pub returns-clause-applied : goal.returns-clause-applied
returns-clause-applied c = run_applied
