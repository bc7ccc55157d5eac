use Rattle.ds_files.proofs.Harmless.{refusals, queries}
use Rattle.ds_files.proofs.laws.refusals.Goals as goal

pub returns-clause-refused : goal.returns-clause-refused
returns-clause-refused c = refusals

pub returns-clause-queries : goal.returns-clause-queries
returns-clause-queries c = queries
