use Rattle.ds_files.proofs.Asked.{permitted, asked}
use Rattle.ds_files.proofs.laws.effects.Goals as goal

pub returns-clause-permitted : goal.returns-clause-permitted
returns-clause-permitted c = permitted

pub returns-clause-asked : goal.returns-clause-asked
returns-clause-asked c = asked
