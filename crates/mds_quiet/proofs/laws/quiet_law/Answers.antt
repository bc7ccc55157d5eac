use Rattle.mds_quiet.proofs.RunsRest.{runs_rest, recalls_rest}
use Rattle.mds_quiet.proofs.laws.quiet_law.Goals as goal

pub returns-clause-files : goal.returns-clause-files
returns-clause-files c = runs_rest

pub returns-clause-recalls : goal.returns-clause-recalls
returns-clause-recalls c = recalls_rest
