use Rattle.mds_quiet.proofs.OwnOut.{files_go}
use Rattle.mds_quiet.proofs.ReadsOut.{reads_go}
use Rattle.mds_quiet.proofs.RecallsOut.{recalls_go}
use Rattle.mds_quiet.proofs.laws.rest_law.Goals as goal

pub returns-clause-files : goal.returns-clause-files
returns-clause-files c = files_go

pub returns-clause-reads : goal.returns-clause-reads
returns-clause-reads c = reads_go

pub returns-clause-recalls : goal.returns-clause-recalls
returns-clause-recalls c = recalls_go
