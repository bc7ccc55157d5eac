use Rattle.mds_io.proofs.ReadRuns.{read_law}
use Rattle.mds_io.proofs.laws.read_law.Goals as goal

pub returns : goal.returns
returns c = read_law
