use Rattle.mds_io.proofs.OwnRuns.{own_write_law}
use Rattle.mds_io.proofs.laws.own_write_law.Goals as goal

pub returns : goal.returns
returns c = own_write_law c.writer_law.ensures
