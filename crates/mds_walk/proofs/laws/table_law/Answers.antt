use Rattle.mds_walk.proofs.TableKept.{tables_stand}
use Rattle.mds_walk.proofs.laws.table_law.Goals as goal

pub returns : goal.returns
returns c = tables_stand
