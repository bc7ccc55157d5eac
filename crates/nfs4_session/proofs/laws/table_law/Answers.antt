use Rattle.nfs4_session.proofs.TableRuns.{keeps_table}
use Rattle.nfs4_session.proofs.laws.table_law.Goals as goal

pub returns : goal.returns
returns c = keeps_table
