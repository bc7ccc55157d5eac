use Rattle.nfs4_session.proofs.SlotRuns.{each_once}
use Rattle.nfs4_session.proofs.laws.slots_law.Goals as goal

pub returns : goal.returns
returns c = each_once
