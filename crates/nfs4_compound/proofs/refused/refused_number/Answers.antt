use Rattle.std.proofs.Common.{rules}
use Rattle.nfs4_compound.proofs.refused.refused_number.Goals as goal

pub returns-in-Ok : goal.returns-in-Ok
returns-in-Ok c = (search rules, (c.number32.new.self.at, rw c.at.ensures at c.in-Ok.ensures.0))
