use Rattle.mds_returns.proofs.EndsReturned.{returns_at_ends}
use Rattle.mds_returns.proofs.laws.returned_ends.Goals as goal

pub returns : goal.returns
returns c = record { ends = returns_at_ends c.effect_law.ensures.numbered c.returns_law.ensures.come }
