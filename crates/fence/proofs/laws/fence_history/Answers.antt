use Rattle.fence.proofs.History.{over_just_where}
use Rattle.fence.proofs.laws.fence_history.Goals as goal

pub returns : goal.returns
returns c = over_just_where
