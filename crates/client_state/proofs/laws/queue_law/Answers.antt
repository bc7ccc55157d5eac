use Rattle.client_state.proofs.HeadWaits.{all_waits}
use Rattle.client_state.proofs.laws.queue_law.Goals as goal

pub returns : goal.returns
returns c = all_waits
