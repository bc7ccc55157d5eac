use Rattle.open_state.proofs.OneClient.{opened_has, closed_has, ended_has}
use Rattle.open_state.proofs.laws.one_client_law.Goals as goal

pub returns : goal.returns
returns c = record { opens = opened_has; closes = closed_has; ends = ended_has }
