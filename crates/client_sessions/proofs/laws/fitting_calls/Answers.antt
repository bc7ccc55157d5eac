use Rattle.client_sessions.proofs.FittingCases.{asks_fit}
use Rattle.client_sessions.proofs.laws.fitting_calls.Goals as goal

pub returns : goal.returns
returns c = record { fit = asks_fit }
