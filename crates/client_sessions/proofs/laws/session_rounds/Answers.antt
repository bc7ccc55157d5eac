use Rattle.client_state.specs.ClientStates.{fresh_client}
use Rattle.client_laws.specs.ClientHistory.{client_history}
use Rattle.client_sessions.proofs.InRuns.{keeps_slot}
use Rattle.client_sessions.proofs.Rounds.{keeps_rounds}
use Rattle.client_sessions.proofs.laws.session_rounds.Goals as goal

pub returns : goal.returns
returns c = record { rounds = λ number verifier first_xid inputs few. keeps_rounds (client_history (fresh_client number verifier first_xid) inputs) (keeps_slot number verifier first_xid inputs) few }
