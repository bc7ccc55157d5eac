use Rattle.standing_calls.proofs.StandingKept.{calls_stand}
use Rattle.standing_calls.proofs.RecallsKept.{recalls_stand}
use Rattle.standing_calls.proofs.laws.stands_law.Goals as goal

pub returns : goal.returns
returns c = record { calls = calls_stand; recalls = recalls_stand }
