use Rattle.client_sessions.proofs.InRuns.{says_who, keeps_slot, asks_for_one, returns_own, enters_granted, calls_granted}
use Rattle.client_sessions.proofs.Strays.{strays_go_out}
use Rattle.client_sessions.proofs.NoneEmpty.{bytes}
use Rattle.client_sessions.proofs.laws.client_sessions.Goals as goal

pub returns-clause-who : goal.returns-clause-who
returns-clause-who c = says_who

pub returns-clause-slot : goal.returns-clause-slot
returns-clause-slot c = keeps_slot

pub returns-clause-asks : goal.returns-clause-asks
returns-clause-asks c = asks_for_one

pub returns-clause-returns : goal.returns-clause-returns
returns-clause-returns c = returns_own

pub returns-clause-enters : goal.returns-clause-enters
returns-clause-enters c = enters_granted

pub returns-clause-calls : goal.returns-clause-calls
returns-clause-calls c = calls_granted

pub returns-clause-strays : goal.returns-clause-strays
returns-clause-strays c = strays_go_out

pub returns-clause-bytes : goal.returns-clause-bytes
returns-clause-bytes c = bytes
