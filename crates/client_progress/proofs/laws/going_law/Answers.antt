use Rattle.client_progress.proofs.EachEvent.{never_stuck, asks_at_tick, awaits_own, has_sent_anew, returns_by_compound, has_called_mirrors}
use Rattle.client_progress.proofs.laws.going_law.Goals as goal

pub returns-clause-goes : goal.returns-clause-goes
returns-clause-goes c = never_stuck

pub returns-clause-ticks : goal.returns-clause-ticks
returns-clause-ticks c = asks_at_tick

pub returns-clause-own : goal.returns-clause-own
returns-clause-own c = awaits_own

pub returns-clause-returns : goal.returns-clause-returns
returns-clause-returns c = returns_by_compound

pub returns-clause-anew : goal.returns-clause-anew
returns-clause-anew c = has_sent_anew

pub returns-clause-mirrors : goal.returns-clause-mirrors
returns-clause-mirrors c = has_called_mirrors
