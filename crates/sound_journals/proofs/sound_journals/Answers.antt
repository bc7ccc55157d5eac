use Rattle.sound_journals.proofs.Laws.{agrees}
use Rattle.sound_journals.proofs.OnePeriod.{one_period_sound, one_period_told}
use Rattle.sound_journals.proofs.sound_journals.Goals as goal

pub returns-clause-agree : goal.returns-clause-agree
returns-clause-agree c = agrees

pub returns-clause-one_period : goal.returns-clause-one_period
returns-clause-one_period c = (one_period_sound, one_period_told)
