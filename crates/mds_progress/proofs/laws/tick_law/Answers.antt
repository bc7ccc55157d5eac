use Rattle.mds_progress.proofs.Ticked.{ticks}
use Rattle.mds_progress.proofs.Resent.{resends}
use Rattle.mds_progress.proofs.Awaits.{awaits_each}
use Rattle.mds_progress.proofs.laws.tick_law.Goals as goal

pub returns-clause-keeps : goal.returns-clause-keeps
returns-clause-keeps c = ticks

pub returns-clause-sends : goal.returns-clause-sends
returns-clause-sends c = resends

pub returns-clause-awaits : goal.returns-clause-awaits
returns-clause-awaits c = awaits_each
