use Rattle.std.proofs.Common.{refl}
use Rattle.mirror_client.proofs.NamedTimeouts as timeouts
use Rattle.mirror_client.proofs.laws.late_law.Goals as goal

pub returns-clause-named : goal.returns-clause-named
returns-clause-named c = timeouts.named

pub returns-clause-others : goal.returns-clause-others
returns-clause-others c = timeouts.others

pub returns-clause-unnamed : goal.returns-clause-unnamed
returns-clause-unnamed c = λ to x. refl

pub returns-clause-entered : goal.returns-clause-entered
returns-clause-entered c = timeouts.entered
