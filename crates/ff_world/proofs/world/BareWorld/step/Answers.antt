use Rattle.std.proofs.Common.{◌∙◌}
use Rattle.ff_script.specs.Line.{event_value}
use Rattle.ff_world.proofs.Effects.{occurs}
use Rattle.ff_world.proofs.world.BareWorld.step.Goals as goal

pub returns-clause-meets : goal.returns-clause-meets
returns-clause-meets c =
    λ fresh. occurs c.args.self.now.world (event_value c.args.event.now) c.happen.new.self (c.happen.ensures.spent ∙ fresh) c.in_default-happen.ensures.happens.0 c.in_default-happen.ensures.happens.1
