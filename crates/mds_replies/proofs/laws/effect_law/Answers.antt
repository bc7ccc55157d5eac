use Rattle.mds_replies.proofs.Effects.{effects_are_numbered}
use Rattle.mds_replies.proofs.laws.effect_law.Goals as goal

pub returns : goal.returns
returns c = record { numbered = effects_are_numbered c.slot_law.ensures.once }
