use Rattle.mds_replies.proofs.Effects.{effects_are_numbered}
use Rattle.mds_replies.proofs.ReturnedRuns.{returns_come}
use Rattle.mds_replies.proofs.laws.returns_law.Goals as goal

pub returns : goal.returns
returns c = record { come = returns_come (effects_are_numbered c.slot_law.ensures.once) }
