use Rattle.mds_replies.proofs.Effects.{effects_are_numbered}
use Rattle.mds_replies.proofs.RequestRuns.{each_reply_stands}
use Rattle.mds_replies.proofs.laws.replies_law.Goals as goal

pub returns : goal.returns
returns c = record { stands = each_reply_stands c.table_law.ensures (effects_are_numbered c.slot_law.ensures.once) }
