use Rattle.mds_receive.proofs.ReceivedSo.{numbered, blind}
use Rattle.mds_receive.proofs.WholeCompounds.{taken}
use Rattle.mds_receive.proofs.laws.receive_law.Goals as goal

pub returns-clause-numbered : goal.returns-clause-numbered
returns-clause-numbered c = numbered

pub returns-clause-blind : goal.returns-clause-blind
returns-clause-blind c = blind c.every_message.ensures.call_again

pub returns-clause-taken : goal.returns-clause-taken
returns-clause-taken c = taken c.every_listing.ensures.whole c.every_message.ensures.call_again
