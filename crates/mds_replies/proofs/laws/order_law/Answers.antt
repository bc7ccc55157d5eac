use Rattle.mds_replies.proofs.Effects.{effects_are_numbered}
use Rattle.mds_replies.proofs.SlotOrders.{slots_stay_free, order_is_by_count, counts_took_effect, first_is_free, taken_are_counted}
use Rattle.mds_replies.proofs.laws.order_law.Goals as goal

pub returns-clause-stays : goal.returns-clause-stays
returns-clause-stays c = slots_stay_free c.table_law.ensures (effects_are_numbered c.slot_law.ensures.once)

pub returns-clause-misordered : goal.returns-clause-misordered
returns-clause-misordered c = order_is_by_count c.table_law.ensures (effects_are_numbered c.slot_law.ensures.once)

pub returns-clause-taken : goal.returns-clause-taken
returns-clause-taken c = counts_took_effect c.table_law.ensures (effects_are_numbered c.slot_law.ensures.once)

pub returns-clause-first : goal.returns-clause-first
returns-clause-first c = first_is_free c.table_law.ensures (effects_are_numbered c.slot_law.ensures.once)

pub returns-clause-counted : goal.returns-clause-counted
returns-clause-counted c = taken_are_counted (effects_are_numbered c.slot_law.ensures.once)
