use Rattle.mds_laws.proofs.SlotUses.{requests_once, repeats_change_nothing}
use Rattle.mds_laws.proofs.slot_law.Goals as goal

pub returns : goal.returns
returns c = record { once = requests_once c.table_slots_law.ensures; repeats = repeats_change_nothing }
