use Rattle.table_slots.proofs.Runs.{uses_slots_once}
use Rattle.table_slots.proofs.table_slots_law.Goals as goal

pub returns : goal.returns
returns c = uses_slots_once c.slots_law.ensures c.table_law.ensures
