use Rattle.table_slots.proofs.Ids.{reads_each_id}
use Rattle.table_slots.proofs.session_ids_law.Goals as goal

pub returns : goal.returns
returns c = reads_each_id
