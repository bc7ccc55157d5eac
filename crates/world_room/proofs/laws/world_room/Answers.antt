use Rattle.world_room.proofs.FewEntries.{roomy}
use Rattle.world_room.proofs.laws.world_room.Goals as goal

pub returns : goal.returns
returns c = record { roomy = λ boots w run told small. roomy w told c.room_law.ensures.short c.room_law.ensures.setup boots run small }
