use Rattle.same_server.proofs.Same.{same_by}
use Rattle.same_server.proofs.laws.same_server.Goals as goal

pub returns : goal.returns
returns c = same_by c.every_ds_call.ensures.understood c.every_ds_call.ensures.answered c.every_ds_call.ensures.ruled
