use Rattle.same_layout.proofs.Granted.{read_as_granted}
use Rattle.same_layout.proofs.laws.same_layout.Goals as goal

pub returns : goal.returns
returns c = read_as_granted c.every_body.ensures.layouts
