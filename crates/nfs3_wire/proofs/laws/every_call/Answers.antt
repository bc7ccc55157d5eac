use Rattle.std.proofs.Common.{refl}
use Rattle.nfs3_wire.specs.Calls.{calls}
use Rattle.nfs3_wire.proofs.laws.every_call.Goals as goal

pub returns-clause-exact : goal.returns-clause-exact
returns-clause-exact c = c.every_arm.ensures calls refl refl
