use Rattle.std.proofs.Common.{sym, ◌∙◌}
use Rattle.nfs4_compound.proofs.JoinedUnions.{rest_served}
use Rattle.nfs4_compound.proofs.compound.Ops.rest.Goals as goal

pub returns : goal.returns
returns c = rw (← c.self.view_is) (c.rest.ensures ∙ sym (rest_served c.self.inside.all))
