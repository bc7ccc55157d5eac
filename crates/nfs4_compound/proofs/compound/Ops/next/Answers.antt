use Rattle.std.proofs.Common.{sym}
use Rattle.nfs4_compound.specs.Args.{op_value}
use Rattle.nfs4_compound.proofs.JoinedUnions.{gives_served}
use Rattle.nfs4_compound.proofs.compound.Ops.next.Goals as goal

pub returns-in-Op-Served : goal.returns-in-Op-Served
returns-in-Op-Served c =
    let values = rw (c.at_same_place-all.ensures, c.in-Op-Served.field-0-is) at c.in-Op-Served.ensures.0 in
    let ends = rw c.at_same_place-all.ensures at c.in-Op-Served.ensures.1 in
    rw (← c.self.view_is) (gives_served c.self.inside.all c.next.new.self (op_value c.in-Op-Served.op) values ends)
