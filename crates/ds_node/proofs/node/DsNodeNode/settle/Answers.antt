use Rattle.std.proofs.Common.{sym, subst}
use Rattle.cluster_model.specs.Server.{ServerState}
use Rattle.ds_store.specs.Kept.{KeptState}
use Rattle.ds_node.specs.DsNodes.{IsUnspent, KeepsSettled, server_leaves}
use Rattle.ds_node.proofs.Answering.{keeps_settled, leaves_unsettled, settles_on}
use Rattle.ds_node.proofs.node.DsNodeNode.settle.Goals as goal

pub returns-in-Err-clause-broken : goal.returns-in-Err-clause-broken
returns-in-Err-clause-broken g c =
    let disk = g.D.Disk.told c.args.disk.now in
    let spare = g.D.Disk.told c.args.spare.now in
    let new = c.settle.new in
    subst (λ (k : KeptState). (settled : ServerState) → KeepsSettled settled k disk spare → server_leaves settled k.server (g.D.Disk.told new.disk) (g.D.Disk.told new.spare)) c.self.view_is
    (λ settled kept. leaves_unsettled settled c.self.inside.kept new.self disk spare (g.D.Disk.told new.disk) (g.D.Disk.told new.spare) c.settle.result c.settle.ensures.settles kept)

pub returns-clause-keeps : goal.returns-clause-keeps
returns-clause-keeps g c =
    let disk = g.D.Disk.told c.args.disk.now in
    let spare = g.D.Disk.told c.args.spare.now in
    let new = c.settle.new in
    let unspent = subst IsUnspent (sym c.self.view_is) c.requires in
    let same = (settles_on c.self.inside.kept disk spare c.settle.result new.self (g.D.Disk.told new.disk) (g.D.Disk.told new.spare) unspent c.settle.ensures.steps).0 in
    subst (λ (k : KeptState). (settled : ServerState) → KeepsSettled settled k disk spare → KeepsSettled new.self.server new.self (g.D.Disk.told new.disk) (g.D.Disk.told new.spare)) c.self.view_is
    (λ settled kept. keeps_settled settled c.self.inside.kept new.self disk spare (g.D.Disk.told new.disk) (g.D.Disk.told new.spare) c.settle.result c.in_default.field-0 c.in_default.is same c.settle.ensures.settles kept)
