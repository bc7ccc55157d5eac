use Rattle.std.proofs.Common.{Ok, sym, ap, subst, ◌∙◌}
use Rattle.store_disk.specs.Disks.{both_faults}
use Rattle.ff_node.specs.declared.end.NodeEnd.{NodeEnd}
use Rattle.ff_node.specs.Serve.{disk_faults}
use Rattle.ds_store.specs.Kept.{KeptState}
use Rattle.ds_store.proofs.Waiting.{waits_from}
use Rattle.ds_node.specs.DsNodes.{IsUnspent, KeepsSettled}
use Rattle.ds_node.proofs.Answering.{counts_sum, opening_sum}
use Rattle.ds_node.proofs.serve.serve_log.Goals as goal

pub serve_node-requires : goal.serve_node-requires
serve_node-requires g c =
    let k = c.in-Ok.kept in
    let disk = g.D.Disk.told c.open.new.disk in
    let spare = g.D.Disk.told c.open.new.spare in
    let keeps : KeepsSettled k.server k disk spare = (disk, spare, waits_from k.server k.log disk spare (c.in-Ok.ensures.stands c.in-Ok.ensures.fresh)) in
    record { usable = subst IsUnspent (sym c.new-node.ensures) c.in-Ok.ensures.fresh; keeps = subst (λ (n : KeptState). KeepsSettled n.server n disk spare) (sym c.new-node.ensures) keeps }

pub returns-in-Err-clause-keeps : goal.returns-in-Err-clause-keeps
returns-in-Err-clause-keeps g c =
    let faults = g.D.Disk.faults c.args.disk.now in
    let spare_faults = g.D.Disk.faults c.args.spare.now in
    opening_sum KeptState c.in-Err.cause faults spare_faults (g.D.Disk.faults c.open.new.disk) (g.D.Disk.faults c.open.new.spare) c.in-Err.ensures.faults
    ∙ ap (λ (e : NodeEnd). disk_faults e (both_faults faults spare_faults)) (sym c.end_of_opening.ensures)

pub returns-clause-keeps : goal.returns-clause-keeps
returns-clause-keeps g c =
    let opened = counts_sum {T = Unit {0}} (Ok tt) (g.D.Disk.faults c.args.disk.now) (g.D.Disk.faults c.args.spare.now) (g.D.Disk.faults c.open.new.disk) (g.D.Disk.faults c.open.new.spare) c.in-Ok.ensures.faults in
    c.serve_node.ensures.keeps ∙ ap (disk_faults c.serve_node.result) opened
