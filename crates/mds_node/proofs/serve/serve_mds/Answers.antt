use Rattle.std.proofs.Common.{None, inl, sym, ap, ◌∙◌}
use Rattle.ff_node.specs.Serve.{beside, disk_faults, link_faults, sink_faults}
use Rattle.ff_node.proofs.ServeLemmas.{same_beside}
use Rattle.mds_node.proofs.DoesLemmas.{open_counted, open_keeps, open_writes, runs_new}
use Rattle.mds_node.proofs.serve.serve_mds.Goals as goal

pub returns-in-Err-clause-faults : goal.returns-in-Err-clause-faults
returns-in-Err-clause-faults g c =
    let n = g.L.Link.faults c.args.link.now in
    c.finish-in-Err.ensures.faults ∙ c.in-Err.ensures.faults ∙ open_counted c.in-Err.failed n ∙ ap (λ e. link_faults e n) (sym c.of_link.ensures)

pub returns-in-Err-clause-writes : goal.returns-in-Err-clause-writes
returns-in-Err-clause-writes g c = ap (λ e. sink_faults e 0) c.of_link.ensures ∙ open_writes c.in-Err.failed

pub returns-in-Err-clause-keeps : goal.returns-in-Err-clause-keeps
returns-in-Err-clause-keeps g c = ap (λ e. disk_faults e 0) c.of_link.ensures ∙ open_keeps c.in-Err.failed

pub returns-clause-told : goal.returns-clause-told
returns-clause-told g c =
    let coming = g.L.Link.coming in
    let sent = g.L.Link.sent in
    let moments = g.C.Clock.coming c.args.clock.now in
    let moment = g.C.Clock.moment c.args.clock.now in
    let was = beside (coming c.args.link.now) (sent c.args.link.now) moments moment None in
    let opened = beside (coming c.open.new.self) (sent c.open.new.self) moments moment None in
    let after = beside (coming c.serve_node.new.link) (sent c.serve_node.new.link) (g.C.Clock.coming c.serve_node.new.clock) (g.C.Clock.moment c.serve_node.new.clock) None in
    let same = same_beside (coming c.args.link.now) (coming c.open.new.self) (sent c.args.link.now) (sent c.open.new.self) moments moment None c.in_default-open.ensures.coming c.in_default-open.ensures.sent in
    inl (
      c.serve_node.ensures.opened ∙ c.in_default-open.ensures.opened,
      (
        c.serve_node.new.node,
        runs_new c.new-2.result.items c.in-Ok.node _ c.serve_node.new.node c.args.config.now.turns opened was after c.serve_node.result c.new-2.ensures.items c.in-Ok.ensures same c.serve_node.ensures.told,
      ),
    )
