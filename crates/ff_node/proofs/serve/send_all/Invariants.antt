use Rattle.std.proofs.Common.{◌≡◌, ◌++◌}
use Rattle.std.specs.Vec.Iter.{into_iter_items}
use Rattle.ff_node.specs.Serve.{behind}
use Rattle.ff_node.proofs.serve.send_all.Given as goal

abbrev pub invariant-loop-to : goal.invariant-loop-to
invariant-loop-to g l =
    (g.L.Link.sent l.link ≡ behind (g.L.Link.sent l.fn.link) l.yielded)
    × (l.yielded ++ into_iter_items l.to-iterator ≡ l.fn.records.items)
    × (g.L.Link.coming l.link ≡ g.L.Link.coming l.fn.link) × (g.L.Link.opened l.link ≡ g.L.Link.opened l.fn.link) × (g.L.Link.faults l.link ≡ g.L.Link.faults l.fn.link)
