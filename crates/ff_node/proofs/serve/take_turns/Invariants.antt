use Rattle.std.proofs.Common.{◌≡◌, ◌+◌, length}
use Rattle.store_disk.specs.Disks.{both_faults}
use Rattle.ff_node.specs.Serve.{Served, beside}
use Rattle.ff_node.proofs.serve.take_turns.Given as goal

-- From the start to now events were taken and done, as many as turns are used; and the node may be used, and the disks have what is to be remembered.
abbrev pub invariant-loop-left : goal.invariant-loop-left
invariant-loop-left g l =
    ((served : Served g.N.Node.rule (g.N.Node.state l.fn.node) (beside (g.L.Link.coming l.fn.link) (g.L.Link.sent l.fn.link) (g.C.Clock.coming l.fn.clock) (g.C.Clock.moment l.fn.clock) (g.K.Sink.held l.fn.sink))
    (g.N.Node.state l.node) (beside (g.L.Link.coming l.link) (g.L.Link.sent l.link) (g.C.Clock.coming l.clock) (g.C.Clock.moment l.clock) (g.K.Sink.held l.sink)))
    × (length served.taken + l.left ≡ l.fn.turns))
    × (g.N.Node.is_usable l.node)
    × (g.N.Node.keeps (g.N.Node.state l.node) l.node (g.D.Disk.told l.disk) (g.D.Disk.told l.spare))
    × (g.L.Link.opened l.link ≡ g.L.Link.opened l.fn.link)
    × (g.L.Link.faults l.link ≡ g.L.Link.faults l.fn.link)
    × (g.K.Sink.faults l.sink ≡ g.K.Sink.faults l.fn.sink)
    × (both_faults (g.D.Disk.faults l.disk) (g.D.Disk.faults l.spare) ≡ both_faults (g.D.Disk.faults l.fn.disk) (g.D.Disk.faults l.fn.spare))

abbrev pub decreases-loop-left : goal.decreases-loop-left
decreases-loop-left g l = l.left
