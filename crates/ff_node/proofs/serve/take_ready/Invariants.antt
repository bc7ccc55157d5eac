use Rattle.std.proofs.Common.{◌≡◌, ◌≤◌, ◌-◌}
use Rattle.store_disk.specs.Disks.{both_faults}
use Rattle.ff_node.specs.Serve.{TakesAll, beside}
use Rattle.ff_node.proofs.serve.take_ready.Given as goal

-- So many were taken, and none was answered; what was settled is.
abbrev pub invariant-loop-taken : goal.invariant-loop-taken
invariant-loop-taken g l =
    TakesAll g.N.Node.rule (g.N.Node.state l.fn.node) (beside (g.L.Link.coming l.fn.link) (g.L.Link.sent l.fn.link) (g.C.Clock.coming l.fn.clock) (g.C.Clock.moment l.fn.clock) (g.K.Sink.held l.fn.sink)) l.fn.out.sends.items
    l.taken (g.N.Node.state l.node) (beside (g.L.Link.coming l.link) (g.L.Link.sent l.link) (g.C.Clock.coming l.clock) (g.C.Clock.moment l.clock) (g.K.Sink.held l.sink)) l.out.sends.items
    × (l.taken ≤ l.fn.most)
    × (g.N.Node.is_usable l.node)
    × ((settled : _) → g.N.Node.keeps settled l.fn.node (g.D.Disk.told l.fn.disk) (g.D.Disk.told l.fn.spare) → g.N.Node.keeps settled l.node (g.D.Disk.told l.disk) (g.D.Disk.told l.spare))
    × (g.L.Link.opened l.link ≡ g.L.Link.opened l.fn.link)
    × (g.L.Link.faults l.link ≡ g.L.Link.faults l.fn.link)
    × (g.K.Sink.faults l.sink ≡ g.K.Sink.faults l.fn.sink)
    × (both_faults (g.D.Disk.faults l.disk) (g.D.Disk.faults l.spare) ≡ both_faults (g.D.Disk.faults l.fn.disk) (g.D.Disk.faults l.fn.spare))

abbrev pub decreases-loop-taken : goal.decreases-loop-taken
decreases-loop-taken g l = l.fn.most - l.taken
