use Rattle.ds_log.proofs.Starting.{started, steady}
use Rattle.ds_log.proofs.replay.Replayed.start.Goals as goal

pub returns-clause-started : goal.returns-clause-started
returns-clause-started c = rw (c.of_parts.ensures, ← c.self.view_is) (started c.self.inside.head c.self.inside.files.items c.self.invariant (rw (← c.self.view_is) at c.requires))

pub returns-clause-steady : goal.returns-clause-steady
returns-clause-steady c = rw c.of_parts.ensures (steady c.self.inside.head c.self.inside.files.items c.self.invariant)
