use Rattle.data_file.proofs.Paging.{shown_length}
use Rattle.data_file.proofs.content.FileContent.size.Goals as goal

pub returns-clause-exact : goal.returns-clause-exact
returns-clause-exact c =
    let f = c.self.inside in
    rw (← c.self.view_is, shown_length f.stable f.dirty f.pending.items c.self.invariant, ← c.length.ensures.exact, ← c.length-2.ensures.exact) c.max.ensures
