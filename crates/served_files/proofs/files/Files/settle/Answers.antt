use Rattle.served_files.specs.Quiet.{IsFileQuiet}
use Rattle.served_files.proofs.FileLists.{is_at}
use Rattle.served_files.proofs.QuietLemmas.{all_settled}
use Rattle.served_files.proofs.files.Files.settle.Goals as goal

pub invariant_of-self : goal.invariant_of-self
invariant_of-self c =
    let files = c.self.inside.files.items in
    let place = c.in-Some.place in
    let x = c.index.result.now in
    let at = is_at c.args.self.now files c.args.file place x c.self.view_is c.in-Some.ensures.exact c.in-Some.ensures.within.0 c.in-Some.ensures.within.1 c.index.ensures in (
      c.self.invariant.0,
      c.self.invariant.1,
      all_settled IsFileQuiet c.self.inside.touched.due.keys c.remove.new.self.keys files place x at.there c.if-is_quiet.ensures.quiet c.remove.ensures.updates.2 c.self.invariant.2,
      c.self.invariant.3,
    )
