use Rattle.std.proofs.Common.{sym}
use Rattle.data_file.specs.Paged.{upper_of}
use Rattle.data_file.proofs.Parts.{part_length}
use Rattle.data_file.proofs.part.FilePart.count.Goals as goal

pub returns : goal.returns
returns c =
    let p = c.self.inside in
    let within = c.self.invariant.1 in
    rw (← c.self.view_is) (sym (part_length p.stable.now (upper_of p.dirty) p.from p.end within))
