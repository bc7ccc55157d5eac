use Rattle.std.proofs.Common.{◌∙◌, arith}
use Rattle.file_pages.specs.Pages.{bytes_over}
use Rattle.data_file.proofs.Parts.{part_is, shown_size}
use Rattle.data_file.proofs.content.FileContent.part.Goals as goal

pub returns : goal.returns
returns c =
    let f = c.self.inside in
    let size = shown_size f.stable f.dirty in
    let long = c.max-size.ensures in
    let one = c.length.ensures.exact in
    let other = c.length-2.ensures.exact in
    let count = c.from.ensures in
    let from = c.min-from.ensures in
    let end = c.min-end.ensures in
    rw (← c.self.view_is, ← c.self.invariant.shown) (c.new.ensures ∙ part_is (bytes_over f.stable f.dirty) c.args.at c.args.count c.min-from.result c.min-end.result (omega (arith, size, long, one, other, from)) (omega (arith, size, long, one, other, count, end)))
