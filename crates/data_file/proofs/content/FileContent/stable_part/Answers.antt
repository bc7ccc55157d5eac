use Rattle.std.proofs.Common.{List, ℕ, take, drop, refl, ap, ◌∙◌, arith}
use Rattle.file_pages.specs.Pages.{bytes_over}
use Rattle.file_pages.proofs.PageBytes.{bytes_alone}
use Rattle.data_file.specs.Paged.{no_pages}
use Rattle.data_file.proofs.Parts.{part_is, shown_size}
use Rattle.data_file.proofs.content.FileContent.stable_part.Goals as goal

pub returns : goal.returns
returns c =
    let f = c.self.inside in
    let size = shown_size f.stable no_pages in
    let one = c.length-size.ensures.exact in
    let count = c.from.ensures in
    let from = c.min-from.ensures in
    let end = c.min-end.ensures in
    rw (← c.self.view_is) (c.new.ensures ∙ part_is (bytes_over f.stable no_pages) c.args.at c.args.count c.min-from.result c.min-end.result (omega (arith, size, one, from)) (omega (arith, size, one, count, end))
    ∙ ap (λ (xs : List ℕ). take c.args.count (drop c.args.at xs)) (bytes_alone f.stable no_pages (refl, refl)))
