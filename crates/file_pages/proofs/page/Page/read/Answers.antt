use Rattle.std.proofs.Common.{◌≡◌, true, length}
use Rattle.file_pages.specs.Pages.{touches}
use Rattle.file_pages.proofs.PartLemmas.{has_part}
use Rattle.file_pages.proofs.page.Page.read.Goals as goal

pub returns : goal.returns
returns c =
    let n = c.self.inside.number in
    let touched : touches c.args.at (length c.args.piece.now) n ≡ true = rw (← c.self.view_is) at c.requires.touched in
    rw (← c.self.view_is) (has_part n c.args.at c.self.inside.bytes.items c.args.piece.now c.max-from.result c.min-to.result c.self.invariant touched c.max-from.ensures c.min-to.ensures c.copy_from_slice.new.self (rw c.deref.ensures.value at c.copy_from_slice.ensures.after))
