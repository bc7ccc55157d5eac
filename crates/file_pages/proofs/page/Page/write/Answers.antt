use Rattle.std.proofs.Common.{◌≡◌, ◌-◌, ◌*◌, true, length, refl, sym, ◌∙◌}
use Rattle.std.proofs.lemmas.List.{with_items_is}
use borrow.Rule.Slice.PartMut.{put_mid}
use Rattle.file_pages.specs.Pages.{touches}
use Rattle.file_pages.proofs.PartLemmas.{page_put, put_long}
use Rattle.file_pages.proofs.page.Page.write.Goals as goal

pub returns : goal.returns
returns c =
    let v = c.self.inside.bytes in
    let n = c.self.inside.number in
    let at = c.args.at in
    let bytes = c.args.bytes.now in
    let from = c.max-from.result in
    let to = c.min-to.result in
    let part = c.copy_from_slice.new.self in
    let touched : touches at (length bytes) n ≡ true = rw (← c.self.view_is) at c.requires.touched in
    let whole = c.self.invariant in
    let size : length (put_mid (from - n * 4096) (to - n * 4096 - (from - n * 4096)) v.items part) ≡ v.len =
    put_long n at v.items bytes from to whole touched c.max-from.ensures c.min-to.ensures part c.copy_from_slice.ensures.after ∙ sym whole ∙ sym v.ok.0 in
    rw (← c.self.view_is, c.deref_mut.ensures.value, with_items_is v _ size, page_put n at v.items bytes from to whole touched c.max-from.ensures c.min-to.ensures part c.copy_from_slice.ensures.after) refl
