use Rattle.std.proofs.Common.{◌≡◌, ℕ, ◌+◌, ◌≤◌, List, length, ap, ◌∙◌, arith}
use Rattle.file_pages.specs.Pages.{kept_page, page_over}
use Rattle.file_pages.specs.Places.{IsPagePlace}
use Rattle.file_pages.specs.Steps.{first_touched, end_touched, written_in, AreFresh}
use Rattle.file_pages.proofs.PlaceLemmas.{Numbered}
use Rattle.file_pages.proofs.WriteLemmas.{written_kept, fresh_kept_all, fresh_behind, length_written, pages_written}
use Rattle.file_pages.proofs.write.write_pages.Goals as goal

pub merge-requires-clause-kept : goal.merge-requires-clause-kept
merge-requires-clause-kept c =
    rw (c.write_kept.ensures.items, c.in_ok-reserve.ensures.items) (written_kept c.args.at c.args.bytes.now c.args.pages.now.items c.requires.kept)

pub merge-requires-clause-dirty : goal.merge-requires-clause-dirty
merge-requires-clause-dirty c = fresh_kept_all _ _ _ _ _ _ c.in_ok-fresh.ensures

pub merge-requires-clause-within : goal.merge-requires-clause-within
merge-requires-clause-within c =
    let is : IsPagePlace (first_touched c.args.at) c.args.pages.now.items c.seek-place.result = rw c.deref.ensures.value at c.seek-place.ensures in
    let within = is.within in
    let same : length c.write_kept.new.pages.items ≡ length c.args.pages.now.items = ap (λ (ps : List Numbered). length ps) c.write_kept.ensures.items ∙ length_written c.args.at c.args.bytes.now c.reserve.new.self.items ∙ ap (λ (ps : List Numbered). length ps) c.in_ok-reserve.ensures.items in
    let long = c.write_kept.new.pages.ok.0 in
    omega (arith, within, same, long)

pub merge-requires-clause-below : goal.merge-requires-clause-below
merge-requires-clause-below c =
    let is : IsPagePlace (first_touched c.args.at) c.args.pages.now.items c.seek-place.result = rw c.deref.ensures.value at c.seek-place.ensures in
    rw (c.write_kept.ensures.items, c.in_ok-reserve.ensures.items) (fresh_behind c.args.at c.args.bytes.now c.args.pages.now.items c.in_ok-fresh.fresh.items c.seek-place.result is c.in_ok-fresh.ensures.rise)

pub merge-requires-clause-room : goal.merge-requires-clause-room
merge-requires-clause-room c =
    let same : length c.write_kept.new.pages.items ≡ length c.reserve.new.self.items = ap (λ (ps : List Numbered). length ps) c.write_kept.ensures.items ∙ length_written c.args.at c.args.bytes.now c.reserve.new.self.items in
    let long = c.write_kept.new.pages.ok.0 in
    let before = c.reserve.new.self.ok.0 in
    let room = c.in_ok-reserve.ensures.ok in
    let stays = c.write_kept.ensures.capacity in
    omega (arith, same, long, before, room, stays)

pub returns-clause-ok : goal.returns-clause-ok
returns-clause-ok c =
    let old = c.args.pages.now.items in
    let at = c.args.at in
    let bytes = c.args.bytes.now in
    let fresh = c.in_ok-fresh.fresh.items in
    let are : AreFresh c.args.base.now old at bytes (end_touched at (length bytes)) fresh = rw c.deref-2.ensures.value at c.in_ok-fresh.ensures in
    let items : c.write_kept.new.pages.items ≡ written_in at bytes old = c.write_kept.ensures.items ∙ ap (written_in at bytes) c.in_ok-reserve.ensures.items in
    let over : (number : ℕ) → kept_page number c.merge.new.pages.items ≡ page_over (written_in at bytes old) fresh number = λ number. c.merge.ensures.over number ∙ ap (λ (ps : List Numbered). page_over ps fresh number) items in
    let size : length c.merge.new.pages.items ≤ length (written_in at bytes old) + length fresh =
    let most = c.merge.ensures.len in
    let one = c.merge.new.pages.ok.0 in
    let two = c.write_kept.new.pages.ok.0 in
    let three = c.in_ok-fresh.fresh.ok.0 in
    let same = ap (λ (ps : List Numbered). length ps) items in
    omega (arith, most, one, two, three, same) in
    pages_written c.args.base.now old fresh c.merge.new.pages.items at bytes are over size c.merge.ensures.kept
