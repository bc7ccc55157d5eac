use Rattle.std.proofs.Common.{◌≡◌, true, false, sym, ◌∙◌}
use Rattle.std.specs.Prelude.{slice_get}
use Rattle.file_pages.specs.Places.{IsPagePlace, is_numbered}
use Rattle.file_pages.proofs.PutLemmas.{put_replaces, put_inserts}
use Rattle.file_pages.proofs.adopt.put.Goals as goal

pub returns-then-is_at-clause-put : goal.returns-then-is_at-clause-put
returns-then-is_at-clause-put c =
    let place = c.seek_from-place.result in
    let is : IsPagePlace c.args.page.0 c.args.pages.now.items place = rw (c.deref.ensures.value, c.number.ensures) at c.seek_from-place.ensures in
    let there : is_numbered c.args.page.0 (slice_get c.args.pages.now.items place) ≡ true = rw (c.deref-2.ensures.value, c.number-2.ensures) at (sym c.is_at.ensures ∙ c.if-is_at.true) in
    put_replaces c.args.page c.args.pages.now.items place is c.requires.kept c.requires.whole there

pub returns-clause-put : goal.returns-clause-put
returns-clause-put c =
    let place = c.seek_from-place.result in
    let is : IsPagePlace c.args.page.0 c.args.pages.now.items place = rw (c.deref.ensures.value, c.number.ensures) at c.seek_from-place.ensures in
    let absent : is_numbered c.args.page.0 (slice_get c.args.pages.now.items place) ≡ false = rw (c.deref-2.ensures.value, c.number-2.ensures) at (sym c.is_at.ensures ∙ c.if-is_at.false) in
    rw (c.insert_reserved.ensures.items) (put_inserts c.args.page c.args.pages.now.items place is c.requires.kept c.requires.whole absent)
