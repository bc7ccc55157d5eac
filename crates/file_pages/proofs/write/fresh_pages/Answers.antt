use Rattle.std.proofs.Common.{◌≡◌, ℕ, ◌∷◌, [], ◌++◌, true, false, List, Option, length, sym, ap, ◌∙◌}
use Rattle.std.specs.Prelude.{slice_get}
use Rattle.file_pages.specs.Pages.{kept_page, page_written, touches}
use Rattle.file_pages.specs.Places.{is_numbered}
use Rattle.file_pages.proofs.PlaceLemmas.{Numbered}
use Rattle.file_pages.proofs.PutLemmas.{place_kept, place_absent}
use Rattle.file_pages.proofs.WriteLemmas.{touched_between, next_kept, next_made}
use Rattle.file_pages.proofs.write.fresh_pages.Goals as goal

pub loop-number-preserved-then-is_at : goal.loop-number-preserved-then-is_at
loop-number-preserved-then-is_at c =
    let i = c.loop-number.invariant in
    let there : is_numbered c.loop-number.number (slice_get c.args.pages.now c.loop-number.place) ≡ true = sym c.is_at.ensures ∙ c.if-is_at.true in
    record {
      place = place_kept c.loop-number.number c.args.pages.now c.loop-number.place i.place there;
      fresh = next_kept c.args.base.now c.args.pages.now c.args.at c.args.bytes.now c.loop-number.number c.loop-number.place c.loop-number.fresh.items i.place i.fresh there;
    }

pub loop-number-preserved : goal.loop-number-preserved
loop-number-preserved c =
    let i = c.loop-number.invariant in
    let number = c.loop-number.number in
    let at = c.args.at in
    let bytes = c.args.bytes.now in
    let base = c.args.base.now in
    let old = c.args.pages.now in
    let fresh = c.loop-number.fresh.items in
    let page = c.in_ok-made.field-0 in
    let absent : is_numbered number (slice_get old c.loop-number.place) ≡ false = sym c.is_at.ensures ∙ c.if-is_at.false in
    let made : page ≡ (number, page_written (kept_page number base) number at bytes) =
    c.in_ok-made.ensures ∙ ap (λ (under : Option (List ℕ)). let p : Numbered = (number, page_written under number at bytes) in p) c.page_bytes.ensures.exact in
    let pushed : c.push.new.self.items ≡ fresh ++ page ∷ [] = c.in_ok-push.ensures.items in
    let touched : touches at (length bytes) number ≡ true = touched_between at (length bytes) number c.requires.some c.loop-number.auto.number (rw c.end_of-number-end.ensures at c.loop-number-test.true) in
    record {
      place = place_absent number old c.loop-number.place i.place absent;
      fresh = rw pushed (next_made base old at bytes number c.loop-number.place fresh i.place i.fresh absent touched page made);
    }
