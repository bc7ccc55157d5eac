use Rattle.std.proofs.Common.{◌≡◌, ◌∷◌, List, reverse, sym, ap, ◌∙◌, subst, arith}
use Rattle.file_pages.specs.Pages.{page_over}
use Rattle.file_pages.specs.Places.{AreSoundPages}
use Rattle.file_pages.proofs.PlaceLemmas.{Numbered}
use Rattle.file_pages.proofs.PutLemmas.{merged, left_rest, next_below, reverse_last}
use Rattle.file_pages.proofs.adopt.merge.Goals as goal

pub loop-page-preserved : goal.loop-page-preserved
loop-page-preserved c =
    let old = c.loop-page.pages.items in
    let new = c.put-next.new.pages.items in
    let page = c.in-Some.page in
    let rest = reverse c.pop.new.self.items in
    let there : reverse c.loop-page.dirty.items ≡ page ∷ rest = ap (λ (ps : List Numbered). reverse ps) c.in-Some.ensures.items ∙ reverse_last c.pop.new.self.items page in
    let left : AreSoundPages (page ∷ rest) = subst (λ (ps : List Numbered). AreSoundPages ps) there c.loop-page.invariant.left in
    let put = c.put-next.ensures.put in
    let fewer = c.in-Some.ensures.len in
    let more = put.len in
    record {
      kept = put.kept;
      left = left_rest page rest old new c.put-next.result put left;
      within = let within = put.within in omega arith;
      below = next_below page rest old new c.put-next.result put left;
      room = omega arith;
      over = λ number. merged page rest old new c.put-next.result put left number ∙ ap (λ (ps : List Numbered). page_over old ps number) (sym there) ∙ c.loop-page.invariant.over number;
      len = omega arith;
    }
