use Rattle.std.proofs.Common.{ℕ, ◌<◌, ◌≤◌, ◌+◌, ◌-◌, ◌/◌, ◌%◌, ◌++◌, List, max, ap, ◌∙◌, arith}
use Rattle.std.proofs.lemmas.List.{append_assoc}
use Rattle.data_file.proofs.Parts.{part_on}
use Rattle.file_pages.specs.Pages.{page_over, byte_in, first_bytes}
use Rattle.data_file.specs.Paged.{part_of, upper_of}
use Rattle.data_file.proofs.part.put_pages.Goals as goal

pub loop-at-preserved : goal.loop-at-preserved
loop-at-preserved c =
    let s = c.args.stable.now in
    let d = upper_of c.args.dirty in
    let at : ℕ = c.loop-at.at in
    let next : ℕ = c.min-next.result in
    let is = c.min-next.ensures in
    let on = c.loop-at-test.true in
    let low = c.loop-at.invariant.low in
    let high = c.loop-at.invariant.high in
    let within = c.requires.within in
    let more : at < next = omega (arith, is, on) in
    let page : next ≤ at - at % 4096 + 4096 = omega (arith, is) in
    let inside : next ≤ max s.size d.size = omega (arith, is, within) in
    record {
      low = omega (arith, low, more);
      high = omega (arith, is);
      so_far =
          rw (c.page_over.ensures.exact) at c.in_ok-put_page.ensures
          ∙ ap (λ (xs : List ℕ). xs ++ first_bytes (λ i. byte_in (page_over s.kept d.kept (at / 4096)) (at % 4096 + i)) (next - at)) c.loop-at.invariant.so_far
          ∙ (append_assoc c.args.out.now (part_of s d c.args.from at) (first_bytes (λ i. byte_in (page_over s.kept d.kept (at / 4096)) (at % 4096 + i)) (next - at)))
          ∙ ap (λ (xs : List ℕ). c.args.out.now ++ xs) (part_on s d c.args.from at next low more inside page);
    }
