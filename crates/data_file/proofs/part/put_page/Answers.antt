use Rattle.std.proofs.Common.{◌≡◌, ◌+◌, ◌-◌, List, ℕ, length, take, drop, ap, subst, ◌∙◌, arith}
use Rattle.ff_xdr.specs.Calls.{Puts}
use Rattle.data_file.proofs.Parts.{page_piece, zeros_piece}
use Rattle.data_file.proofs.part.put_page.Goals as goal

pub returns-in-Some : goal.returns-in-Some
returns-in-Some c =
    let from : ℕ = c.args.from in
    let count : ℕ = c.args.count in
    let page : List ℕ = c.in-Some.bytes.now in
    let whole : length page ≡ 4096 = rw c.in-Some.is at c.requires.whole in
    let within = c.requires.within in
    let size : from + count - from ≡ count = omega arith in
    rw (c.in-Some.is) (subst (λ (xs : List ℕ). Puts c.args.out.now c.raw.result c.raw.new.self xs) (ap (λ (n : ℕ). take n (drop from page)) size ∙ page_piece page from count (omega (arith, whole, within))) c.raw.ensures)

pub returns-in-None : goal.returns-in-None
returns-in-None c =
    rw (c.in-None.is) (subst (λ (xs : List ℕ). Puts c.args.out.now c.raw-in-None.result c.raw-in-None.new.self xs) (c.zeros.ensures ∙ zeros_piece c.args.from c.args.count) c.raw-in-None.ensures)
