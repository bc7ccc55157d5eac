use Rattle.std.proofs.Common.{◌≡◌, ℕ, ◌+◌, ◌≤◌, ◌++◌, List, length, take, drop, sym, ap, ◌∙◌, arith}
use Rattle.std.proofs.lemmas.List.{length-take}
use Rattle.file_pages.specs.Pages.{PagesValue, bytes_of, byte_at, first_bytes}
use Rattle.file_pages.proofs.ReadLemmas.{part_first}
use Rattle.file_pages.proofs.pages.Pages.read.Goals as goal

pub returns-clause-bytes : goal.returns-clause-bytes
returns-clause-bytes c =
    let at = c.args.at in
    let count = c.min-count.result in
    let piece = c.args.piece.now in
    let pages = c.self.inside.pages.items in
    let size = c.self.inside.size in
    let left = c.saturating_sub.ensures in
    let fewer = c.min-count.ensures in
    let some = c.if-count-eq0.false in
    let within : at + count ≤ size = omega (arith, left, fewer, some) in
    let long : length (take count piece) ≡ count = length-take count piece ∙ omega (arith, fewer) in
    let told : c.read_pages.new.piece ≡ first_bytes (λ i. byte_at pages (at + i)) (length (take count piece)) = rw c.deref.ensures.value at c.read_pages.ensures in
    let same : c.read_pages.new.piece ≡ take count (drop at (first_bytes (byte_at pages) size)) = told ∙ ap (first_bytes (λ i. byte_at pages (at + i))) long ∙ sym (part_first (byte_at pages) size at count within) in
    let seen : first_bytes (byte_at pages) size ≡ bytes_of c.args.self.now = ap (λ (p : PagesValue). bytes_of p) c.self.view_is in
    ap (λ (front : List ℕ). front ++ drop count piece) (same ∙ ap (λ (all : List ℕ). take count (drop at all)) seen)
