-- Bytes that are read from pages.
use Rattle.std.proofs.Common.{◌≡◌, ℕ, ◌+◌, ◌*◌, ◌<◌, ◌≤◌, true, false, List, length, get_or, take, drop, Option, Some, None, refl, sym, ap, subst, ◌∙◌, arith}
use Rattle.std.specs.Prelude.{slice_get}
use Rattle.std.proofs.lemmas.Bool.{eqb-true}
use Rattle.std.proofs.lemmas.Option.{slice_get_read}
use Rattle.std.proofs.lemmas.List.{length-take, length-drop, get_or-take, get_or-drop}
use Rattle.file_pages.specs.Pages.{kept_page, byte_at, first_bytes}
use Rattle.file_pages.specs.Parts.{HasPart}
use Rattle.file_pages.specs.Places.{IsPagePlace, is_numbered}
use Rattle.file_pages.specs.Steps.{end_touched}
use Rattle.file_pages.proofs.PageBytes.{length_first_bytes, get_first_bytes, is_first_bytes}
use Rattle.file_pages.proofs.PlaceLemmas.{Numbered, found_page}
use Rattle.file_pages.proofs.PutLemmas.{numbered_within, kept_nowhere}

module _ (number : ℕ) (pages : List Numbered) (place at : ℕ) (old new : List ℕ) (is : IsPagePlace number pages place) where
  -- from a page that is kept
  pub part_kept : (page : Numbered) → page ≡ get_or pages place page → is_numbered number (slice_get pages place) ≡ true → HasPart (Some page.1) page.0 at old new → HasPart (kept_page number pages) number at old new
  part_kept page there numbered part =
      let inside = numbered_within number pages place is numbered in
      let same : page.0 ≡ number = eqb-true page.0 number (ap (is_numbered number) (sym (slice_get_read pages (length pages) place page refl inside there)) ∙ numbered) in
      subst (λ (some : Option (List ℕ)). HasPart some number at old new) (sym (found_page number pages place is page inside there same))
      (subst (λ n. HasPart (Some page.1) n at old new) same part)

  -- and from a hole
  pub part_hole : is_numbered number (slice_get pages place) ≡ false → HasPart None number at old new → HasPart (kept_page number pages) number at old new
  part_hole absent part = subst (λ (some : Option (List ℕ)). HasPart some number at old new) (sym (kept_nowhere number pages place is absent)) part

-- all pages that have a place of the piece were read
pub all_read : (pages : List Numbered) (at number : ℕ) (piece : List ℕ) → end_touched at (length piece) ≤ number → ((i : ℕ) → i < length piece → at + i < number * 4096 → get_or piece i 0 ≡ byte_at pages (at + i)) → piece ≡ first_bytes (λ i. byte_at pages (at + i)) (length piece)
all_read pages at number piece behind bytes = is_first_bytes (λ i. byte_at pages (at + i)) piece (λ i less. bytes i less (omega (arith, behind, less)))

-- some of the first values of a function
pub part_first : (byte : ℕ → ℕ) (size at count : ℕ) → at + count ≤ size → take count (drop at (first_bytes byte size)) ≡ first_bytes (λ i. byte (at + i)) count
part_first byte size at count within =
    let long : length (take count (drop at (first_bytes byte size))) ≡ count = length-take count (drop at (first_bytes byte size)) ∙ omega (arith, within, length-drop at (first_bytes byte size), length_first_bytes byte size) in
    is_first_bytes (λ i. byte (at + i)) (take count (drop at (first_bytes byte size))) (λ i less.
    let early : i < count = omega (arith, less, long) in
    get_or-take count (drop at (first_bytes byte size)) i 0 early
    ∙ get_or-drop at (first_bytes byte size) i 0
    ∙ get_first_bytes byte size (at + i) 0 (omega (arith, early, within)))
    ∙ ap (first_bytes (λ i. byte (at + i))) long
