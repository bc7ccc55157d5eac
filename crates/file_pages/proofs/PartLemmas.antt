-- Bytes that are put over a part of a page, or of a piece.
use Rattle.std.proofs.Common.{◌≡◌, ℕ, ◌+◌, ◌-◌, ◌*◌, ◌<◌, ◌≤◌, min, max, true, nat_lt, List, length, get_or, take, drop, Option, Some, sym, ap, ◌∙◌, arith, ◌⊎◌, ⊎_elim, inl, inr}
use Rattle.std.proofs.lemmas.Bool.{cases_lt, and_parts, ltb-true}
use Rattle.std.proofs.lemmas.Bool.Decides.{nat_tests}
use Rattle.std.proofs.lemmas.List.{places, length-take, length-drop, get_or-take, get_or-drop}
use borrow.Rule.Slice.PartMut.{put_mid}
use Rattle.file_pages.specs.Pages.{touches, first_bytes, byte_in, byte_written, page_written}
use Rattle.file_pages.specs.Parts.{HasPart}
use Rattle.file_pages.proofs.PageBytes.{is_first_bytes}

-- ---- a part that was written over, by places

module _ (a k : ℕ) (xs ys : List ℕ) (within : a + k ≤ length xs) (long : length ys ≡ k) where
  pub length-mid : length (put_mid a k xs ys) ≡ length xs
  length-mid = grind (arith, places)

  pub mid_before : (i : ℕ) → i < a → get_or (put_mid a k xs ys) i 0 ≡ get_or xs i 0
  mid_before i before = grind (arith, places)

  pub mid_inside : (i : ℕ) → a ≤ i → i < a + k → get_or (put_mid a k xs ys) i 0 ≡ get_or ys (i - a) 0
  mid_inside i from below = grind (arith, places)

  pub mid_behind : (i : ℕ) → a + k ≤ i → get_or (put_mid a k xs ys) i 0 ≡ get_or xs i 0
  mid_behind i behind = grind (arith, places)

-- a touched page and the range have a place in common
pub touched_apart : (at count number : ℕ) → touches at count number ≡ true → (at < number * 4096 + 4096) × (number * 4096 < at + count)
touched_apart at count number touched =
    let both = and_parts (nat_lt at (number * 4096 + 4096)) (nat_lt (number * 4096) (at + count)) touched in
    (ltb-true at (number * 4096 + 4096) both.0, ltb-true (number * 4096) (at + count) both.1)

-- a byte of a page behind a write
pub written_at : (page : Option (List ℕ)) (number at : ℕ) (bytes : List ℕ) (i : ℕ) → at ≤ number * 4096 + i → number * 4096 + i < at + length bytes → byte_written page number at bytes i ≡ get_or bytes (number * 4096 + i - at) 0
written_at page number at bytes i low high = grind (arith, nat_tests)

pub written_not : (page : Option (List ℕ)) (number at : ℕ) (bytes : List ℕ) (i : ℕ) → (number * 4096 + i < at) ⊎ (at + length bytes ≤ number * 4096 + i) → byte_written page number at bytes i ≡ byte_in page i
written_not page number at bytes i (inl before) = grind (arith, nat_tests)
written_not page number at bytes i (inr behind) = grind (arith, nat_tests)

-- the part of a write that a page has, put over its bytes
module _ (number at : ℕ) (xs bytes : List ℕ) (from to : ℕ) (whole : length xs ≡ 4096) (touched : touches at (length bytes) number ≡ true) (from_is : from ≡ max at (number * 4096)) (to_is : to ≡ min (at + length bytes) (number * 4096 + 4096)) (part : List ℕ) (part_is : part ≡ take (to - at - (from - at)) (drop (from - at) bytes)) where
  abbrev put : List ℕ
  put = put_mid (from - number * 4096) (to - number * 4096 - (from - number * 4096)) xs part

  part_long : length part ≡ to - number * 4096 - (from - number * 4096)
  part_long =
      let apart = touched_apart at (length bytes) number touched in
      ap length part_is ∙ length-take (to - at - (from - at)) (drop (from - at) bytes) ∙ omega (arith, apart.0, apart.1, length-drop (from - at) bytes)

  part_within : from - number * 4096 + (to - number * 4096 - (from - number * 4096)) ≤ length xs
  part_within = let apart = touched_apart at (length bytes) number touched in omega (arith, apart.0, apart.1)

  part_byte : (i : ℕ) → from - number * 4096 ≤ i → i < from - number * 4096 + (to - number * 4096 - (from - number * 4096)) → get_or part (i - (from - number * 4096)) 0 ≡ get_or bytes (number * 4096 + i - at) 0
  part_byte i low high =
      let apart = touched_apart at (length bytes) number touched in
      let there : from - at + (i - (from - number * 4096)) ≡ number * 4096 + i - at = omega (arith, apart.0, apart.1) in
      ap (λ (ys : List ℕ). get_or ys (i - (from - number * 4096)) 0) part_is
      ∙ get_or-take (to - at - (from - at)) (drop (from - at) bytes) (i - (from - number * 4096)) 0 (omega (arith, apart.0, apart.1))
      ∙ get_or-drop (from - at) bytes (i - (from - number * 4096)) 0
      ∙ ap (λ n. get_or bytes n 0) there

  pub put_long : length put ≡ 4096
  put_long = length-mid (from - number * 4096) (to - number * 4096 - (from - number * 4096)) xs part part_within part_long ∙ whole

  put_byte : (i : ℕ) → i < length put → get_or put i 0 ≡ byte_written (Some xs) number at bytes i
  put_byte i less =
      let apart = touched_apart at (length bytes) number touched in
      let a : ℕ = from - number * 4096 in
      let k : ℕ = to - number * 4096 - (from - number * 4096) in
      let size = put_long in
      ⊎_elim
      (λ before. mid_before a k xs part part_within part_long i before ∙ sym (written_not (Some xs) number at bytes i (inl (omega (arith, before)))))
      (λ from_there. ⊎_elim
      (λ below. mid_inside a k xs part part_within part_long i from_there below ∙ part_byte i from_there below ∙ sym (written_at (Some xs) number at bytes i (omega (arith, from_there)) (omega (arith, below, from_there, apart.0, apart.1))))
      (λ behind. mid_behind a k xs part part_within part_long i behind ∙ sym (written_not (Some xs) number at bytes i (inr (omega (arith, behind, less, size, apart.0, apart.1)))))
      (cases_lt i (a + k)))
      (cases_lt i a)

  pub page_put : put_mid (from - number * 4096) (to - number * 4096 - (from - number * 4096)) xs part ≡ page_written (Some xs) number at bytes
  page_put = is_first_bytes (byte_written (Some xs) number at bytes) put put_byte ∙ ap (first_bytes (byte_written (Some xs) number at bytes)) put_long

-- a page that the write covers has its bytes alone
pub page_covered : (under : Option (List ℕ)) (number at : ℕ) (bytes : List ℕ) → at ≤ number * 4096 → number * 4096 + 4096 ≤ at + length bytes → take (number * 4096 + 4096 - at - (number * 4096 - at)) (drop (number * 4096 - at) bytes) ≡ page_written under number at bytes
page_covered under number at bytes low high =
    let part : List ℕ = take (number * 4096 + 4096 - at - (number * 4096 - at)) (drop (number * 4096 - at) bytes) in
    let size : length part ≡ 4096 = length-take (number * 4096 + 4096 - at - (number * 4096 - at)) (drop (number * 4096 - at) bytes) ∙ omega (arith, length-drop (number * 4096 - at) bytes) in
    is_first_bytes (byte_written under number at bytes) part (λ i less.
    let there : number * 4096 - at + i ≡ number * 4096 + i - at = omega (arith, low) in
    get_or-take (number * 4096 + 4096 - at - (number * 4096 - at)) (drop (number * 4096 - at) bytes) i 0 (omega (arith, size, less, low))
    ∙ get_or-drop (number * 4096 - at) bytes i 0
    ∙ ap (λ n. get_or bytes n 0) there
    ∙ sym (written_at under number at bytes i (omega (arith, low)) (omega (arith, size, less, high))))
    ∙ ap (first_bytes (byte_written under number at bytes)) size

-- the part of a page that a piece has, put over the piece
module _ (number at : ℕ) (page old : List ℕ) (from to : ℕ) (whole : length page ≡ 4096) (touched : touches at (length old) number ≡ true) (from_is : from ≡ max at (number * 4096)) (to_is : to ≡ min (at + length old) (number * 4096 + 4096)) (part : List ℕ) (part_is : part ≡ take (to - number * 4096 - (from - number * 4096)) (drop (from - number * 4096) page)) where
  abbrev put_there : List ℕ
  put_there = put_mid (from - at) (to - at - (from - at)) old part

  there_long : length part ≡ to - at - (from - at)
  there_long =
      let apart = touched_apart at (length old) number touched in
      ap length part_is ∙ length-take (to - number * 4096 - (from - number * 4096)) (drop (from - number * 4096) page) ∙ omega (arith, apart.0, apart.1, length-drop (from - number * 4096) page)

  there_within : from - at + (to - at - (from - at)) ≤ length old
  there_within = let apart = touched_apart at (length old) number touched in omega (arith, apart.0, apart.1)

  byte_there : (i : ℕ) → i < length old → number * 4096 ≤ at + i → at + i < number * 4096 + 4096 → get_or put_there i 0 ≡ get_or page (at + i - number * 4096) 0
  byte_there i less low high =
      let apart = touched_apart at (length old) number touched in
      let there : from - number * 4096 + (i - (from - at)) ≡ at + i - number * 4096 = omega (arith, apart.0, apart.1) in
      mid_inside (from - at) (to - at - (from - at)) old part there_within there_long i (omega (arith, apart.0, apart.1)) (omega (arith, apart.0, apart.1))
      ∙ ap (λ (ys : List ℕ). get_or ys (i - (from - at)) 0) part_is
      ∙ get_or-take (to - number * 4096 - (from - number * 4096)) (drop (from - number * 4096) page) (i - (from - at)) 0 (omega (arith, apart.0, apart.1))
      ∙ get_or-drop (from - number * 4096) page (i - (from - at)) 0
      ∙ ap (λ n. get_or page n 0) there

  byte_stays : (i : ℕ) → (at + i < number * 4096) ⊎ (number * 4096 + 4096 ≤ at + i) → get_or put_there i 0 ≡ get_or old i 0
  byte_stays i (inl before) = mid_before (from - at) (to - at - (from - at)) old part there_within there_long i (omega (arith, before))
  byte_stays i (inr behind) =
      let apart = touched_apart at (length old) number touched in
      mid_behind (from - at) (to - at - (from - at)) old part there_within there_long i (omega (arith, behind, apart.0, apart.1))

  pub has_part : HasPart (Some page) number at old (put_mid (from - at) (to - at - (from - at)) old part)
  has_part = record {
    long = length-mid (from - at) (to - at - (from - at)) old part there_within there_long;
    inside = byte_there;
    outside = byte_stays;
  }
