-- Which bytes stand in pages behind a write and behind an adoption.
use Rattle.std.proofs.Common.{◌≡◌, ℕ, zero, suc, ◌+◌, ◌-◌, ◌*◌, ◌/◌, ◌%◌, ◌<◌, ◌≤◌, max, true, false, nat_lt, List, [], ◌∷◌, ◌++◌, length, get_or, Option, Some, None, refl, sym, ap, ◌∙◌, arith, ◌⊎◌, ⊎_elim, inl, inr}
use Rattle.std.proofs.lemmas.Bool.{cases_lt, cases_Bool, and_from, lt-ltb}
use Rattle.std.proofs.lemmas.Bool.Decides.{nat_tests}
use Rattle.std.proofs.lemmas.List.{ext_get_or, length_push, get_or_push, get_or_append_left, get_or_past}
use Rattle.cluster_model.specs.Content.{overlay}
use Rattle.cluster_model.proofs.Placing.{length-overlay, get_or-overlay_outside, get_or-overlay_inside}
use Rattle.file_pages.specs.Pages.{PagesValue, kept_page, or_else, byte_in, byte_at, byte_over, page_over, first_bytes, bytes_of, bytes_over, touches, byte_written, AreZerosBehind, IsEmpty, IsWrittenOver, HasAdopted}

-- ---- the first values of a function

pub no_bytes : (byte : ℕ → ℕ) → first_bytes byte 0 ≡ []
unfolding first_bytes
no_bytes byte = refl

pub one_more : (byte : ℕ → ℕ) (n : ℕ) → first_bytes byte (suc n) ≡ first_bytes byte n ++ byte n ∷ []
unfolding first_bytes
one_more byte n = refl

pub length_first_bytes : (byte : ℕ → ℕ) (n : ℕ) → length (first_bytes byte n) ≡ n
length_first_bytes byte zero = ap length (no_bytes byte)
length_first_bytes byte (suc n) =
    let before = length_first_bytes byte n in
    let more = ap length (one_more byte n) in
    omega (arith, before, more, length_push (first_bytes byte n) (byte n))

pub get_first_bytes : (byte : ℕ → ℕ) (n i default : ℕ) → i < n → get_or (first_bytes byte n) i default ≡ byte i
get_first_bytes byte zero i default less = absurd (omega (arith, less))
get_first_bytes byte (suc n) i default less =
    let long = length_first_bytes byte n in
    ap (λ (xs : List ℕ). get_or xs i default) (one_more byte n)
    ∙ ⊎_elim
    (λ below. get_or_append_left (first_bytes byte n) (byte n ∷ []) default i (omega (arith, long, below)) ∙ get_first_bytes byte n i default below)
    (λ last.
    let here : i ≡ n = omega (arith, less, last) in
    get_or_push (first_bytes byte n) (byte n) default i (omega (arith, long, here)) ∙ ap byte (sym here))
    (cases_lt i n)

-- two lists of the same length with the same bytes are the same
pub same_first_bytes : (one other : ℕ → ℕ) (n : ℕ) → ((i : ℕ) → i < n → one i ≡ other i) → first_bytes one n ≡ first_bytes other n
same_first_bytes one other n same =
    let long = length_first_bytes one n in
    ext_get_or 0 (first_bytes one n) (first_bytes other n) (long ∙ sym (length_first_bytes other n)) (λ i less.
    let below : i < n = omega (arith, less, long) in
    get_first_bytes one n i 0 below ∙ same i below ∙ sym (get_first_bytes other n i 0 below))

-- a list is the first bytes of what tells each of its bytes
pub is_first_bytes : (byte : ℕ → ℕ) (list : List ℕ) → ((i : ℕ) → i < length list → get_or list i 0 ≡ byte i) → list ≡ first_bytes byte (length list)
is_first_bytes byte list told =
    ext_get_or 0 list (first_bytes byte (length list)) (sym (length_first_bytes byte (length list))) (λ i less. told i less ∙ sym (get_first_bytes byte (length list) i 0 less))

-- behind the last there is none
pub past_first_bytes : (byte : ℕ → ℕ) (n i : ℕ) → n ≤ i → get_or (first_bytes byte n) i 0 ≡ 0
past_first_bytes byte n i behind = get_or_past (first_bytes byte n) i 0 (omega (arith, length_first_bytes byte n, behind))

-- ---- behind a write

-- a place of the file is one of its page
place_is : (place : ℕ) → place / 4096 * 4096 + place % 4096 ≡ place
place_is place = omega arith

within_page : (place : ℕ) → place % 4096 < 4096
within_page place = omega arith

-- a page is touched where one of its places is
touched_by : (at count place : ℕ) → at ≤ place → place < at + count → touches at count (place / 4096) ≡ true
touched_by at count place low high =
    let whole = place_is place in
    let small = within_page place in
    and_from (nat_lt at (place / 4096 * 4096 + 4096)) (nat_lt (place / 4096 * 4096) (at + count)) (lt-ltb at (place / 4096 * 4096 + 4096) (omega arith)) (lt-ltb (place / 4096 * 4096) (at + count) (omega arith))

-- the byte at a place that was written
written_inside : (page : Option (List ℕ)) (at : ℕ) (bytes : List ℕ) (place : ℕ) → at ≤ place → place < at + length bytes → byte_written page (place / 4096) at bytes (place % 4096) ≡ get_or bytes (place - at) 0
written_inside page at bytes place low high = grind (arith, nat_tests, place_is place)

-- and at one that was not
written_outside : (page : Option (List ℕ)) (at : ℕ) (bytes : List ℕ) (place : ℕ) → (place < at) ⊎ (at + length bytes ≤ place) → byte_written page (place / 4096) at bytes (place % 4096) ≡ byte_in page (place % 4096)
written_outside page at bytes place (inl before) = grind (arith, nat_tests, place_is place)
written_outside page at bytes place (inr behind) = grind (arith, nat_tests, place_is place)

-- a place is one that was written, or not
which : (at count place : ℕ) → ((at ≤ place) × (place < at + count)) ⊎ ((place < at) ⊎ (at + count ≤ place))
which at count place =
    ⊎_elim (λ before. inr (inl before)) (λ from. ⊎_elim (λ below. inl (from, below)) (λ behind. inr (inr behind)) (cases_lt place (at + count))) (cases_lt place at)

module _ (base old new : PagesValue) (at : ℕ) (bytes : List ℕ) (is : IsWrittenOver base old at bytes new) where
  -- the page of a place, where it is touched
  page_touched : (place : ℕ) → touches at (length bytes) (place / 4096) ≡ true → byte_over base.kept new.kept place ≡ byte_written (page_over base.kept old.kept (place / 4096)) (place / 4096) at bytes (place % 4096)
  page_touched place touched =
      let under : Option (List ℕ) = page_over base.kept old.kept (place / 4096) in
      ap (λ (page : Option (List ℕ)). byte_in (or_else page (kept_page (place / 4096) base.kept)) (place % 4096)) (is.touched (place / 4096) touched)
      ∙ get_first_bytes (byte_written under (place / 4096) at bytes) 4096 (place % 4096) 0 (within_page place)

  -- and where it is not
  page_stays : (place : ℕ) → touches at (length bytes) (place / 4096) ≡ false → byte_over base.kept new.kept place ≡ byte_over base.kept old.kept place
  page_stays place other =
      ap (λ (page : Option (List ℕ)). byte_in (or_else page (kept_page (place / 4096) base.kept)) (place % 4096)) (is.others (place / 4096) other)

  byte_inside : (place : ℕ) → at ≤ place → place < at + length bytes → byte_over base.kept new.kept place ≡ get_or bytes (place - at) 0
  byte_inside place low high =
      page_touched place (touched_by at (length bytes) place low high)
      ∙ written_inside (page_over base.kept old.kept (place / 4096)) at bytes place low high

  byte_outside : (place : ℕ) → (place < at) ⊎ (at + length bytes ≤ place) → byte_over base.kept new.kept place ≡ byte_over base.kept old.kept place
  byte_outside place out =
      ⊎_elim
      (λ touched. page_touched place touched ∙ written_outside (page_over base.kept old.kept (place / 4096)) at bytes place out)
      (page_stays place)
      (cases_Bool (touches at (length bytes) (place / 4096)))

  module _ (zeros : AreZerosBehind base old) where
    -- the byte at a place that the bytes before reach, or do not
    byte_before : (place : ℕ) → get_or (bytes_over base old) place 0 ≡ byte_over base.kept old.kept place
    byte_before place =
        ⊎_elim
        (get_first_bytes (byte_over base.kept old.kept) (max base.size old.size) place 0)
        (λ behind. past_first_bytes (byte_over base.kept old.kept) (max base.size old.size) place behind ∙ sym (zeros place behind))
        (cases_lt place (max base.size old.size))

    byte_is : (place : ℕ) → byte_over base.kept new.kept place ≡ get_or (overlay (bytes_over base old) at bytes) place 0
    byte_is place =
        ⊎_elim
        (λ (inside : (at ≤ place) × (place < at + length bytes)).
        let there : at + (place - at) ≡ place = omega (arith, inside.0) in
        byte_inside place inside.0 inside.1
        ∙ sym (get_or-overlay_inside (bytes_over base old) at bytes (place - at) (omega (arith, inside.0, inside.1)))
        ∙ ap (λ n. get_or (overlay (bytes_over base old) at bytes) n 0) there)
        (λ out. byte_outside place out ∙ sym (byte_before place) ∙ sym (get_or-overlay_outside (bytes_over base old) at bytes place out))
        (which at (length bytes) place)

overlaid : (xs : List ℕ) (at : ℕ) (bytes : List ℕ) → 0 < length bytes → length (overlay xs at bytes) ≡ max (length xs) (at + length bytes)
overlaid xs at [] some = absurd (omega (arith, some))
overlaid xs at (b ∷ bytes) some = length-overlay xs at b bytes

pub bytes_written : (base old new : PagesValue) (at : ℕ) (bytes : List ℕ) → 0 < length bytes → AreZerosBehind base old → IsWrittenOver base old at bytes new → bytes_over base new ≡ overlay (bytes_over base old) at bytes
bytes_written base old new at bytes some zeros is =
    let before = length_first_bytes (byte_over base.kept old.kept) (max base.size old.size) in
    let size = is.size in
    let long : length (overlay (bytes_over base old) at bytes) ≡ max base.size new.size = omega (arith, overlaid (bytes_over base old) at bytes some, before, size) in
    sym (is_first_bytes (byte_over base.kept new.kept) (overlay (bytes_over base old) at bytes) (λ place less. sym (byte_is base old new at bytes is zeros place))
    ∙ ap (first_bytes (byte_over base.kept new.kept)) long)

pub zeros_written : (base old new : PagesValue) (at : ℕ) (bytes : List ℕ) → 0 < length bytes → AreZerosBehind base old → IsWrittenOver base old at bytes new → AreZerosBehind base new
zeros_written base old new at bytes some zeros is place behind =
    let size = is.size in
    byte_outside base old new at bytes is place (inr (omega (arith, size, behind))) ∙ zeros place (omega (arith, size, behind))

-- ---- behind an adoption

pub bytes_adopted : (old dirty new : PagesValue) → HasAdopted old dirty new → bytes_of new ≡ bytes_over old dirty
bytes_adopted old dirty new is =
    ap (first_bytes (byte_at new.kept)) is.size
    ∙ same_first_bytes (byte_at new.kept) (byte_over old.kept dirty.kept) (max old.size dirty.size) (λ place less. ap (λ (page : Option (List ℕ)). byte_in page (place % 4096)) (is.pages (place / 4096)))

-- nothing stands over these pages, or they over nothing
over_none : (kept : List (ℕ × List ℕ)) (none : PagesValue) → IsEmpty none → (place : ℕ) → byte_over kept none.kept place ≡ byte_at kept place
over_none kept none empty place = ap (λ (pages : List (ℕ × List ℕ)). byte_over kept pages place) empty.1

or_none : (page : Option (List ℕ)) → or_else page None ≡ page
or_none None = refl
or_none (Some page) = refl

on_none : (none : PagesValue) (kept : List (ℕ × List ℕ)) → IsEmpty none → (place : ℕ) → byte_over none.kept kept place ≡ byte_at kept place
on_none none kept empty place =
    ap (λ (pages : List (ℕ × List ℕ)). byte_over pages kept place) empty.1
    ∙ ap (λ (page : Option (List ℕ)). byte_in page (place % 4096)) (or_none (kept_page (place / 4096) kept))

pub zeros_adopted : (old dirty new none : PagesValue) → HasAdopted old dirty new → IsEmpty none → AreZerosBehind old dirty → AreZerosBehind new none
zeros_adopted old dirty new none is empty zeros place behind =
    let size = is.size in
    over_none new.kept none empty place
    ∙ ap (λ (page : Option (List ℕ)). byte_in page (place % 4096)) (is.pages (place / 4096))
    ∙ zeros place (omega (arith, size, behind))

pub bytes_alone : (base none : PagesValue) → IsEmpty none → bytes_over base none ≡ bytes_of base
bytes_alone base none empty =
    let size : max base.size none.size ≡ base.size = let e = empty.0 in omega (arith, e) in
    ap (first_bytes (byte_over base.kept none.kept)) size
    ∙ same_first_bytes (byte_over base.kept none.kept) (byte_at base.kept) base.size (λ place less. over_none base.kept none empty place)

pub bytes_on_none : (none pages : PagesValue) → IsEmpty none → bytes_over none pages ≡ bytes_of pages
bytes_on_none none pages empty =
    let size : max none.size pages.size ≡ pages.size = let e = empty.0 in omega (arith, e) in
    ap (first_bytes (byte_over none.kept pages.kept)) size
    ∙ same_first_bytes (byte_over none.kept pages.kept) (byte_at pages.kept) pages.size (λ place less. on_none none pages.kept empty place)

-- so what is behind both ends is told of either
pub zeros_turned : (pages none : PagesValue) → IsEmpty none → AreZerosBehind pages none → AreZerosBehind none pages
zeros_turned pages none empty zeros place behind =
    on_none none pages.kept empty place ∙ sym (over_none pages.kept none empty place) ∙ zeros place (omega (arith, behind))

pub zeros_turned_back : (pages none : PagesValue) → IsEmpty none → AreZerosBehind none pages → AreZerosBehind pages none
zeros_turned_back pages none empty zeros place behind =
    over_none pages.kept none empty place ∙ sym (on_none none pages.kept empty place) ∙ zeros place (omega (arith, behind))
