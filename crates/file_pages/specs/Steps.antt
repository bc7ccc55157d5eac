-- What the steps of a write and of an adoption do to the pages.
use Rattle.std.specs.Prelude.{◌≡◌, ℕ, Bool, true, false, ◌+◌, ◌/◌, ◌≤◌, ◌&&◌, nat_lt, if◌then◌else◌, List, [], ◌∷◌, length, take, Option, Some, None}
use Rattle.file_pages.specs.Pages.{RiseFrom, AreWhole, kept_page, page_over, page_written, touches}
use Rattle.file_pages.specs.Places.{AreSoundPages, AreNumberedBelow}

-- A page took the place of its number; `next` is the place behind it.
pub record HasPut (page : ℕ × List ℕ) (old new : List (ℕ × List ℕ)) (next : ℕ) : Type 0 where
  pub over : (number : ℕ) → kept_page number new ≡ page_over old (page ∷ []) number
  pub kept : AreSoundPages new
  pub within : next ≤ length new
  pub below : AreNumberedBelow (page.0 + 1) (take next new)
  pub len : length new ≤ length old + 1

-- ---- a write

-- the first page that a write touches, and the one behind the last
abbrev pub first_touched : ℕ → ℕ
first_touched at = at / 4096

abbrev pub end_touched : ℕ → ℕ → ℕ
end_touched at count = (at + count + 4095) / 4096

-- the kept pages behind a write
abbrev pub written_in : ℕ → List ℕ → List (ℕ × List ℕ) → List (ℕ × List ℕ)
written_in at bytes [] = []
written_in at bytes (page ∷ pages) =
    (page.0, if touches at (length bytes) page.0 then page_written (Some page.1) page.0 at bytes else page.1) ∷ written_in at bytes pages

-- a page where another is not kept
abbrev pub where_none : Option (List ℕ) → Option (List ℕ) → Option (List ℕ)
where_none None page = page
where_none (Some other) page = None

-- the fresh page of a number, of the touched ones up to one
abbrev pub fresh_page : List (ℕ × List ℕ) → List (ℕ × List ℕ) → ℕ → List ℕ → ℕ → ℕ → Option (List ℕ)
fresh_page base old at bytes upto number =
    if touches at (length bytes) number && nat_lt number upto
    then where_none (kept_page number old) (Some (page_written (kept_page number base) number at bytes))
    else None

-- The touched pages up to one that are not kept, behind the write: they began as those of `base`, or with zeros.
pub record AreFresh (base old : List (ℕ × List ℕ)) (at : ℕ) (bytes : List ℕ) (upto : ℕ) (fresh : List (ℕ × List ℕ)) : Type 0 where
  pub pages : (number : ℕ) → kept_page number fresh ≡ fresh_page base old at bytes upto number
  pub rise : RiseFrom (first_touched at) fresh
  pub below : AreNumberedBelow upto fresh
  pub whole : AreWhole fresh
  pub few : length fresh + first_touched at ≤ upto

-- a page has a number below this one
abbrev pub is_below : ℕ → Option (ℕ × List ℕ) → Bool
is_below number None = false
is_below number (Some page) = nat_lt page.0 number

-- Bytes were written: a touched page that was not kept began as that of `base`, or with zeros; no other page changed, and none was
-- added.
pub record ArePagesWritten (base old : List (ℕ × List ℕ)) (at : ℕ) (bytes : List ℕ) (new : List (ℕ × List ℕ)) : Type 0 where
  pub touched : (number : ℕ) → touches at (length bytes) number ≡ true → kept_page number new ≡ Some (page_written (page_over base old number) number at bytes)
  pub others : (number : ℕ) → touches at (length bytes) number ≡ false → kept_page number new ≡ kept_page number old
  pub few : length new ≤ length old + (length bytes / 4096 + 2)
  pub kept : AreSoundPages new
