-- The bytes of a file as pages of 4,096 bytes, of which only those that something was written to are kept: a hole reads as zeros
-- (POSIX.1-2017, write: bytes between the old end and the place of a write beyond it are zeros).
use Rattle.std.specs.Prelude.{⊤, ◌≡◌, ℕ, Bool, true, false, zero, suc, ◌+◌, ◌-◌, ◌*◌, ◌/◌, ◌%◌, ◌≤◌, ◌&&◌, ◌==◌, nat_lt, nat_le, max, if◌then◌else◌, List, [], ◌∷◌, ◌++◌, length, get_or, Option, Some, None}

-- How far the file reaches, the kept pages with their numbers, and how many more find room without memory. The page n has the
-- bytes from 4,096 n on.
pub record PagesValue : Type 0 where
  pub size : ℕ
  pub kept : List (ℕ × List ℕ)
  pub room : ℕ

-- ---- which pages are kept

-- the numbers rise, from this one on
abbrev pub RiseFrom : ℕ → List (ℕ × List ℕ) → Type 0
RiseFrom least [] = ⊤
RiseFrom least (page ∷ pages) = (least ≤ page.0) × RiseFrom (page.0 + 1) pages

-- each has 4,096 bytes
abbrev pub AreWhole : List (ℕ × List ℕ) → Type 0
AreWhole [] = ⊤
AreWhole (page ∷ pages) = (length page.1 ≡ 4096) × AreWhole pages

-- the page that is kept under a number
abbrev pub kept_page : ℕ → List (ℕ × List ℕ) → Option (List ℕ)
kept_page number [] = None
kept_page number (page ∷ pages) = if page.0 == number then Some page.1 else kept_page number pages

abbrev pub or_else : Option (List ℕ) → Option (List ℕ) → Option (List ℕ)
or_else (Some page) other = Some page
or_else None other = other

-- ---- which bytes they are

-- a byte of a page; a page that is not kept has zeros
abbrev pub byte_in : Option (List ℕ) → ℕ → ℕ
byte_in None at = 0
byte_in (Some page) at = get_or page at 0

-- the byte at a place of the file
abbrev pub byte_at : List (ℕ × List ℕ) → ℕ → ℕ
byte_at pages place = byte_in (kept_page (place / 4096) pages) (place % 4096)

-- the page under a number, where pages stand over others
abbrev pub page_over : List (ℕ × List ℕ) → List (ℕ × List ℕ) → ℕ → Option (List ℕ)
page_over base pages number = or_else (kept_page number pages) (kept_page number base)

-- the byte at a place, where pages stand over others
abbrev pub byte_over : List (ℕ × List ℕ) → List (ℕ × List ℕ) → ℕ → ℕ
byte_over base pages place = byte_in (page_over base pages (place / 4096)) (place % 4096)

-- the first so many values of a function
unfoldable pub first_bytes : (ℕ → ℕ) → ℕ → List ℕ
first_bytes byte zero = []
first_bytes byte (suc n) = first_bytes byte n ++ byte n ∷ []

-- the bytes of the file
abbrev pub bytes_of : PagesValue → List ℕ
bytes_of pages = first_bytes (byte_at pages.kept) pages.size

-- the bytes of the file, where pages stand over others: it ends where the longer of both does
abbrev pub bytes_over : PagesValue → PagesValue → List ℕ
bytes_over base pages = first_bytes (byte_over base.kept pages.kept) (max base.size pages.size)

-- no byte but zeros from the end on, so a file that grows shows zeros
abbrev pub AreZerosBehind : PagesValue → PagesValue → Type 0
AreZerosBehind base pages = (place : ℕ) → max base.size pages.size ≤ place → byte_over base.kept pages.kept place ≡ 0

-- ---- what is done to them

abbrev pub IsEmpty : PagesValue → Type 0
IsEmpty pages = (pages.size ≡ 0) × (pages.kept ≡ [])

-- the same bytes under the same numbers; the room may be another
pub record HaveSamePages (old new : PagesValue) : Type 0 where
  pub size : new.size ≡ old.size
  pub kept : new.kept ≡ old.kept

-- whether a page has a place of a write of so many bytes
abbrev pub touches : ℕ → ℕ → ℕ → Bool
touches at count number = nat_lt at (number * 4096 + 4096) && nat_lt (number * 4096) (at + count)

-- a page behind a write: the bytes that were written, and between them those that it had
abbrev pub byte_written : Option (List ℕ) → ℕ → ℕ → List ℕ → ℕ → ℕ
byte_written page number at bytes i =
    if nat_le at (number * 4096 + i) && nat_lt (number * 4096 + i) (at + length bytes)
    then get_or bytes (number * 4096 + i - at) 0
    else byte_in page i

abbrev pub page_written : Option (List ℕ) → ℕ → ℕ → List ℕ → List ℕ
page_written page number at bytes = first_bytes (byte_written page number at bytes) 4096

-- Bytes were written: the file reaches at least as far as they do; a touched page that was not kept began as that of `base`, or
-- with zeros; no other page changed, and none was added.
pub record IsWrittenOver (base old : PagesValue) (at : ℕ) (bytes : List ℕ) (new : PagesValue) : Type 0 where
  pub size : new.size ≡ max old.size (at + length bytes)
  pub touched : (number : ℕ) → touches at (length bytes) number ≡ true → kept_page number new.kept ≡ Some (page_written (page_over base.kept old.kept number) number at bytes)
  pub others : (number : ℕ) → touches at (length bytes) number ≡ false → kept_page number new.kept ≡ kept_page number old.kept
  pub few : length new.kept ≤ length old.kept + (length bytes / 4096 + 2)

-- Pages took the place of those with their numbers: the file reaches as far as the longer of both.
pub record HasAdopted (old dirty new : PagesValue) : Type 0 where
  pub size : new.size ≡ max old.size dirty.size
  pub pages : (number : ℕ) → kept_page number new.kept ≡ page_over old.kept dirty.kept number
