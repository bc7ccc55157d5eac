-- Where a page stands among those whose numbers rise.
use Rattle.std.specs.Prelude.{⊤, ℕ, Bool, false, ◌==◌, ◌<◌, ◌≤◌, List, [], ◌∷◌, length, take, drop, Option, Some, None}
use Rattle.cluster_model.specs.declared.limits.TheConstants.{MAX_FILE}
use Rattle.file_pages.specs.Pages.{RiseFrom, AreWhole}

-- the numbers rise, and each page is whole
pub record AreSoundPages (pages : List (ℕ × List ℕ)) : Type 0 where
  pub rise : RiseFrom 0 pages
  pub whole : AreWhole pages

-- the numbers are below this one
abbrev pub AreNumberedBelow : ℕ → List (ℕ × List ℕ) → Type 0
AreNumberedBelow number [] = ⊤
AreNumberedBelow number (page ∷ pages) = (page.0 < number) × AreNumberedBelow number pages

-- the numbers are below that of the first of others
abbrev pub AreNumberedBelowFirst : List (ℕ × List ℕ) → List (ℕ × List ℕ) → Type 0
AreNumberedBelowFirst front [] = ⊤
AreNumberedBelowFirst front (page ∷ pages) = AreNumberedBelow page.0 front

-- the place of the first page whose number is not below this one
pub record IsPagePlace (number : ℕ) (pages : List (ℕ × List ℕ)) (place : ℕ) : Type 0 where
  pub within : place ≤ length pages
  pub below : AreNumberedBelow number (take place pages)
  pub behind : RiseFrom number (drop place pages)

-- a page has this number
abbrev pub is_numbered : ℕ → Option (ℕ × List ℕ) → Bool
is_numbered number None = false
is_numbered number (Some page) = page.0 == number

-- a file has at most so many bytes, and its pages are in order
pub record IsFile (size : ℕ) (pages : List (ℕ × List ℕ)) : Type 0 where
  pub bounded : size ≤ MAX_FILE
  pub kept : AreSoundPages pages
