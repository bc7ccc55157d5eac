-- The part that a page and a range of the file have in common.
use Rattle.std.specs.Prelude.{◌≡◌, ℕ, ◌+◌, ◌-◌, ◌*◌, ◌<◌, ◌≤◌, ◌⊎◌, List, length, get_or, Option}
use Rattle.file_pages.specs.Pages.{byte_in}

-- the bytes of a page stand in a piece of the file that begins at a place, and the others of it are as before
pub record HasPart (page : Option (List ℕ)) (number at : ℕ) (old new : List ℕ) : Type 0 where
  pub long : length new ≡ length old
  pub inside : (i : ℕ) → i < length old → number * 4096 ≤ at + i → at + i < number * 4096 + 4096 → get_or new i 0 ≡ byte_in page (at + i - number * 4096)
  pub outside : (i : ℕ) → (at + i < number * 4096) ⊎ (number * 4096 + 4096 ≤ at + i) → get_or new i 0 ≡ get_or old i 0
