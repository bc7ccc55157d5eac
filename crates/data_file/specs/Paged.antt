-- A file's bytes as pages: those that are stable, and over them those that pending writes have touched (RFC 1813, section 3.3.7).
use Rattle.std.specs.Prelude.{◌≡◌, ℕ, ◌-◌, ◌≤◌, List, [], length, take, drop, Option, Some, None}
use Rattle.std.specs.Borrow.{Bor}
use Rattle.cluster_model.specs.Content.{Pending, overlay_all}
use Rattle.file_pages.specs.Pages.{PagesValue, bytes_of, bytes_over, AreZerosBehind, IsEmpty}

-- where a pending write stands, and how many bytes it has
abbrev pub place_of : Pending → ℕ × ℕ
place_of w = (w.at, length w.bytes)

abbrev pub no_pages : PagesValue
no_pages = record { size = 0; kept = []; room = 0 }

-- pages that may stand over others
abbrev pub upper_of : Option (Bor PagesValue) → PagesValue
upper_of None = no_pages
upper_of (Some pages) = pages.now

-- some of the bytes that pages over others show
abbrev pub part_of : PagesValue → PagesValue → ℕ → ℕ → List ℕ
part_of stable dirty from end = take (end - from) (drop from (bytes_over stable dirty))

-- pages on a disk: behind the end they have zeros, so a file that grows shows zeros
abbrev pub IsStored : PagesValue → Type 0
IsStored pages = AreZerosBehind pages no_pages

-- What the pages show is what the pending writes make of the stable bytes; what they have touched can become stable without
-- memory, and is nothing where nothing is pending.
pub record IsPaged (stable dirty : PagesValue) (pending : List Pending) : Type 0 where
  pub shown : bytes_over stable dirty ≡ overlay_all (bytes_of stable) pending
  pub zeros : AreZerosBehind stable dirty
  pub stored : IsStored stable
  pub room : length dirty.kept ≤ stable.room
  pub clean : pending ≡ [] → IsEmpty dirty
