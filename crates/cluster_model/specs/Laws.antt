-- The laws of a data file.
use Rattle.std.specs.Prelude.{◌≡◌, ℕ, ◌+◌, ◌<◌, ◌≤◌, List, [], length, max, take, drop, get_or, ◌⊎◌}
use Rattle.cluster_model.specs.declared.tick.Tick.{Tick}
use Rattle.cluster_model.specs.declared.change.Changes.{Changes}
use Rattle.cluster_model.specs.Ticks.{IsBefore, IsUpTo, next_tick}
use Rattle.cluster_model.specs.Content.{overlay}
use Rattle.cluster_model.specs.File.{StoredFile, FileOp, shown, committed, set, file_after, clock_after}

-- A file at a server that gave this tick last: no ctime is above it, and a restart brings back one that is not above the
-- one that is shown.
pub record IsClocked (f : StoredFile) (clock : Tick) : Type 0 where
  pub stable : IsUpTo f.stable_times.ctime f.times.ctime
  pub shown : IsUpTo f.times.ctime clock

-- So it stays, whatever is done to the file, and the ctime that a restart leaves never falls.
pub record KeepsTimes (f : StoredFile) (clock : Tick) (op : FileOp) : Type 0 where
  pub clocked : IsClocked (file_after f clock op) (clock_after clock op)
  pub rises : IsUpTo f.stable_times.ctime (file_after f clock op).stable_times.ctime
  pub ticks : IsUpTo clock (clock_after clock op)

-- A SETATTR leaves a stable ctime above each tick that was given before, so above each guard that any SETATTR can have.
abbrev pub PassesGuards : StoredFile → Tick → Changes → Type 0
PassesGuards f clock c = (guard : Tick) → IsUpTo guard clock → IsBefore guard (set f (next_tick clock) c).stable_times.ctime

-- A COMMIT changes nothing that is shown, and makes it stable.
pub record IsCommitted (f : StoredFile) : Type 0 where
  pub shown_stays : shown (committed f) ≡ shown f
  pub stable : (committed f).content.stable ≡ shown f
  pub pending : (committed f).content.pending ≡ []

-- A byte of a list, and 0 behind its end.
abbrev pub byte_at : List ℕ → ℕ → ℕ
byte_at bytes k = get_or bytes k 0

-- A WRITE changes the shown bytes inside its range alone. A gap before it has zeros.
pub record IsWritten (old : List ℕ) (at : ℕ) (bytes new : List ℕ) : Type 0 where
  pub inside : (k : ℕ) → k < length bytes → byte_at new (at + k) ≡ byte_at bytes k
  pub outside : (k : ℕ) → (k < at) ⊎ (at + length bytes ≤ k) → byte_at new k ≡ byte_at old k
  pub none : length bytes ≡ 0 → new ≡ old
  pub size : 0 < length bytes → length new ≡ max (length old) (at + length bytes)

-- Bytes at two places that have no byte in common are put in either order.
abbrev pub AreDisjoint : ℕ → List ℕ → ℕ → List ℕ → Type 0
AreDisjoint a xs b ys = (a + length xs ≤ b) ⊎ (b + length ys ≤ a)

abbrev pub Commute : List ℕ → ℕ → List ℕ → ℕ → List ℕ → Type 0
Commute old a xs b ys = overlay (overlay old a xs) b ys ≡ overlay (overlay old b ys) a xs

-- the bytes stand at the place already
pub record StandsAt (old : List ℕ) (at : ℕ) (bytes : List ℕ) : Type 0 where
  pub within : at + length bytes ≤ length old
  pub same : take (length bytes) (drop at old) ≡ bytes
