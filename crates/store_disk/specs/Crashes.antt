-- What a crash leaves of a disk in memory, by what it makes of each change.
use Rattle.std.specs.Prelude.{◌≡◌, ℕ, ◌/◌, ◌==◌, if◌then◌else◌, List, [], ◌∷◌, length, take, drop, replicate, None}
use Rattle.cluster_model.specs.Content.{overlay}
use Rattle.store_disk.specs.Disks.{DiskState, DiskLife, Change, Wrote, Resized, IsLeft, new_life, resized}
use Rattle.store_disk.specs.MemoryDisks.{MemoryDiskState}
use Rattle.store_disk.specs.declared.crash.Tear.{Tear}
use Rattle.store_disk.specs.declared.crash.Tear.TheVariants.{AsBefore, AsWritten, FirstHalf, AllOnes}
use Rattle.store_disk.specs.declared.recorded.Recorded.{Recorded}
use Rattle.store_disk.specs.declared.recorded.Recorded.TheVariants as call

abbrev pub tear_of : ℕ → Tear
tear_of choice = if choice == 0 then AsBefore else (if choice == 1 then AsWritten else (if choice == 2 then FirstHalf else AllOnes))

-- what is there of a piece of at most so many bytes
abbrev pub torn_piece : Tear → ℕ → List ℕ → List ℕ
torn_piece AsBefore count piece = []
torn_piece AsWritten count piece = piece
torn_piece FirstHalf count piece = take (count / 2) piece
torn_piece AllOnes count piece = replicate count 255

abbrev pub torn_cut : Tear → List ℕ → ℕ → List ℕ
torn_cut AsBefore left to = left
torn_cut AsWritten left to = resized left to
torn_cut FirstHalf left to = resized left to
torn_cut AllOnes left to = resized left to

-- What is left behind the latest change, of what was left before it. What a read gives behind a write says what was written.
abbrev pub left_of : Tear → DiskState → List Change → List ℕ → List ℕ
left_of tear s [] left = s.synced
left_of tear s (Wrote at count ∷ earlier) left = overlay left at (torn_piece tear count (take count (drop at s.seen)))
left_of tear s (Resized to ∷ earlier) left = torn_cut tear left to

-- what a crash leaves of a disk that stood so, the latest first
abbrev pub left_by : Tear → List DiskState → List ℕ
left_by tear [] = []
left_by tear (s ∷ states) = left_of tear s s.changes (left_by tear states)

-- the disk behind the crash, of which no call fails
abbrev pub crashed : MemoryDiskState → Tear → MemoryDiskState
crashed disk tear = record { life = new_life (left_by tear (disk.life.now ∷ disk.life.past)); failing = []; stop = None; calls = 0; faults = 0 }

-- ---- call by call

-- what a read gives behind a call
abbrev pub seen_behind : Recorded → List ℕ → List ℕ
seen_behind (call.Wrote at piece) seen = overlay seen at piece
seen_behind (call.LostWrite at count) seen = seen
seen_behind (call.Cut to) seen = resized seen to
seen_behind (call.LostCut to) seen = seen
seen_behind call.Synced seen = seen

-- what a crash leaves behind a call
abbrev pub left_behind : Tear → Recorded → List ℕ → List ℕ → List ℕ
left_behind tear (call.Wrote at piece) seen left = overlay left at (torn_piece tear (length piece) piece)
left_behind tear (call.LostWrite at count) seen left = overlay left at (torn_piece tear count (take count (drop at seen)))
left_behind tear (call.Cut to) seen left = torn_cut tear left to
left_behind tear (call.LostCut to) seen left = torn_cut tear left to
left_behind tear call.Synced seen left = seen

-- The bytes seen are those of the life, and these are left of it.
pub record Tracks (tear : Tear) (life : DiskLife) (seen left : List ℕ) : Type 0 where
  pub seen_is : seen ≡ life.now.seen
  pub left_is : left ≡ left_by tear (life.now ∷ life.past)
  pub is_left : IsLeft life.now.synced life.now.changes left
