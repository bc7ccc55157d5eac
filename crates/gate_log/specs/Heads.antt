-- What the steps of reading a record do.
use Rattle.std.specs.Prelude.{⊤, ◌≡◌, ℕ, ◌+◌, ◌<◌, ◌≤◌, min, List, length, take, drop, Option, Some, None, Result, Ok, Err}
use Rattle.rpc_record.specs.declared.stream.Failed.{Failed}
use Rattle.store_disk.specs.Disks.{DiskLife}
use Rattle.gate_log.specs.Logs.{Absent, Closed, Broken, Opens, gate_of}
use Rattle.gate_log.specs.declared.reading.Found.{Found}
use Rattle.gate_log.specs.declared.reading.Found.TheVariants as found
use Rattle.gate_log.specs.declared.reading.Head.{Head}
use Rattle.gate_log.specs.declared.reading.Head.TheVariants as head

-- n bytes from a place on stand at the front of the piece: as many as it has room for, or as stand there
pub record FillsPiece (bytes : List ℕ) (at : ℕ) (piece : List ℕ) (n : ℕ) : Type 0 where
  pub same : take n piece ≡ take n (drop at bytes)
  pub most : n ≡ min (length piece) (length (drop at bytes))

abbrev pub ReadsFront : Option DiskLife → ℕ → List ℕ → Result ℕ Failed → Type 0
ReadsFront None at piece result = ⊤
ReadsFront (Some life) at piece (Ok n) = FillsPiece life.now.seen at piece n
ReadsFront (Some life) at piece (Err e) = ⊤

-- so many bytes from a place on stand at the front of the piece already, where the disk tells
abbrev pub HasFilled : Option DiskLife → ℕ → List ℕ → ℕ → Type 0
HasFilled None at piece n = ⊤
HasFilled (Some life) at piece n = (take n piece ≡ take n (drop at life.now.seen)) × (n ≤ length (drop at life.now.seen))

-- a body of so many bytes stands behind the head
pub record OpensBody (bytes : List ℕ) (n : ℕ) : Type 0 where
  pub within : 5 + n ≤ length bytes
  pub gate : gate_of bytes ≡ Opens (take n (drop 5 bytes)) (drop (5 + n) bytes)

abbrev pub HeadSays : List ℕ → Head → Type 0
HeadSays bytes head.Absent = gate_of bytes ≡ Absent
HeadSays bytes head.Closed = gate_of bytes ≡ Closed
HeadSays bytes head.Broken = gate_of bytes ≡ Broken
HeadSays bytes (head.Opens n) = OpensBody bytes n

-- the gate byte, and the body, lie within so many bytes
abbrev pub FitsIn : ℕ → Head → Type 0
FitsIn left (head.Opens n) = 5 + n ≤ left
FitsIn left head.Closed = 0 < left
FitsIn left head = ⊤

abbrev pub FindsHead : Option DiskLife → ℕ → ℕ → Result Head Failed → Type 0
FindsHead None at left result = ⊤
FindsHead (Some life) at left (Ok h) = left ≡ length (drop at life.now.seen) → HeadSays (drop at life.now.seen) h
FindsHead (Some life) at left (Err e) = ⊤

-- a body of n bytes was read, or the disk has fewer
abbrev pub ReadsBody : Option DiskLife → ℕ → ℕ → Result Found Failed → List ℕ → Type 0
ReadsBody None at n (Ok found.Opens) body = length body ≡ n
ReadsBody None at n result body = ⊤
ReadsBody (Some life) at n (Ok found.Opens) body = (length body ≡ n) × (body ≡ take n (drop at life.now.seen))
ReadsBody (Some life) at n (Ok found.Broken) body = length (drop at life.now.seen) < n
ReadsBody (Some life) at n (Ok it) body = ⊥
ReadsBody (Some life) at n (Err e) body = ⊤
