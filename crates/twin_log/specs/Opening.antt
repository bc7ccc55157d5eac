-- The steps of opening a log in two files.
use Rattle.std.specs.Prelude.{⊤, ◌≡◌, ℕ, ◌<◌, true, false, List, [], ◌∷◌, length, drop, Option, Some, None, Result, Ok, Err}
use Rattle.rpc_record.specs.declared.stream.Failed.{Failed}
use Rattle.store_disk.specs.Disks.{DiskLife}
use Rattle.gate_log.specs.Logs.{Closed, gate_of, log_of, log_size}
use Rattle.twin_log.specs.declared.side.Side.{Side}
use Rattle.twin_log.specs.declared.fault.LogCause.{LogCause}
use Rattle.twin_log.specs.declared.fault.LogCause.TheVariants as cause
use Rattle.twin_log.specs.declared.kept_log.FileHead.{FileHead}
use Rattle.twin_log.specs.Twins.{first_place, generation_in, generation_of}
use Rattle.twin_log.specs.KeptLogs.{KeptLogState}

-- the head of a file whose first record has this body
abbrev pub head_with : ℕ → List ℕ → FileHead
head_with size body = record { size = size; generation = Some (generation_in body); start = first_place (body ∷ []) }

-- a file begins so
pub record BeginsAs (bytes : List ℕ) (head : FileHead) : Type 0 where
  pub size : head.size ≡ length bytes
  pub generation : head.generation ≡ generation_of (log_of bytes)
  pub start : head.start ≡ first_place (log_of bytes).bodies

abbrev pub HeadOf : Option DiskLife → Result FileHead Failed → Type 0
HeadOf None result = ⊤
HeadOf (Some life) (Ok head) = BeginsAs life.now.seen head
HeadOf (Some life) (Err e) = ⊤

-- the log on one file, read to nowhere
abbrev pub opened_on : Side → FileHead → ℕ → KeptLogState
opened_on side head end = record { side = side; generation = head.generation; size = head.size; end = end; at = end; next = head.start; place = 0; renewed = None }

abbrev pub OpensFile : Side → FileHead → List ℕ → Result KeptLogState LogCause → Type 0
OpensFile side head bytes (Ok log) = (log ≡ opened_on side head (log_size (log_of bytes).bodies)) × ((log_of bytes).is_whole ≡ true) × (1 < length bytes → gate_of (drop (log_size (log_of bytes).bodies) bytes) ≡ Closed)
OpensFile side head bytes (Err (cause.BadLog place)) = ((log_of bytes).is_whole ≡ false) × (place ≡ log_size (log_of bytes).bodies)
OpensFile side head bytes (Err cause.Disk) = ⊤
OpensFile side head bytes (Err cause.NoMemory) = ⊤

abbrev pub OpensSide : Side → FileHead → Option DiskLife → Result KeptLogState LogCause → Type 0
OpensSide side head None result = ⊤
OpensSide side head (Some life) result = head.size ≡ length life.now.seen → OpensFile side head life.now.seen result
