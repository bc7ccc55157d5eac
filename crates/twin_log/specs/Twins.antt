-- A log in two files, of which one has it: the one with the greater generation.
--
-- A new log begins as a copy of what the old one says, in the other file, with the next generation; so it grows no further than what it says, and
-- whenever a crash comes one of the two is there.
use Rattle.std.specs.Prelude.{ℕ, ◌==◌, nat_lt, Bool, true, false, if◌then◌else◌, List, [], ◌∷◌, ◌+◌, length, Option, Some, None, Result, Ok, Err}
use Rattle.ff_xdr.specs.declared.error.XdrError.{XdrError}
use Rattle.ff_xdr.specs.Form.{Form, Number64, Arm, NoArm, Value, spelling}
use Rattle.ff_xdr.specs.Arms.{arm, by_arm}
use Rattle.ff_xdr.specs.Reading.{reading, whole}
use Rattle.gate_log.specs.Logs.{Log, log_of, log_size}
use Rattle.twin_log.specs.declared.side.Side.{Side}
use Rattle.twin_log.specs.declared.side.Side.TheVariants.{Disk, Spare}

-- ---- the generation

-- the first body of a file may say its generation: kind 5, and the generation, at least 1
abbrev pub generation_form : Form
generation_form = Arm 5 Number64 NoArm

abbrev pub generation_value : ℕ → Value generation_form
generation_value generation = arm 5 generation_form generation

abbrev pub generation_body : ℕ → List ℕ
generation_body generation = spelling generation_form (generation_value generation)

abbrev pub generation_read : Result (Value generation_form) XdrError → ℕ
generation_read (Ok v) = by_arm generation_form (λ generation. generation, tt) v
generation_read (Err e) = 0

-- the generation that a body says, and 0 of any other body
abbrev pub generation_in : List ℕ → ℕ
generation_in body = generation_read (whole body (reading generation_form body 0))

-- the generation that bodies begin with
abbrev pub first_generation : List (List ℕ) → ℕ
first_generation [] = 0
first_generation (body ∷ bodies) = generation_in body

-- The generation of a file, where it has a record. One whose first record is cut has a record, and generation 0.
abbrev pub generation_by : List (List ℕ) → Bool → Option ℕ
generation_by [] true = None
generation_by [] false = Some 0
generation_by (body ∷ bodies) is_whole = Some (generation_in body)

abbrev pub generation_of : Log → Option ℕ
generation_of log = generation_by log.bodies log.is_whole

-- ---- which file has the log

-- neither; the one or the other; or both files have the same generation
pub data LogHolder : Type 0 where
  Neither : LogHolder
  On : Side → LogHolder
  Both : LogHolder

abbrev pub log_holder : Option ℕ → Option ℕ → LogHolder
log_holder None None = Neither
log_holder (Some g) None = On Disk
log_holder None (Some h) = On Spare
log_holder (Some g) (Some h) = if g == h then Both else (if nat_lt h g then On Disk else On Spare)

-- ---- what they say together

-- Nothing yet; a log, with its generation, the place of the first of its bodies, and these; or it is bad at a place.
pub data TwinLog : Type 0 where
  New : TwinLog
  Has : (generation start : ℕ) (bodies : List (List ℕ)) → TwinLog
  Bad : (place : ℕ) → TwinLog

-- the bodies behind the generation, and where the first of them has its record
abbrev pub without_generation : List (List ℕ) → List (List ℕ)
without_generation [] = []
without_generation (body ∷ bodies) = if generation_in body == 0 then body ∷ bodies else bodies

abbrev pub first_place : List (List ℕ) → ℕ
first_place [] = 0
first_place (body ∷ bodies) = if generation_in body == 0 then 0 else 5 + length body

-- the log of a file that has it: it is bad where it is cut
abbrev pub file_says : Log → TwinLog
file_says log = if log.is_whole then Has (first_generation log.bodies) (first_place log.bodies) (without_generation log.bodies) else Bad (log_size log.bodies)

abbrev pub says_by : LogHolder → Log → Log → TwinLog
says_by Neither disk spare = New
says_by (On Disk) disk spare = file_says disk
says_by (On Spare) disk spare = file_says spare
says_by Both disk spare = Bad 0

-- what two files with these bytes say
abbrev pub twin_log : List ℕ → List ℕ → TwinLog
twin_log disk spare = says_by (log_holder (generation_of (log_of disk)) (generation_of (log_of spare))) (log_of disk) (log_of spare)

-- ---- the one file and the other

abbrev pub opposite : Side → Side
opposite Disk = Spare
opposite Spare = Disk

-- what is said of the file on a side, where this is said of the disk and that of the spare
abbrev pub at_side : {X : Type 0} → Side → X → X → X
at_side Disk disk spare = disk
at_side Spare disk spare = spare
