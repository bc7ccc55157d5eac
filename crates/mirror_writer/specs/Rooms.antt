-- A mirror as the code has it: how many more taken writes it has room for.
use Rattle.std.specs.Prelude.{◌≡◌, ℕ, ◌+◌, ◌<◌, ◌≤◌, Bool, false, not, Option, Some, None, List, length, map, count_by, ⊤}
use Rattle.mirror_writer.specs.declared.call.WriterCall.{WriterCall}
use Rattle.mirror_writer.specs.declared.call.WriterCall.TheVariants.{NoCall, OutWrite, OutCommit}
use Rattle.mirror_writer.specs.declared.call.NextCall.{NextCall}
use Rattle.mirror_writer.specs.declared.call.NextCall.TheVariants.{SendsWrite, SendsCommit}
use Rattle.mirror_writer.specs.Writers.{WriterMirror}

-- a mirror, and how many writes its queue, its answers and its flags can hold without more memory
pub record RoomyMirror : Type 0 where
  pub mirror : WriterMirror
  pub queue_room : ℕ
  pub answer_room : ℕ
  pub flag_room : ℕ

abbrev pub mirrors_shown : List RoomyMirror → List WriterMirror
mirrors_shown mirrors = map (λ r. r.mirror) mirrors

abbrev pub has_failed_in : Option RoomyMirror → Bool
has_failed_in None = false
has_failed_in (Some r) = r.mirror.has_failed

-- one more write needs no memory
pub record HasSpareRoom (r : RoomyMirror) : Type 0 where
  pub queue : length r.mirror.covered < r.queue_room
  pub answers : length r.mirror.covered < r.answer_room
  pub flags : length r.mirror.covered < r.flag_room

-- how many WRITEs are out
abbrev pub writes_out : WriterCall → ℕ
writes_out NoCall = 0
writes_out (OutWrite xid write timeouts) = 1
writes_out (OutCommit xid timeouts) = 0

abbrev pub timeouts_of : WriterCall → ℕ
timeouts_of NoCall = 0
timeouts_of (OutWrite xid write timeouts) = timeouts
timeouts_of (OutCommit xid timeouts) = timeouts

-- Each taken write stands at most once in the queue, the call and the answers, so neither the queue nor the answers outgrow their room.
pub record IsRoomy (r : RoomyMirror) (count : ℕ) : Type 0 where
  pub fits : length r.mirror.queue + length r.mirror.answered + writes_out r.mirror.call ≤ length r.mirror.covered
  pub queue : length r.mirror.covered ≤ r.queue_room
  pub answers : length r.mirror.covered ≤ r.answer_room
  pub timeouts : timeouts_of r.mirror.call ≤ 2
  pub uncovered : count ≡ count_by not r.mirror.covered

-- a WRITE that is sent is the first of the queue
abbrev pub CanSend : NextCall → WriterMirror → Type 0
CanSend (SendsWrite n) m = 0 < length m.queue
CanSend SendsCommit m = ⊤
