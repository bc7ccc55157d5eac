-- A connection: the bytes and records that came, and those that go.
use Rattle.std.specs.Prelude.{◌≡◌, ℕ, ◌-◌, ◌==◌, Bool, true, false, ◌&&◌, ◌||◌, not, List, [], ◌++◌, length, drop, flat_map, Option, None, Some, Result, Ok, Err}
use Rattle.ff_xdr.specs.declared.error.NoMemory.{NoMemory}
use Rattle.rpc_record.specs.declared.frames.RecordFault.{RecordFault}
use Rattle.rpc_record.specs.declared.frames.RecordFault.TheVariants as fault
use Rattle.rpc_record.specs.Frames.{Front, Open, Whole, TooLong, TooManyFragments, front_of, is_whole, record_bytes, HasGiven, Takes}
use Rattle.record_link.specs.declared.stream.Halt.{Halt}
use Rattle.record_link.specs.declared.stream.Halt.TheVariants as halt
use Rattle.record_link.specs.Stream.{Comes, IsEnd, WritesOut}
use Rattle.record_link.specs.Messages.{unanswered_behind, unanswered_after}

-- The front of the bytes that were read as records since the last whole one was handed out; the bytes that came behind those;
-- the bytes that are to go; how many calls were handed out and are not answered; and whether the peer has ended its side.
pub record ConnectionState : Type 0 where
  pub front : Front
  pub ahead : List ℕ
  pub to_go : List ℕ
  pub unanswered : ℕ
  pub ended : Bool

abbrev pub new_connection : ConnectionState
new_connection = record { front = front_of []; ahead = []; to_go = []; unanswered = 0; ended = false }

-- the same but for one part of it
abbrev pub with_front : ConnectionState → Front → List ℕ → ConnectionState
with_front s front ahead = record { front = front; ahead = ahead; to_go = s.to_go; unanswered = s.unanswered; ended = s.ended }

abbrev pub with_to_go : ConnectionState → List ℕ → ConnectionState
with_to_go s to_go = record { front = s.front; ahead = s.ahead; to_go = to_go; unanswered = s.unanswered; ended = s.ended }

abbrev pub with_unanswered : ConnectionState → ℕ → ConnectionState
with_unanswered s unanswered = record { front = s.front; ahead = s.ahead; to_go = s.to_go; unanswered = unanswered; ended = s.ended }

abbrev pub with_ended : ConnectionState → ConnectionState
with_ended s = record { front = s.front; ahead = s.ahead; to_go = s.to_go; unanswered = s.unanswered; ended = true }

-- a header has passed a limit
abbrev pub is_refused : Front → Bool
is_refused (Open part) = false
is_refused (Whole message rest) = false
is_refused TooLong = true
is_refused TooManyFragments = true

-- no more records come: the peer has ended its side or is refused
abbrev pub is_spent : ConnectionState → Bool
is_spent s = (s.ended || is_refused s.front) && not (is_whole s.front)

-- ---- what the calls of `Connection` do

-- What filling did: these bytes of the stream came behind the others; or the peer has ended its side; or nothing was done.
abbrev pub Fills : ConnectionState → Option (List ℕ) → Result ℕ Halt → ConnectionState → Option (List ℕ) → Type 0
Fills old coming (Ok n) new coming' = (piece : List ℕ) × (length piece ≡ n) × (new ≡ with_front old old.front (old.ahead ++ piece)) × Comes coming piece coming'
Fills old coming (Err halt.Ended) new coming' = (new ≡ with_ended old) × IsEnd coming × (coming' ≡ coming)
Fills old coming (Err halt.WouldBlock) new coming' = (new ≡ old) × (coming' ≡ coming)
Fills old coming (Err halt.Lost) new coming' = (new ≡ old) × (coming' ≡ coming)
Fills old coming (Err halt.NoMemory) new coming' = (new ≡ old) × (coming' ≡ coming)

-- What advancing did, where these bytes were read as records since the last one was handed out: of those ahead all were read, or
-- all up to the end of a whole record; or a header in them passes a limit; or memory was wanted, and nothing has changed.
abbrev pub Advances : List ℕ → ConnectionState → Result (Unit {0}) RecordFault → ConnectionState → Type 0
Advances fed old (Ok x) new = (n : ℕ) × Takes fed old.ahead n new.front × (new ≡ with_front old new.front (drop n old.ahead))
Advances fed old (Err fault.TooLong) new = (front_of (fed ++ old.ahead) ≡ TooLong) × (new ≡ with_front old TooLong old.ahead)
Advances fed old (Err fault.TooManyFragments) new = (front_of (fed ++ old.ahead) ≡ TooManyFragments) × (new ≡ with_front old TooManyFragments old.ahead)
Advances fed old (Err fault.NoMemory) new = new ≡ old

-- What handing out did: the record that is whole, and a call is one more unanswered; or none is whole.
abbrev pub Hands : ConnectionState → Option (List ℕ) → ConnectionState → Type 0
Hands old (Some message) new = (old.front ≡ Whole message []) × (new ≡ with_unanswered (with_front old (front_of []) old.ahead) (unanswered_behind message old.unanswered))
Hands old None new = (is_whole old.front ≡ false) × (new ≡ old)

-- what putting a message did: its record stands behind what is to go, and with a reply one fewer is unanswered; or memory was wanted
abbrev pub PutsRecord : ConnectionState → List ℕ → Result (Unit {0}) NoMemory → ConnectionState → Type 0
PutsRecord old message (Ok x) new = new ≡ with_unanswered (with_to_go old (old.to_go ++ record_bytes message)) (unanswered_after message old.unanswered)
PutsRecord old message (Err e) new = new ≡ old

-- one call gets no answer
abbrev pub excused : ConnectionState → ConnectionState
excused s = with_unanswered s (s.unanswered - 1)

-- what draining did: of what is to go some went to the stream
pub record Drains (old : ConnectionState) (gone : Option (List ℕ)) (result : Result (Unit {0}) Halt) (new : ConnectionState) (gone' : Option (List ℕ)) : Type 0 where
  pub writes : WritesOut old.to_go gone result new.to_go gone'
  pub rest : new ≡ with_to_go old new.to_go

-- ---- whole streams

-- These bytes came, and these records of them were handed out in order.
pub record HasCome (came : List ℕ) (messages : List (List ℕ)) (s : ConnectionState) : Type 0 where
  pub read : List ℕ
  pub all : read ++ s.ahead ≡ came
  pub given : HasGiven read messages s.front

-- These bytes went, and with those that are to go they are the records of these messages in order.
abbrev pub HasGone : List ℕ → List (List ℕ) → ConnectionState → Type 0
HasGone went sent s = went ++ s.to_go ≡ flat_map record_bytes sent
