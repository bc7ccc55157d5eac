-- A connection under its number: what came and what goes, its times, and what may be tried on it.
use Rattle.std.specs.Prelude.{◌≡◌, ◌≢◌, ℕ, ◌+◌, ◌==◌, nat_lt, nat_le, Bool, true, false, ◌&&◌, ◌||◌, not, List, [], length, Option, None, Some, Result, Ok, Err}
use Rattle.record_link.specs.declared.peer.TheConstants.{HIGH_WATER, MOST_WAITING, SPARE_LIMIT, STUCK_LIMIT}
use Rattle.ff_xdr.specs.declared.error.NoMemory.{NoMemory}
use Rattle.rpc_record.specs.declared.frames.RecordFault.{RecordFault}
use Rattle.rpc_record.specs.declared.frames.RecordFault.TheVariants as fault
use Rattle.rpc_record.specs.Frames.{front_of, is_whole}
use Rattle.record_link.specs.declared.stream.Halt.{Halt}
use Rattle.record_link.specs.declared.stream.Halt.TheVariants as halt
use Rattle.record_link.specs.Stream.{lost_more}
use Rattle.record_link.specs.Connection.{ConnectionState, new_connection, is_spent, excused, Fills, Advances, Hands, PutsRecord, Drains}

-- A connection under its number, given once: what came and what goes; when it was opened or last heard, in milliseconds; from when to
-- when what is to go would not go, at each try; whether it may be readable, and writable; whether its stream is of no use any more; and
-- what its own stream tells: the bytes that are to come, those that went, and how many of its calls found it of no use.
pub record PeerState : Type 0 where
  pub number : ℕ
  pub connection : ConnectionState
  pub heard : ℕ
  pub stalled : Option (ℕ × ℕ)
  pub readable : Bool
  pub writable : Bool
  pub lost : Bool
  pub coming : Option (List ℕ)
  pub gone : Option (List ℕ)
  pub faults : ℕ

-- the peer of a new connection, whose stream tells this: anything may be tried
abbrev pub new_peer : ℕ → ℕ → Option (List ℕ) → Option (List ℕ) → ℕ → PeerState
new_peer number now coming gone faults = record {
  number = number;
  connection = new_connection;
  heard = now;
  stalled = None;
  readable = true;
  writable = true;
  lost = false;
  coming = coming;
  gone = gone;
  faults = faults;
}

-- ---- what is to be done with it

-- a record of it may be handed out
abbrev pub is_ready : PeerState → Bool
is_ready e = is_whole e.connection.front && (nat_le (length e.connection.to_go) HIGH_WATER && not e.lost)

-- more is to be read from it: no record of it waits, it has not ended, and it reads what it is sent
abbrev pub wants_bytes : PeerState → Bool
wants_bytes e = not (is_whole e.connection.front) && (not (is_spent e.connection) && nat_le (length e.connection.to_go) HIGH_WATER)

-- it is to be read now
abbrev pub is_to_read : PeerState → Bool
is_to_read e = e.readable && (not e.lost && wants_bytes e)

-- what would not go is tried again after two seconds, whatever the network says
abbrev pub is_to_retry : ℕ → Option (ℕ × ℕ) → Bool
is_to_retry now None = false
is_to_retry now (Some times) = nat_le (times.0 + STUCK_LIMIT) now

-- it is to be written now
abbrev pub is_to_write : ℕ → PeerState → Bool
is_to_write now e = not (length e.connection.to_go == 0) && (not e.lost && (e.writable || is_to_retry now e.stalled))

-- at each try for two seconds nothing of what waits went
abbrev pub has_stalled : Option (ℕ × ℕ) → Bool
has_stalled None = false
has_stalled (Some times) = nat_le (times.0 + STUCK_LIMIT) times.1

-- it takes nothing of what waits, or more waits than may
abbrev pub is_stuck : PeerState → Bool
is_stuck e = nat_lt MOST_WAITING (length e.connection.to_go) || has_stalled e.stalled

-- no more records come, nothing is to go, and all is answered
abbrev pub is_finished : PeerState → Bool
is_finished e = is_spent e.connection && ((length e.connection.to_go == 0) && (e.connection.unanswered == 0))

-- it is to be closed
abbrev pub is_to_close : PeerState → Bool
is_to_close e = e.lost || (is_stuck e || is_finished e)

-- It may be closed to make room for another: it has sent nothing for ten seconds, nothing is to go, and all is answered.
abbrev pub is_spare : ℕ → PeerState → Bool
is_spare now e = nat_le (e.heard + SPARE_LIMIT) now && (not (is_whole e.connection.front) && ((length e.connection.to_go == 0) && (e.connection.unanswered == 0)))

-- ---- what the calls do to it

-- anything may be tried again
abbrev pub resumed : PeerState → PeerState
resumed e = record e { readable = true; writable = true }

-- one call of it gets no answer
abbrev pub excused_peer : PeerState → PeerState
excused_peer e = record e { connection = excused e.connection }

-- the bytes ahead were read as records, as far as that goes without memory being wanted
abbrev pub ReadsAhead : ConnectionState → ConnectionState → Type 0
ReadsAhead old new = (r : Result (Unit {0}) RecordFault) × (r ≢ Err fault.NoMemory) × ((fed : List ℕ) → old.front ≡ front_of fed → Advances fed old r new)

-- What filling from its own stream did at this time: bytes came and were read; the peer has ended its side; nothing can be read now; or
-- the stream is of no use. Where memory was wanted, bytes may have come that are still ahead.
abbrev pub FillsPeer : ℕ → PeerState → Result (Unit {0}) Halt → PeerState → Type 0
FillsPeer now old (Ok x) new =
    (n : ℕ) × (mid : ConnectionState) × Fills old.connection old.coming (Ok n) mid new.coming × ReadsAhead mid new.connection
    × (new ≡ record old { connection = new.connection; heard = now; coming = new.coming })
FillsPeer now old (Err halt.Ended) new =
    Fills old.connection old.coming (Err halt.Ended) new.connection new.coming
    × (new ≡ record old { connection = new.connection; heard = now; readable = false; coming = new.coming })
FillsPeer now old (Err halt.WouldBlock) new = new ≡ record old { readable = false }
FillsPeer now old (Err halt.Lost) new = new ≡ record old { lost = true; faults = lost_more {T = Unit {0}} (Err halt.Lost) old.faults }
FillsPeer now old (Err halt.NoMemory) new =
    (r : Result ℕ Halt) × Fills old.connection old.coming r new.connection new.coming × (new.number ≡ old.number) × (new.gone ≡ old.gone)

-- What handing out did: the record that is whole, and the bytes behind it were read; where memory was wanted it is lost.
abbrev pub HandsPeer : PeerState → Result (Option (List ℕ)) NoMemory → PeerState → Type 0
HandsPeer old (Ok (Some message)) new =
    (mid : ConnectionState) × Hands old.connection (Some message) mid × ReadsAhead mid new.connection × (new ≡ record old { connection = new.connection })
HandsPeer old (Ok None) new = (is_whole old.connection.front ≡ false) × (new ≡ old)
HandsPeer old (Err e) new = (message : List ℕ) × Hands old.connection (Some message) new.connection × (new ≡ record old { connection = new.connection })

-- what putting a message did
abbrev pub PutsPeer : PeerState → List ℕ → Result (Unit {0}) NoMemory → PeerState → Type 0
PutsPeer old message (Ok x) new = PutsRecord old.connection message (Ok x) new.connection × (new ≡ record old { connection = new.connection })
PutsPeer old message (Err e) new = new ≡ old

-- from when to when what waits would not go, behind a try that would block, with some bytes moved before it or none
abbrev pub stall_after : ℕ → Bool → Option (ℕ × ℕ) → ℕ × ℕ
stall_after now true stalled = (now, now)
stall_after now false None = (now, now)
stall_after now false (Some times) = (times.0, now)

abbrev pub has_moved : ConnectionState → ConnectionState → Bool
has_moved old new = not (length new.to_go == length old.to_go)

-- what draining leaves of its times
abbrev pub after_drain : ℕ → PeerState → Result (Unit {0}) Halt → ConnectionState → PeerState
after_drain now e (Ok x) connection = record e { connection = connection; stalled = None }
after_drain now e (Err halt.WouldBlock) connection = record e { connection = connection; stalled = Some (stall_after now (has_moved e.connection connection) e.stalled); writable = false }
after_drain now e (Err halt.Ended) connection = record e { connection = connection; lost = true }
after_drain now e (Err halt.Lost) connection = record e { connection = connection; lost = true }
after_drain now e (Err halt.NoMemory) connection = record e { connection = connection; lost = true }

-- what draining to its own stream did at this time
pub record DrainsPeer (now : ℕ) (old new : PeerState) : Type 0 where
  pub result : Result (Unit {0}) Halt
  pub drains : Drains old.connection old.gone result new.connection new.gone
  pub rest : new ≡ record (after_drain now old result new.connection) { gone = new.gone; faults = lost_more result old.faults }

-- ---- a visit

-- it is written where it is to be
abbrev pub WritesIf : Bool → ℕ → PeerState → PeerState → Type 0
WritesIf false now old new = new ≡ old
WritesIf true now old new = DrainsPeer now old new

-- It is read once where it is to be. The answer is whether bytes came.
abbrev pub ReadsIf : Bool → ℕ → PeerState → Result Bool NoMemory → PeerState → Type 0
ReadsIf false now old result new = (result ≡ Ok false) × (new ≡ old)
ReadsIf true now old (Ok true) new = FillsPeer now old (Ok tt) new
ReadsIf true now old (Ok false) new = (h : Halt) × (h ≢ halt.NoMemory) × FillsPeer now old (Err h) new
ReadsIf true now old (Err e) new = FillsPeer now old (Err halt.NoMemory) new

-- What a visit at this time did: what is to go was written, and it was read once, where it was to be.
abbrev pub VisitsPeer : ℕ → PeerState → Result Bool NoMemory → PeerState → Type 0
VisitsPeer now old result new = (mid : PeerState) × WritesIf (is_to_write now old) now old mid × ReadsIf (is_to_read mid) now mid result new
