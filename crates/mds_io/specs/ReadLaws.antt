-- What holds of a read in every run of it, told by what was sent and answered (RFC 8881, section 18.22; RFC 1813, section 3.3.6).
use Rattle.std.specs.Prelude.{◌≡◌, ℕ, ◌+◌, Bool, false, ◌==◌, List, [], ◌∷◌, ◌++◌, map, Option, Some, None, fold, nat_lt, if◌then◌else◌}
use Rattle.cluster_model.specs.declared.limits.TheConstants.{MAX_TIMEOUTS}
use Rattle.cluster_model.specs.declared.ids.Mirror.{Mirror}
use Rattle.cluster_model.specs.declared.ids.MirrorId.{MirrorId}
use Rattle.cluster_model.specs.declared.phase.LeftCause.{LeftCause}
use Rattle.cluster_model.specs.declared.phase.LeftCause.TheVariants.{Error, Timeouts}
use Rattle.cluster_model.specs.declared.ds_call.Shown.{Shown}
use Rattle.cluster_model.specs.DsCalls.{Read, DsReplyValue, Created, Set, Written, Committed, Bytes, NotSync, Failed}
use Rattle.cluster_model.specs.Fences.{odd_status}
use Rattle.cluster_model.specs.Phases.{ids_of}
use Rattle.mds_io.specs.declared.read_end.Failure.{Failure}
use Rattle.mds_io.specs.declared.read_end.ReadEnd.{ReadEnd}
use Rattle.mds_io.specs.declared.read_end.ReadEnd.TheVariants as end
use Rattle.mds_io.specs.Reads.{ReadState, new_read, begun_again, ReadSends, next_sent, after_reply, after_timeout}

-- ---- runs

pub data ReadMove : Type 0 where
  -- the next READ, under a number of which none is outstanding
  SendsOne : (xid : ℕ) → ReadMove
  TakesReply : (xid : ℕ) (reply : DsReplyValue) → ReadMove
  TakesTimeout : (xid : ℕ) → ReadMove
  BeginsAgain : (live : List Mirror) → ReadMove

-- what came to pass since it began, or began again, as it is seen outside
pub data ReadNote : Type 0 where
  WasSent : (id : MirrorId) (xid : ℕ) → ReadNote
  -- an answer came, or a timeout, be the call outstanding or not
  WasAnswered : (xid : ℕ) (reply : DsReplyValue) → ReadNote
  WasLate : (xid : ℕ) → ReadNote

pub record ReadRun : Type 0 where
  pub read : ReadState
  -- the latest first
  pub notes : List ReadNote

abbrev pub sent_noted : ReadRun → ℕ → Option ReadSends → ReadRun
sent_noted run xid None = run
sent_noted run xid (Some s) = record { read = s.read; notes = WasSent s.id xid ∷ run.notes }

abbrev pub read_moved : ReadRun → ReadMove → ReadRun
read_moved run (SendsOne xid) = sent_noted run xid (next_sent run.read xid)
read_moved run (TakesReply xid reply) = record { read = (after_reply run.read xid reply).read; notes = WasAnswered xid reply ∷ run.notes }
read_moved run (TakesTimeout xid) = record { read = (after_timeout run.read xid).read; notes = WasLate xid ∷ run.notes }
read_moved run (BeginsAgain live) = record { read = begun_again run.read live; notes = [] }

abbrev pub read_run : List Mirror → ℕ → ℕ → List ReadMove → ReadRun
read_run live at count moves = fold read_moved (record { read = new_read live at count; notes = [] }) moves

-- ---- what the notes tell

-- the READ that is out, and how often it has timed out
pub record OutRead : Type 0 where
  pub id : MirrorId
  pub xid : ℕ
  pub timeouts : ℕ

abbrev pub answered_once : ℕ → Option OutRead → Option OutRead
answered_once own None = None
answered_once own (Some o) = if own == o.xid then None else Some o

abbrev pub late_once : ℕ → Option OutRead → Option OutRead
late_once own None = None
late_once own (Some o) =
    if own == o.xid
    then (if nat_lt (o.timeouts + 1) MAX_TIMEOUTS then Some (record { id = o.id; xid = o.xid; timeouts = o.timeouts + 1 }) else None)
    else Some o

abbrev pub read_out : List ReadNote → Option OutRead
read_out [] = None
read_out (WasSent id xid ∷ before) = Some (record { id = id; xid = xid; timeouts = 0 })
read_out (WasAnswered own reply ∷ before) = answered_once own (read_out before)
read_out (WasLate own ∷ before) = late_once own (read_out before)

-- why an answer is none that gives the bytes
abbrev pub error_of : DsReplyValue → Option LeftCause
error_of (Bytes shown eof bytes) = None
error_of (Failed status shown) = Some (Error status)
error_of (Created fileid shown) = Some (Error odd_status)
error_of (Set shown) = Some (Error odd_status)
error_of (Written shown verifier) = Some (Error odd_status)
error_of (Committed shown verifier) = Some (Error odd_status)
error_of (NotSync shown) = Some (Error odd_status)

abbrev pub failed_for : OutRead → Option LeftCause → List Failure
failed_for o None = []
failed_for o (Some cause) = record { id = o.id; xid = o.xid; cause = cause } ∷ []

-- an answer to the READ that is out, which does not give the bytes
abbrev pub failed_by_answer : ℕ → DsReplyValue → Option OutRead → List Failure
failed_by_answer own reply None = []
failed_by_answer own reply (Some o) = if own == o.xid then failed_for o (error_of reply) else []

-- the third timeout of the READ that is out
abbrev pub failed_by_timeout : ℕ → Option OutRead → List Failure
failed_by_timeout own None = []
failed_by_timeout own (Some o) = if own == o.xid then (if o.timeouts + 1 == MAX_TIMEOUTS then failed_for o (Some Timeouts) else []) else []

-- the mirrors that failed, in order
abbrev pub failures_told : List ReadNote → List Failure
failures_told [] = []
failures_told (WasSent id xid ∷ before) = failures_told before
failures_told (WasAnswered own reply ∷ before) = failures_told before ++ failed_by_answer own reply (read_out before)
failures_told (WasLate own ∷ before) = failures_told before ++ failed_by_timeout own (read_out before)

-- the READ of this number is out
abbrev pub is_read_out : ℕ → Option OutRead → Bool
is_read_out xid None = false
is_read_out xid (Some o) = xid == o.xid

-- ---- the promises

abbrev pub ids_failed : List Failure → List MirrorId
ids_failed failures = map (λ f. f.id) failures

-- It ends for want of bytes just where this answer, or this timeout, was the last of the mirrors' failures.
abbrev pub AllHaveFailed : List Mirror → List ReadNote → List ReadNote → Type 0
AllHaveFailed live before after = (failures_told before ≡ failures_told after → ⊥) × (ids_failed (failures_told after) ≡ ids_of live)

-- how an answer or a timeout, behind which the notes are these, may end it
abbrev pub EndsAs : List Mirror → List ReadNote → List ReadNote → Option DsReplyValue → Option ReadEnd → Type 0
EndsAs live before after reply None = AllHaveFailed live before after → ⊥
EndsAs live before after reply (Some (end.AllFailed failures)) = (failures ≡ failures_told after) × AllHaveFailed live before after
EndsAs live before after reply (Some (end.Bytes eof bytes)) = (shown : Option Shown) × (reply ≡ Some (Bytes shown eof bytes))

-- an answer that gives the bytes ends it, where its READ is out
abbrev pub GivesBytes : List ReadNote → ℕ → DsReplyValue → Option ReadEnd → Type 0
GivesBytes notes xid reply ended = (shown : Option Shown) (eof : Bool) (bytes : List ℕ) → reply ≡ Bytes shown eof bytes → ended ≡ (if is_read_out xid (read_out notes) then Some (end.Bytes eof bytes) else None)

-- a READ goes to the mirror behind those that failed, while none is out
pub record IsNextRead (live : List Mirror) (at count : ℕ) (notes : List ReadNote) (s : ReadSends) : Type 0 where
  pub alone : read_out notes ≡ None
  pub asks : s.call ≡ Read s.id.fileid at count
  pub others : (behind : List MirrorId) × (ids_of live ≡ ids_failed (failures_told notes) ++ s.id ∷ behind)

-- the live list of a run: that with which it began last
abbrev pub live_then : List Mirror → ReadMove → List Mirror
live_then live (SendsOne xid) = live
live_then live (TakesReply xid reply) = live
live_then live (TakesTimeout xid) = live
live_then live (BeginsAgain mirrors) = mirrors

abbrev pub live_last : List Mirror → List ReadMove → List Mirror
live_last live moves = fold live_then live moves

pub record ReadLaw : Type 0 where
  pub failures : (live : List Mirror) (at count : ℕ) (moves : List ReadMove) → (read_run live at count moves).read.failures ≡ failures_told (read_run live at count moves).notes
  pub answers : (live : List Mirror) (at count : ℕ) (moves : List ReadMove) (xid : ℕ) (reply : DsReplyValue)
      → let run = read_run live at count moves in
      EndsAs (live_last live moves) run.notes (WasAnswered xid reply ∷ run.notes) (Some reply) (after_reply run.read xid reply).end
      × GivesBytes run.notes xid reply (after_reply run.read xid reply).end
  pub timeouts : (live : List Mirror) (at count : ℕ) (moves : List ReadMove) (xid : ℕ)
      → let run = read_run live at count moves in
      EndsAs (live_last live moves) run.notes (WasLate xid ∷ run.notes) None (after_timeout run.read xid).end
  pub sends : (live : List Mirror) (at count : ℕ) (moves : List ReadMove) (xid : ℕ) (s : ReadSends)
      → next_sent (read_run live at count moves).read xid ≡ Some s → IsNextRead (live_last live moves) at count (read_run live at count moves).notes s
