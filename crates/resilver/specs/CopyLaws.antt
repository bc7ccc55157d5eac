-- What holds of a copy in every run of it, told by what was sent and answered (RFC 8435, section 8.3; RFC 1813, sections 3.3.6 to 3.3.8).
use Rattle.std.specs.Prelude.{◌≡◌, ℕ, ◌+◌, Bool, true, false, not, ◌==◌, ◌&&◌, ◌||◌, List, [], ◌∷◌, ◌++◌, length, map, filter, Option, Some, None, fold, nat_lt, if◌then◌else◌}
use Rattle.std.specs.List.{All, AllPairs, flat_map}
use Rattle.cluster_model.specs.declared.limits.TheConstants.{MAX_FILE, MAX_TIMEOUTS}
use Rattle.cluster_model.specs.declared.tick.Tick.{Tick}
use Rattle.cluster_model.specs.declared.ids.MirrorId.{MirrorId}
use Rattle.cluster_model.specs.declared.ds_call.Shown.{Shown}
use Rattle.cluster_model.specs.declared.phase.LeftCause.{LeftCause}
use Rattle.cluster_model.specs.declared.targets.SwappedIn.{SwappedIn}
use Rattle.cluster_model.specs.Content.{Pending, overlay}
use Rattle.cluster_model.specs.DsCalls.{DsCallValue, Create, SetAttr, Write, Commit, Read, DsReplyValue, Created, Set, Written, Committed, Bytes, NotSync, Failed}
use Rattle.copy_rule.specs.declared.copy_target.Target.{Target}
use Rattle.copy_rule.specs.declared.copy_target.CopyStep.TheVariants.{SourceFailed}
use Rattle.copy_rule.specs.Copies.{CopyState, CopyCall, CopyAfter, new_copy, next_call, on_reply, on_timeout, after_tick, has_outcome, outcome}
use Rattle.resilver.specs.Calls.{caller_of}

-- ---- runs

pub data CopyMove : Type 0 where
  -- the next call, under a number of which none was sent before
  SendsOne : (xid : ℕ) → CopyMove
  TakesReply : (xid : ℕ) (reply : DsReplyValue) → CopyMove
  TakesTimeout : (xid : ℕ) → CopyMove
  Ticks : CopyMove

-- what came to pass, as it is seen outside
pub data CopyNote : Type 0 where
  WasSent : (server xid : ℕ) (call : DsCallValue) → CopyNote
  -- an answer came, or a timeout, be the call outstanding or not
  WasAnswered : (xid : ℕ) (reply : DsReplyValue) → CopyNote
  WasLate : (xid : ℕ) → CopyNote
  HasTicked : CopyNote

pub record CopyRun : Type 0 where
  pub copy : CopyState
  -- the latest first
  pub notes : List CopyNote

abbrev pub was_sent : List CopyNote → ℕ → Bool
was_sent [] xid = false
was_sent (WasSent server own call ∷ before) xid = (own == xid) || was_sent before xid
was_sent (WasAnswered own reply ∷ before) xid = was_sent before xid
was_sent (WasLate own ∷ before) xid = was_sent before xid
was_sent (HasTicked ∷ before) xid = was_sent before xid

abbrev pub sent_noted : CopyRun → ℕ → Option CopyCall → CopyRun
sent_noted run xid None = run
sent_noted run xid (Some call) = record { copy = call.copy; notes = WasSent call.server xid call.call ∷ run.notes }

abbrev pub copy_moved : CopyRun → CopyMove → CopyRun
copy_moved run (SendsOne xid) = if was_sent run.notes xid then run else sent_noted run xid (next_call run.copy xid)
copy_moved run (TakesReply xid reply) = record { copy = (on_reply run.copy xid reply).copy; notes = WasAnswered xid reply ∷ run.notes }
copy_moved run (TakesTimeout xid) = record { copy = (on_timeout run.copy xid).copy; notes = WasLate xid ∷ run.notes }
copy_moved run Ticks = record { copy = after_tick run.copy; notes = HasTicked ∷ run.notes }

abbrev pub copy_run : MirrorId → List Target → ℕ → List CopyMove → CopyRun
copy_run source plan copier moves = fold copy_moved (record { copy = new_copy source plan copier; notes = [] }) moves

-- ---- what the notes tell

-- a call that is out, and how often it has timed out
pub record CopyCallOut : Type 0 where
  pub server : ℕ
  pub call : DsCallValue
  pub timeouts : ℕ

-- a READ is never given up: it is kept
abbrev pub is_read : DsCallValue → Bool
is_read (Read fileid at count) = true
is_read (Create name owner) = false
is_read (SetAttr fileid owner guard) = false
is_read (Write fileid at synced bytes) = false
is_read (Commit fileid) = false

abbrev pub late_once : Option CopyCallOut → Option CopyCallOut
late_once None = None
late_once (Some o) =
    if is_read o.call then Some o
    else (if nat_lt (o.timeouts + 1) MAX_TIMEOUTS then Some (record { server = o.server; call = o.call; timeouts = o.timeouts + 1 }) else None)

-- the call that is out under a number
abbrev pub call_out : List CopyNote → ℕ → Option CopyCallOut
call_out [] xid = None
call_out (WasSent server own call ∷ before) xid = if own == xid then Some (record { server = server; call = call; timeouts = 0 }) else call_out before xid
call_out (WasAnswered own reply ∷ before) xid = if own == xid then None else call_out before xid
call_out (WasLate own ∷ before) xid = if own == xid then late_once (call_out before xid) else call_out before xid
call_out (HasTicked ∷ before) xid = call_out before xid

-- a piece of the source: where it stands, its bytes, and whether the file ends behind it
pub record Piece : Type 0 where
  pub at : ℕ
  pub bytes : List ℕ
  pub eof : Bool

-- an answer to a READ counts unless it has more bytes than were asked for, or some past the end of the longest file
abbrev pub piece_read : ℕ → ℕ → List ℕ → Bool → List Piece
piece_read at count bytes eof = if nat_lt count (length bytes) || nat_lt MAX_FILE (at + length bytes) then [] else record { at = at; bytes = bytes; eof = eof } ∷ []

abbrev pub piece_of_call : DsCallValue → List ℕ → Bool → List Piece
piece_of_call (Read fileid at count) bytes eof = piece_read at count bytes eof
piece_of_call (Create name owner) bytes eof = []
piece_of_call (SetAttr fileid owner guard) bytes eof = []
piece_of_call (Write fileid at synced written) bytes eof = []
piece_of_call (Commit fileid) bytes eof = []

abbrev pub piece_in : DsReplyValue → Option CopyCallOut → List Piece
piece_in (Bytes shown eof bytes) (Some o) = piece_of_call o.call bytes eof
piece_in (Bytes shown eof bytes) None = []
piece_in (Created fileid shown) o = []
piece_in (Set shown) o = []
piece_in (Written shown verifier) o = []
piece_in (Committed shown verifier) o = []
piece_in (NotSync shown) o = []
piece_in (Failed status shown) o = []

-- what was READ from the source, in order
abbrev pub pieces_read : List CopyNote → List Piece
pieces_read [] = []
pieces_read (WasSent server xid call ∷ before) = pieces_read before
pieces_read (WasAnswered xid reply ∷ before) = pieces_read before ++ piece_in reply (call_out before xid)
pieces_read (WasLate xid ∷ before) = pieces_read before
pieces_read (HasTicked ∷ before) = pieces_read before

-- the FILE_SYNC WRITE to a file of a server that was answered OK
abbrev pub write_of_call : MirrorId → ℕ → DsCallValue → List Pending
write_of_call id server (Write fileid at synced bytes) = if (server == id.server) && ((fileid == id.fileid) && synced) then record { at = at; bytes = bytes } ∷ [] else []
write_of_call id server (Create name owner) = []
write_of_call id server (SetAttr fileid owner guard) = []
write_of_call id server (Commit fileid) = []
write_of_call id server (Read fileid at count) = []

abbrev pub write_in : MirrorId → DsReplyValue → Option CopyCallOut → List Pending
write_in id (Written shown verifier) (Some o) = write_of_call id o.server o.call
write_in id (Written shown verifier) None = []
write_in id (Created fileid shown) o = []
write_in id (Set shown) o = []
write_in id (Committed shown verifier) o = []
write_in id (Bytes shown eof bytes) o = []
write_in id (NotSync shown) o = []
write_in id (Failed status shown) o = []

-- what a file has taken, in order
abbrev pub writes_taken : MirrorId → List CopyNote → List Pending
writes_taken id [] = []
writes_taken id (WasSent server xid call ∷ before) = writes_taken id before
writes_taken id (WasAnswered xid reply ∷ before) = writes_taken id before ++ write_in id reply (call_out before xid)
writes_taken id (WasLate xid ∷ before) = writes_taken id before
writes_taken id (HasTicked ∷ before) = writes_taken id before

-- this CREATE, of a name of the copy's plan, was answered with this fileid
abbrev pub creates : ℕ → ℕ → DsCallValue → Bool
creates name copier (Create own owner) = (own == name) && (owner == copier)
creates name copier call = false

abbrev pub is_creation : MirrorId → ℕ → ℕ → DsReplyValue → Option CopyCallOut → Bool
is_creation id name copier (Created fileid shown) (Some o) = (o.server == id.server) && ((fileid == id.fileid) && creates name copier o.call)
is_creation id name copier reply o = false

abbrev pub was_created : MirrorId → ℕ → ℕ → List CopyNote → Bool
was_created id name copier [] = false
was_created id name copier (WasSent server xid call ∷ before) = was_created id name copier before
was_created id name copier (WasAnswered xid reply ∷ before) = is_creation id name copier reply (call_out before xid) || was_created id name copier before
was_created id name copier (WasLate xid ∷ before) = was_created id name copier before
was_created id name copier (HasTicked ∷ before) = was_created id name copier before

-- ---- the ctime last seen

abbrev pub tick_of : Option Shown → Option Tick
tick_of None = None
tick_of (Some shown) = Some shown.seen

abbrev pub is_create : DsCallValue → Bool
is_create (Create name owner) = true
is_create (SetAttr fileid owner guard) = false
is_create (Write fileid at synced bytes) = false
is_create (Commit fileid) = false
is_create (Read fileid at count) = false

abbrev pub is_write_to : ℕ → DsCallValue → Bool
is_write_to file (Write fileid at synced bytes) = fileid == file
is_write_to file (Create name owner) = false
is_write_to file (SetAttr fileid owner guard) = false
is_write_to file (Commit fileid) = false
is_write_to file (Read fileid at count) = false

-- what an OK answer to the CREATE of a file, or to a WRITE to it, shows
abbrev pub seen_in : MirrorId → DsReplyValue → Option CopyCallOut → Option Tick
seen_in id (Created fileid shown) (Some o) = if (o.server == id.server) && ((fileid == id.fileid) && is_create o.call) then Some shown.seen else None
seen_in id (Created fileid shown) None = None
seen_in id (Written shown verifier) (Some o) = if (o.server == id.server) && is_write_to id.fileid o.call then tick_of shown else None
seen_in id (Written shown verifier) None = None
seen_in id (Set shown) o = None
seen_in id (Committed shown verifier) o = None
seen_in id (Bytes shown eof bytes) o = None
seen_in id (NotSync shown) o = None
seen_in id (Failed status shown) o = None

abbrev pub later_of : Option Tick → Option Tick → Option Tick
later_of None before = before
later_of (Some tick) before = Some tick

abbrev pub last_seen : MirrorId → List CopyNote → Option Tick
last_seen id [] = None
last_seen id (WasSent server xid call ∷ before) = last_seen id before
last_seen id (WasAnswered xid reply ∷ before) = later_of (seen_in id reply (call_out before xid)) (last_seen id before)
last_seen id (WasLate xid ∷ before) = last_seen id before
last_seen id (HasTicked ∷ before) = last_seen id before

-- ---- the promises

-- Each piece stands where the one before it ends, from 0 on, and behind the one that ends the source none was read.
abbrev pub AreInTurn : ℕ → List Piece → Type 0
AreInTurn at [] = Unit {0}
AreInTurn at (p ∷ pieces) = (p.at ≡ at) × ((p.eof ≡ true → pieces ≡ []) × AreInTurn (at + length p.bytes) pieces)

abbrev pub said_end : List Piece → Bool
said_end [] = false
said_end (p ∷ pieces) = p.eof || said_end pieces

-- the bytes of the source, as far as they were read
abbrev pub bytes_read : List Piece → List ℕ
bytes_read pieces = flat_map (λ p. p.bytes) pieces

-- a piece of no bytes needs no WRITE
abbrev pub write_for : Piece → List ℕ → List Pending
write_for p [] = []
write_for p (b ∷ bytes) = record { at = p.at; bytes = b ∷ bytes } ∷ []

abbrev pub writes_for : List Piece → List Pending
writes_for pieces = flat_map (λ p. write_for p p.bytes) pieces

-- what a fresh file shows behind writes
abbrev pub shown_by : List Pending → List ℕ
shown_by writes = fold (λ bytes w. overlay bytes w.at w.bytes) [] writes

-- A mirror that is swapped in was made by a CREATE of the plan, on its server, and has taken each piece that was read, in order, so it
-- shows the source's bytes; and its ctime is the one last seen there.
pub record HoldsSource (plan : List Target) (copier : ℕ) (notes : List CopyNote) (t : SwappedIn) : Type 0 where
  pub target : Target
  pub planned : (before behind : List Target) × (plan ≡ before ++ target ∷ behind)
  pub server : target.server ≡ t.new.id.server
  pub replaces : target.replaced ≡ t.old
  pub made : was_created t.new.id target.name copier notes ≡ true
  pub taken : writes_taken t.new.id notes ≡ writes_for (pieces_read notes)
  pub shows : shown_by (writes_taken t.new.id notes) ≡ bytes_read (pieces_read notes)
  pub seen : last_seen t.new.id notes ≡ Some t.new.seen

-- ---- which targets are left

-- this answer is none that was wanted; of a READ none loses a target
abbrev pub fails_call : DsCallValue → DsReplyValue → Bool
fails_call (Create name owner) (Created fileid shown) = false
fails_call (Create name owner) reply = true
fails_call (Write fileid at synced bytes) (Written shown verifier) = false
fails_call (Write fileid at synced bytes) reply = true
fails_call (SetAttr fileid owner guard) reply = false
fails_call (Commit fileid) reply = false
fails_call (Read fileid at count) reply = false

abbrev pub lost_by_answer : ℕ → DsReplyValue → Option CopyCallOut → Bool
lost_by_answer server reply None = false
lost_by_answer server reply (Some o) = (o.server == server) && fails_call o.call reply

abbrev pub lost_by_timeout : ℕ → Option CopyCallOut → Bool
lost_by_timeout server None = false
lost_by_timeout server (Some o) = (o.server == server) && (not (is_read o.call) && (o.timeouts + 1 == MAX_TIMEOUTS))

-- the target on this server failed: its CREATE or a WRITE had an error, or a third timeout
abbrev pub was_lost : ℕ → List CopyNote → Bool
was_lost server [] = false
was_lost server (WasSent s xid call ∷ before) = was_lost server before
was_lost server (WasAnswered xid reply ∷ before) = lost_by_answer server reply (call_out before xid) || was_lost server before
was_lost server (WasLate xid ∷ before) = lost_by_timeout server (call_out before xid) || was_lost server before
was_lost server (HasTicked ∷ before) = was_lost server before

abbrev pub are_left : List Target → List CopyNote → List Target
are_left plan notes = filter (λ (t : Target). not (was_lost t.server notes)) plan

-- An outcome: the targets that are left, in the plan's order. Where one is, the source said end, and each of them holds its bytes.
pub record HasOutcome (plan : List Target) (copier : ℕ) (notes : List CopyNote) (targets : List SwappedIn) : Type 0 where
  pub left : map (λ (t : SwappedIn). t.new.id.server) targets ≡ map (λ (t : Target). t.server) (are_left plan notes)
  pub ended : (are_left plan notes ≡ [] → ⊥) → said_end (pieces_read notes) ≡ true
  pub hold : All (HoldsSource plan copier notes) targets

-- No outcome: a target is left, and the source has not said end or this target has not taken each piece.
pub record IsUnfinished (plan : List Target) (copier : ℕ) (notes : List CopyNote) : Type 0 where
  pub target : Target
  pub left : (before behind : List Target) × (are_left plan notes ≡ before ++ target ∷ behind)
  pub misses : said_end (pieces_read notes) ≡ true → (id : MirrorId) → id.server ≡ target.server → was_created id target.name copier notes ≡ true
      → writes_taken id notes ≡ writes_for (pieces_read notes) → ⊥

-- no two targets are on one server
abbrev pub AreTargetsApart : List Target → Type 0
AreTargetsApart plan = AllPairs (λ a b. a.server ≡ b.server → ⊥) plan

-- nothing goes out behind a source that failed until the next tick
abbrev pub IsQuiet : CopyAfter → Type 0
IsQuiet a = (cause : LeftCause) → a.step ≡ SourceFailed cause → (xid : ℕ) → next_call a.copy xid ≡ None

pub record CopyLaw : Type 0 where
  pub in_turn : (source : MirrorId) (plan : List Target) (copier : ℕ) (moves : List CopyMove) → AreInTurn 0 (pieces_read (copy_run source plan copier moves).notes)
  pub outcomes : (source : MirrorId) (plan : List Target) (copier : ℕ) (moves : List CopyMove) (targets : List SwappedIn) → AreTargetsApart plan
      → outcome (copy_run source plan copier moves).copy ≡ Some targets → HasOutcome plan copier (copy_run source plan copier moves).notes targets
  pub goes_on : (source : MirrorId) (plan : List Target) (copier : ℕ) (moves : List CopyMove) → AreTargetsApart plan
      → outcome (copy_run source plan copier moves).copy ≡ None → IsUnfinished plan copier (copy_run source plan copier moves).notes
  pub quiet_reply : (source : MirrorId) (plan : List Target) (copier : ℕ) (moves : List CopyMove) (xid : ℕ) (reply : DsReplyValue) → IsQuiet (on_reply (copy_run source plan copier moves).copy xid reply)
  pub quiet_timeout : (source : MirrorId) (plan : List Target) (copier : ℕ) (moves : List CopyMove) (xid : ℕ) → IsQuiet (on_timeout (copy_run source plan copier moves).copy xid)
  -- an outcome stays, whatever comes, and nothing goes out once it is there, also where no target is left
  pub outcome_stays : (source : MirrorId) (plan : List Target) (copier : ℕ) (before behind : List CopyMove) (targets : List SwappedIn)
      → outcome (copy_run source plan copier before).copy ≡ Some targets → outcome (fold copy_moved (copy_run source plan copier before) behind).copy ≡ Some targets
  pub quiet_outcome : (c : CopyState) (xid : ℕ) → has_outcome c ≡ true → next_call c xid ≡ None
  pub callers : (c : CopyState) (xid : ℕ) (call : CopyCall) → next_call c xid ≡ Some call → call.uid ≡ caller_of c.copier call.call
