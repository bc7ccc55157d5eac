-- One layout's writes to all of its mirrors (RFC 8435, sections 5 and 8; RFC 1813, sections 3.3.7 and 3.3.21): what a writer has, and what
-- each call makes of it.
use Rattle.std.specs.Prelude.{ℕ, ◌+◌, Bool, true, false, ◌==◌, ◌&&◌, ◌||◌, not, List, [], ◌∷◌, ◌++◌, length, map, position, take, replicate, Option, Some, None, nat_lt, if◌then◌else◌, slice_get, slice_set}
use Rattle.std.specs.List.{list_all, list_any, filter, find}
use Rattle.cluster_model.specs.declared.ids.Mirror.{Mirror}
use Rattle.cluster_model.specs.declared.ids.MirrorId.{MirrorId}
use Rattle.cluster_model.specs.declared.phase.LeftCause.{LeftCause}
use Rattle.cluster_model.specs.declared.phase.LeftCause.TheVariants.{Error, Timeouts}
use Rattle.cluster_model.specs.DsCalls.{DsCallValue, Write, Commit, DsReplyValue, Created, Set, Written, Committed, Bytes, NotSync, Failed}
use Rattle.cluster_model.specs.Fences.{odd_status}
use Rattle.cluster_model.specs.Journal.{is_mirror}
use Rattle.mirror_writer.specs.declared.call.TakenWrite.{TakenWrite}
use Rattle.mirror_writer.specs.declared.call.WriteAnswer.{WriteAnswer}
use Rattle.mirror_writer.specs.declared.call.WriterCall.{WriterCall}
use Rattle.mirror_writer.specs.declared.call.WriterCall.TheVariants.{NoCall, OutWrite, OutCommit}
use Rattle.mirror_writer.specs.declared.call.NextCall.{NextCall}
use Rattle.mirror_writer.specs.declared.call.NextCall.TheVariants.{SendsWrite, SendsCommit}
use Rattle.mirror_writer.specs.declared.mirror.TheConstants.{ACCES, STALE}
use Rattle.mirror_writer.specs.declared.step.WriterStep.{WriterStep}
use Rattle.mirror_writer.specs.declared.step.WriterStep.TheVariants as step

-- ---- what a writer has

pub record WriterMirror : Type 0 where
  pub id : MirrorId
  -- the taken writes that wait to be sent, for the first time or again, in order
  pub queue : List ℕ
  pub call : WriterCall
  -- the last answers to those that are not covered, in order
  pub answered : List WriteAnswer
  -- for each taken write, whether it is covered
  pub covered : List Bool
  pub has_failed : Bool

pub record WriterValue : Type 0 where
  -- the uid that the calls carry
  pub cred : ℕ
  pub taken : List TakenWrite
  pub mirrors : List WriterMirror
  pub wants_commit : Bool
  -- a mirror answered that the layout is no more
  pub is_fenced : Bool

-- ---- a new writer

abbrev pub new_mirror : Mirror → WriterMirror
new_mirror mirror = record { id = mirror.id; queue = []; call = NoCall; answered = []; covered = []; has_failed = false }

abbrev pub new_writer : List Mirror → ℕ → WriterValue
new_writer mirrors cred = record { cred = cred; taken = []; mirrors = map new_mirror mirrors; wants_commit = false; is_fenced = false }

-- ---- a write is taken

-- two writes have a byte's place in common
abbrev pub touches : ℕ → ℕ → TakenWrite → Bool
touches at count w = nat_lt at (w.at + length w.bytes) && nat_lt w.at (at + count)

abbrev pub overlaps_taken : WriterValue → ℕ → ℕ → Bool
overlaps_taken s at count = list_any (touches at count) s.taken

abbrev pub queued : ℕ → WriterMirror → WriterMirror
queued n m = record { id = m.id; queue = m.queue ++ n ∷ []; call = m.call; answered = m.answered; covered = m.covered ++ false ∷ []; has_failed = m.has_failed }

abbrev pub with_write : WriterValue → ℕ → List ℕ → WriterValue
with_write s at bytes = record {
  cred = s.cred;
  taken = s.taken ++ (record { at = at; bytes = bytes }) ∷ [];
  mirrors = map (queued (length s.taken)) s.mirrors;
  wants_commit = s.wants_commit;
  is_fenced = s.is_fenced;
}

-- ---- who is committed

abbrev pub is_covered : Bool → Bool
is_covered covered = covered

-- each taken write is covered there
abbrev pub is_committed : WriterMirror → Bool
is_committed m = list_all is_covered m.covered

abbrev pub all_committed : WriterValue → Bool
all_committed s = list_all is_committed s.mirrors

-- each mirror that has not failed
abbrev pub open_committed : List WriterMirror → Bool
open_committed mirrors = list_all (λ m. m.has_failed || is_committed m) mirrors

abbrev pub rest_committed : WriterValue → Bool
rest_committed s = open_committed s.mirrors && list_any (λ m. not m.has_failed && is_committed m) s.mirrors

-- the wish to commit, which is no wish where all is committed
abbrev pub commit_wanted : WriterValue → WriterValue
commit_wanted s = record { cred = s.cred; taken = s.taken; mirrors = s.mirrors; wants_commit = not (all_committed s); is_fenced = s.is_fenced }

-- ---- the next call

abbrev pub next_idle : Bool → WriterMirror → List ℕ → Option NextCall
next_idle wants m (n ∷ queue) = Some (SendsWrite n)
next_idle wants m [] = if wants && not (is_committed m) then Some SendsCommit else None

-- one call is outstanding at a mirror; its COMMIT goes out behind the answers to its WRITEs
abbrev pub next_of_call : Bool → WriterMirror → WriterCall → Option NextCall
next_of_call wants m NoCall = next_idle wants m m.queue
next_of_call wants m (OutWrite xid write timeouts) = None
next_of_call wants m (OutCommit xid timeouts) = None

abbrev pub next_at : Bool → WriterMirror → Option NextCall
next_at wants m = if m.has_failed then None else next_of_call wants m m.call

abbrev pub is_some_call : Option NextCall → Bool
is_some_call None = false
is_some_call (Some next) = true

-- the first mirror to which a call waits
abbrev pub next_place : WriterValue → Option ℕ
next_place s = if s.is_fenced then None else position (λ m. is_some_call (next_at s.wants_commit m)) s.mirrors

-- the first of the queue is out
abbrev pub unqueued : List ℕ → List ℕ
unqueued [] = []
unqueued (n ∷ queue) = queue

abbrev pub with_out : ℕ → NextCall → WriterMirror → WriterMirror
with_out xid (SendsWrite n) m = record { id = m.id; queue = unqueued m.queue; call = OutWrite xid n 0; answered = m.answered; covered = m.covered; has_failed = m.has_failed }
with_out xid SendsCommit m = record { id = m.id; queue = m.queue; call = OutCommit xid 0; answered = m.answered; covered = m.covered; has_failed = m.has_failed }

abbrev pub with_writer_mirrors : WriterValue → List WriterMirror → WriterValue
with_writer_mirrors s mirrors = record { cred = s.cred; taken = s.taken; mirrors = mirrors; wants_commit = s.wants_commit; is_fenced = s.is_fenced }

pub record WriterSends : Type 0 where
  pub writer : WriterValue
  pub id : MirrorId
  pub call : DsCallValue

-- a WRITE is UNSTABLE and has the taken bytes at their place
abbrev pub write_of_taken : MirrorId → Option TakenWrite → Option DsCallValue
write_of_taken id None = None
write_of_taken id (Some w) = Some (Write id.fileid w.at false w.bytes)

abbrev pub call_for : WriterValue → MirrorId → NextCall → Option DsCallValue
call_for s id (SendsWrite n) = write_of_taken id (slice_get s.taken n)
call_for s id SendsCommit = Some (Commit id.fileid)

abbrev pub sends_as : WriterValue → ℕ → ℕ → WriterMirror → NextCall → Option DsCallValue → Option WriterSends
sends_as s xid place m next None = None
sends_as s xid place m next (Some call) = Some (record { writer = with_writer_mirrors s (slice_set s.mirrors place (with_out xid next m)); id = m.id; call = call })

abbrev pub sends_next : WriterValue → ℕ → ℕ → WriterMirror → Option NextCall → Option WriterSends
sends_next s xid place m None = None
sends_next s xid place m (Some next) = sends_as s xid place m next (call_for s m.id next)

abbrev pub sends_to : WriterValue → ℕ → ℕ → Option WriterMirror → Option WriterSends
sends_to s xid place None = None
sends_to s xid place (Some m) = sends_next s xid place m (next_at s.wants_commit m)

abbrev pub sends_at : WriterValue → ℕ → Option ℕ → Option WriterSends
sends_at s xid None = None
sends_at s xid (Some place) = sends_to s xid place (slice_get s.mirrors place)

abbrev pub next_sent : WriterValue → ℕ → Option WriterSends
next_sent s xid = sends_at s xid (next_place s)

-- ---- answers

abbrev pub is_call : ℕ → WriterCall → Bool
is_call xid NoCall = false
is_call xid (OutWrite x write timeouts) = x == xid
is_call xid (OutCommit x timeouts) = x == xid

-- the mirror whose call of this number is outstanding
abbrev pub mirror_of_call : WriterValue → ℕ → Option ℕ
mirror_of_call s xid = position (λ m. is_call xid m.call) s.mirrors

-- the writer, and what its caller is told
pub record WriterAfter : Type 0 where
  pub writer : WriterValue
  pub step : WriterStep

abbrev pub with_writer_mirror : WriterValue → ℕ → WriterMirror → WriterValue
with_writer_mirror s place m = with_writer_mirrors s (slice_set s.mirrors place m)

abbrev pub with_failure : WriterMirror → WriterMirror
with_failure m = record { id = m.id; queue = m.queue; call = NoCall; answered = m.answered; covered = m.covered; has_failed = true }

abbrev pub fails : WriterValue → ℕ → WriterMirror → LeftCause → WriterAfter
fails s place m cause = record { writer = with_writer_mirror s place (with_failure m); step = step.Failed m.id cause }

abbrev pub without_call : WriterMirror → WriterMirror
without_call m = record { id = m.id; queue = m.queue; call = NoCall; answered = m.answered; covered = m.covered; has_failed = m.has_failed }

abbrev pub fenced : WriterValue → WriterValue
fenced s = record { cred = s.cred; taken = s.taken; mirrors = s.mirrors; wants_commit = s.wants_commit; is_fenced = true }

abbrev pub is_fenced_by : WriterValue → ℕ → WriterMirror → ℕ → WriterAfter
is_fenced_by s place m status = record { writer = fenced (with_writer_mirror s place (without_call m)); step = step.Fenced m.id status }

-- ACCES and STALE: the layout is no more
abbrev pub refused_by : WriterValue → ℕ → WriterMirror → ℕ → WriterAfter
refused_by s place m status = if (status == ACCES) || (status == STALE) then is_fenced_by s place m status else fails s place m (Error status)

abbrev pub with_write_answer : ℕ → ℕ → WriterMirror → WriterMirror
with_write_answer write verifier m = record {
  id = m.id;
  queue = m.queue;
  call = NoCall;
  answered = m.answered ++ (record { write = write; verifier = verifier }) ∷ [];
  covered = m.covered;
  has_failed = m.has_failed;
}

-- an answer to a WRITE of another kind counts as an error
abbrev pub write_answered : WriterValue → ℕ → WriterMirror → ℕ → DsReplyValue → WriterAfter
write_answered s place m write (Written shown verifier) = record { writer = with_writer_mirror s place (with_write_answer write verifier m); step = step.Waiting }
write_answered s place m write (Failed status shown) = refused_by s place m status
write_answered s place m write (Created fileid shown) = fails s place m (Error odd_status)
write_answered s place m write (Set shown) = fails s place m (Error odd_status)
write_answered s place m write (Committed shown verifier) = fails s place m (Error odd_status)
write_answered s place m write (Bytes shown eof bytes) = fails s place m (Error odd_status)
write_answered s place m write (NotSync shown) = fails s place m (Error odd_status)

-- the answer has the verifier of the COMMIT's
abbrev pub has_verifier : ℕ → WriteAnswer → Bool
has_verifier verifier a = a.verifier == verifier

abbrev pub covered_by : List WriteAnswer → List Bool → List Bool
covered_by [] covered = covered
covered_by (a ∷ answered) covered = covered_by answered (slice_set covered a.write true)

-- The writes whose last answer has the COMMIT's verifier are covered. The others go out again, behind those that wait.
abbrev pub with_commit : ℕ → WriterMirror → WriterMirror
with_commit verifier m = record {
  id = m.id;
  queue = m.queue ++ map (λ a. a.write) (filter (λ a. not (has_verifier verifier a)) m.answered);
  call = NoCall;
  answered = [];
  covered = covered_by (filter (has_verifier verifier) m.answered) m.covered;
  has_failed = m.has_failed;
}

-- the wish to commit ends where each mirror that has not failed is committed
abbrev pub after_commit : WriterValue → WriterAfter
after_commit s =
    if open_committed s.mirrors
    then record { writer = record { cred = s.cred; taken = s.taken; mirrors = s.mirrors; wants_commit = false; is_fenced = s.is_fenced }; step = step.Committed }
    else record { writer = s; step = step.Waiting }

abbrev pub commit_answered : WriterValue → ℕ → WriterMirror → DsReplyValue → WriterAfter
commit_answered s place m (Committed shown verifier) = after_commit (with_writer_mirror s place (with_commit verifier m))
commit_answered s place m (Failed status shown) = refused_by s place m status
commit_answered s place m (Created fileid shown) = fails s place m (Error odd_status)
commit_answered s place m (Set shown) = fails s place m (Error odd_status)
commit_answered s place m (Written shown verifier) = fails s place m (Error odd_status)
commit_answered s place m (Bytes shown eof bytes) = fails s place m (Error odd_status)
commit_answered s place m (NotSync shown) = fails s place m (Error odd_status)

abbrev pub is_stranger : WriterValue → WriterAfter
is_stranger s = record { writer = s; step = step.Stranger }

abbrev pub call_answered : WriterValue → ℕ → WriterMirror → DsReplyValue → WriterCall → WriterAfter
call_answered s place m reply NoCall = is_stranger s
call_answered s place m reply (OutWrite xid write timeouts) = write_answered s place m write reply
call_answered s place m reply (OutCommit xid timeouts) = commit_answered s place m reply

abbrev pub mirror_answered : WriterValue → DsReplyValue → ℕ → Option WriterMirror → WriterAfter
mirror_answered s reply place None = is_stranger s
mirror_answered s reply place (Some m) = call_answered s place m reply m.call

abbrev pub answered_at : WriterValue → DsReplyValue → Option ℕ → WriterAfter
answered_at s reply None = is_stranger s
answered_at s reply (Some place) = mirror_answered s reply place (slice_get s.mirrors place)

abbrev pub after_reply : WriterValue → ℕ → DsReplyValue → WriterAfter
after_reply s xid reply = answered_at s reply (mirror_of_call s xid)

-- ---- timeouts

abbrev pub with_writer_call : WriterCall → WriterMirror → WriterMirror
with_writer_call call m = record { id = m.id; queue = m.queue; call = call; answered = m.answered; covered = m.covered; has_failed = m.has_failed }

-- the third timeout of a call is a failure
abbrev pub timed_out_as : WriterValue → ℕ → WriterMirror → ℕ → WriterCall → WriterAfter
timed_out_as s place m timeouts again =
    if timeouts == 2 then fails s place m Timeouts
    else record { writer = with_writer_mirror s place (with_writer_call again m); step = step.Waiting }

abbrev pub call_timed_out : WriterValue → ℕ → WriterMirror → WriterCall → WriterAfter
call_timed_out s place m NoCall = is_stranger s
call_timed_out s place m (OutWrite xid write timeouts) = timed_out_as s place m timeouts (OutWrite xid write (timeouts + 1))
call_timed_out s place m (OutCommit xid timeouts) = timed_out_as s place m timeouts (OutCommit xid (timeouts + 1))

abbrev pub mirror_timed_out : WriterValue → ℕ → Option WriterMirror → WriterAfter
mirror_timed_out s place None = is_stranger s
mirror_timed_out s place (Some m) = call_timed_out s place m m.call

abbrev pub timed_out_at : WriterValue → Option ℕ → WriterAfter
timed_out_at s None = is_stranger s
timed_out_at s (Some place) = mirror_timed_out s place (slice_get s.mirrors place)

abbrev pub after_timeout : WriterValue → ℕ → WriterAfter
after_timeout s xid = timed_out_at s (mirror_of_call s xid)

-- ---- what a writer tells

-- for each place in the layout, whether its mirror has failed; false past the end
abbrev pub reported_places : WriterValue → List Bool
reported_places s = take 4 (map (λ m. m.has_failed) s.mirrors ++ replicate 4 false)

abbrev pub covered_flag : Option Bool → Bool
covered_flag None = false
covered_flag (Some flag) = flag

abbrev pub covered_in : ℕ → Option WriterMirror → Bool
covered_in n None = false
covered_in n (Some m) = covered_flag (slice_get m.covered n)

-- a taken write is covered at this mirror
abbrev pub is_covered_at : WriterValue → ℕ → MirrorId → Bool
is_covered_at s n id = covered_in n (find (λ m. is_mirror id m.id) s.mirrors)
