-- What holds of a writer in every run of it, told by what was sent and answered (RFC 8435, section 8; RFC 1813, sections 3.3.7 and 3.3.21).
use Rattle.std.specs.Prelude.{◌≡◌, ℕ, Bool, true, false, ◌<◌, ◌==◌, ◌&&◌, List, [], ◌∷◌, ◌++◌, length, Option, Some, None, fold, slice_get, if◌then◌else◌}
use Rattle.std.specs.List.{All, AllPairs, Contains}
use Rattle.cluster_model.specs.declared.ids.Mirror.{Mirror}
use Rattle.cluster_model.specs.declared.ids.MirrorId.{MirrorId}
use Rattle.cluster_model.specs.DsCalls.{DsCallValue, Create, SetAttr, Write, Commit, Read, DsReplyValue, Created, Set, Written, Committed, Bytes, NotSync, Failed}
use Rattle.mirror_writer.specs.declared.step.WriterStep.TheVariants as step
use Rattle.mirror_writer.specs.declared.call.TakenWrite.{TakenWrite}
use Rattle.mirror_writer.specs.declared.call.WriterCall.{WriterCall}
use Rattle.mirror_writer.specs.declared.call.WriterCall.TheVariants.{NoCall, OutWrite, OutCommit}
use Rattle.mirror_writer.specs.declared.call.NextCall.{NextCall}
use Rattle.mirror_writer.specs.declared.call.NextCall.TheVariants.{SendsWrite, SendsCommit}
use Rattle.mirror_writer.specs.Writers.{WriterMirror, WriterValue, new_writer, touches, overlaps_taken, with_write, commit_wanted, is_committed, open_committed, next_at, next_place, WriterSends, next_sent, mirror_of_call, after_reply, after_timeout, covered_flag}

-- ---- runs

pub data WriterMove : Type 0 where
  TakesWrite : (at : ℕ) (bytes : List ℕ) → WriterMove
  WantsCommit : WriterMove
  -- the next call, under a number of which none is outstanding
  SendsOne : (xid : ℕ) → WriterMove
  TakesReply : (xid : ℕ) (reply : DsReplyValue) → WriterMove
  TakesTimeout : (xid : ℕ) → WriterMove

-- what was sent and answered, by the mirror's place
pub data WriterNote : Type 0 where
  CommitSent : (place : ℕ) → WriterNote
  -- with OK
  WriteAnswered : (place write verifier : ℕ) → WriterNote
  CommitAnswered : (place verifier : ℕ) → WriterNote

pub record WriterRun : Type 0 where
  pub writer : WriterValue
  pub notes : List WriterNote

abbrev pub noted_next : ℕ → Option NextCall → List WriterNote
noted_next place None = []
noted_next place (Some (SendsWrite n)) = []
noted_next place (Some SendsCommit) = CommitSent place ∷ []

abbrev pub noted_mirror : Bool → ℕ → Option WriterMirror → List WriterNote
noted_mirror wants place None = []
noted_mirror wants place (Some m) = noted_next place (next_at wants m)

abbrev pub sent_notes : WriterValue → Option ℕ → List WriterNote
sent_notes s None = []
sent_notes s (Some place) = noted_mirror s.wants_commit place (slice_get s.mirrors place)

abbrev pub write_notes : ℕ → ℕ → DsReplyValue → List WriterNote
write_notes place write (Written shown verifier) = WriteAnswered place write verifier ∷ []
write_notes place write (Created fileid shown) = []
write_notes place write (Set shown) = []
write_notes place write (Committed shown verifier) = []
write_notes place write (Bytes shown eof bytes) = []
write_notes place write (NotSync shown) = []
write_notes place write (Failed status shown) = []

abbrev pub commit_notes : ℕ → DsReplyValue → List WriterNote
commit_notes place (Committed shown verifier) = CommitAnswered place verifier ∷ []
commit_notes place (Created fileid shown) = []
commit_notes place (Set shown) = []
commit_notes place (Written shown verifier) = []
commit_notes place (Bytes shown eof bytes) = []
commit_notes place (NotSync shown) = []
commit_notes place (Failed status shown) = []

abbrev pub call_notes : ℕ → DsReplyValue → WriterCall → List WriterNote
call_notes place reply NoCall = []
call_notes place reply (OutWrite xid write timeouts) = write_notes place write reply
call_notes place reply (OutCommit xid timeouts) = commit_notes place reply

abbrev pub mirror_notes : ℕ → DsReplyValue → Option WriterMirror → List WriterNote
mirror_notes place reply None = []
mirror_notes place reply (Some m) = call_notes place reply m.call

abbrev pub answer_notes : WriterValue → DsReplyValue → Option ℕ → List WriterNote
answer_notes s reply None = []
answer_notes s reply (Some place) = mirror_notes place reply (slice_get s.mirrors place)

abbrev pub sent_from : WriterValue → Option WriterSends → WriterValue
sent_from s None = s
sent_from s (Some sends) = sends.writer

abbrev pub is_new_call : WriterValue → ℕ → Option ℕ → Bool
is_new_call s xid None = true
is_new_call s xid (Some place) = false

abbrev pub writer_moved : WriterRun → WriterMove → WriterRun
writer_moved run (TakesWrite at bytes) =
    if overlaps_taken run.writer at (length bytes) then run else record { writer = with_write run.writer at bytes; notes = run.notes }
writer_moved run WantsCommit = record { writer = commit_wanted run.writer; notes = run.notes }
writer_moved run (SendsOne xid) =
    if is_new_call run.writer xid (mirror_of_call run.writer xid)
    then record { writer = sent_from run.writer (next_sent run.writer xid); notes = run.notes ++ sent_notes run.writer (next_place run.writer) }
    else run
writer_moved run (TakesReply xid reply) = record {
  writer = (after_reply run.writer xid reply).writer;
  notes = run.notes ++ answer_notes run.writer reply (mirror_of_call run.writer xid);
}
writer_moved run (TakesTimeout xid) = record { writer = (after_timeout run.writer xid).writer; notes = run.notes }

abbrev pub writer_run : List Mirror → ℕ → List WriterMove → WriterRun
writer_run mirrors cred moves = fold writer_moved (record { writer = new_writer mirrors cred; notes = [] }) moves

-- ---- the promises

abbrev pub AreDisjointWrites : List TakenWrite → Type 0
AreDisjointWrites taken = AllPairs (λ a b. touches a.at (length a.bytes) b ≡ false) taken

-- the verifier of the last OK answer there to a WRITE of it
abbrev pub later_verifier : ℕ → ℕ → Option ℕ → WriterNote → Option ℕ
later_verifier place write last (CommitSent p) = last
later_verifier place write last (WriteAnswered p w verifier) = if (p == place) && (w == write) then Some verifier else last
later_verifier place write last (CommitAnswered p verifier) = last

abbrev pub last_verifier : ℕ → ℕ → List WriterNote → Option ℕ
last_verifier place write notes = fold (later_verifier place write) None notes

abbrev pub is_commit_at : ℕ → WriterNote → Bool
is_commit_at place (CommitSent p) = p == place
is_commit_at place (WriteAnswered p w verifier) = false
is_commit_at place (CommitAnswered p verifier) = p == place

-- An OK answer to a COMMIT there has the verifier of the last OK answer there to a WRITE of it that came before this COMMIT was sent.
pub record IsCoveredBy (place write : ℕ) (notes : List WriterNote) : Type 0 where
  pub before : List WriterNote
  pub between : List WriterNote
  pub behind : List WriterNote
  pub verifier : ℕ
  pub split : notes ≡ before ++ CommitSent place ∷ (between ++ CommitAnswered place verifier ∷ behind)
  pub its_answer : All (λ note. is_commit_at place note ≡ false) between
  pub last : last_verifier place write before ≡ Some verifier

abbrev pub covered_of : ℕ → Option WriterMirror → Bool
covered_of write None = false
covered_of write (Some m) = covered_flag (slice_get m.covered write)

-- a taken write counts as covered at a mirror just where it is so
pub record CoversJustWhere (run : WriterRun) (place write : ℕ) : Type 0 where
  pub only : covered_of write (slice_get run.writer.mirrors place) ≡ true → IsCoveredBy place write run.notes
  pub where_so : IsCoveredBy place write run.notes → covered_of write (slice_get run.writer.mirrors place) ≡ true

-- a covered write stays covered
abbrev pub StaysCovered : List Mirror → ℕ → List WriterMove → WriterMove → Type 0
StaysCovered mirrors cred moves move =
    (place write : ℕ) → covered_of write (slice_get (writer_run mirrors cred moves).writer.mirrors place) ≡ true
    → covered_of write (slice_get (writer_moved (writer_run mirrors cred moves) move).writer.mirrors place) ≡ true

-- a mirror counts as committed just where each taken write is covered there, so also where none is taken
pub record IsCommittedJustWhere (taken : List TakenWrite) (m : WriterMirror) : Type 0 where
  pub only : is_committed m ≡ true → (write : ℕ) → write < length taken → covered_flag (slice_get m.covered write) ≡ true
  pub where_so : ((write : ℕ) → write < length taken → covered_flag (slice_get m.covered write) ≡ true) → is_committed m ≡ true

-- an OK answer to an outstanding COMMIT
abbrev pub is_ok_commit : DsReplyValue → WriterCall → Bool
is_ok_commit (Committed shown verifier) (OutCommit xid timeouts) = true
is_ok_commit (Committed shown verifier) NoCall = false
is_ok_commit (Committed shown verifier) (OutWrite xid write timeouts) = false
is_ok_commit (Created fileid shown) call = false
is_ok_commit (Set shown) call = false
is_ok_commit (Written shown verifier) call = false
is_ok_commit (Bytes shown eof bytes) call = false
is_ok_commit (NotSync shown) call = false
is_ok_commit (Failed status shown) call = false

abbrev pub call_of_mirror : Option WriterMirror → WriterCall
call_of_mirror None = NoCall
call_of_mirror (Some m) = m.call

abbrev pub call_at_place : WriterValue → Option ℕ → WriterCall
call_at_place s None = NoCall
call_at_place s (Some place) = call_of_mirror (slice_get s.mirrors place)

-- `Committed` is told just where this reply is an OK answer to a COMMIT, and with it each mirror that has not failed is committed
pub record CommittedJustWhere (s : WriterValue) (xid : ℕ) (reply : DsReplyValue) : Type 0 where
  pub only : (after_reply s xid reply).step ≡ step.Committed → (is_ok_commit reply (call_at_place s (mirror_of_call s xid)) ≡ true) × (open_committed (after_reply s xid reply).writer.mirrors ≡ true)
  pub where_so : is_ok_commit reply (call_at_place s (mirror_of_call s xid)) ≡ true → open_committed (after_reply s xid reply).writer.mirrors ≡ true → (after_reply s xid reply).step ≡ step.Committed

-- a WRITE has the place and the bytes of a taken write, and goes to one of the mirrors
abbrev pub IsOfTaken : WriterValue → MirrorId → DsCallValue → Type 0
IsOfTaken s id (Write fileid at synced bytes) = (fileid ≡ id.fileid) × (synced ≡ false) × Contains s.taken (record { at = at; bytes = bytes })
IsOfTaken s id (Commit fileid) = fileid ≡ id.fileid
IsOfTaken s id (Create name owner) = ⊥
IsOfTaken s id (SetAttr fileid owner guard) = ⊥
IsOfTaken s id (Read fileid at count) = ⊥

pub record SendsTaken (s : WriterValue) (xid : ℕ) (sends : WriterSends) : Type 0 where
  pub mirror : (place : ℕ) × (m : WriterMirror) × (slice_get s.mirrors place ≡ Some m) × (m.id ≡ sends.id)
  pub call : IsOfTaken s sends.id sends.call

pub record WriterLaw : Type 0 where
  pub disjoint : (mirrors : List Mirror) (cred : ℕ) (moves : List WriterMove) → AreDisjointWrites (writer_run mirrors cred moves).writer.taken
  pub covers : (mirrors : List Mirror) (cred : ℕ) (moves : List WriterMove) (place write : ℕ) → CoversJustWhere (writer_run mirrors cred moves) place write
  pub stays : (mirrors : List Mirror) (cred : ℕ) (moves : List WriterMove) (move : WriterMove) → StaysCovered mirrors cred moves move
  pub commits : (mirrors : List Mirror) (cred : ℕ) (moves : List WriterMove) (place : ℕ) (m : WriterMirror)
      → slice_get (writer_run mirrors cred moves).writer.mirrors place ≡ Some m → IsCommittedJustWhere (writer_run mirrors cred moves).writer.taken m
  pub committed : (s : WriterValue) (xid : ℕ) (reply : DsReplyValue) → CommittedJustWhere s xid reply
  pub sends : (s : WriterValue) (xid : ℕ) (sends : WriterSends) → next_sent s xid ≡ Some sends → SendsTaken s xid sends
