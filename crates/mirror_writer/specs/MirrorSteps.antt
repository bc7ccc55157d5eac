-- What an answer and a timeout come to at the mirror whose call is out.
use Rattle.std.specs.Prelude.{◌≡◌, ℕ, ◌+◌, ◌==◌, ◌||◌, Bool, List, Option, Some, None, if◌then◌else◌, slice_get, slice_set}
use Rattle.cluster_model.specs.declared.ids.MirrorId.{MirrorId}
use Rattle.cluster_model.specs.declared.phase.LeftCause.{LeftCause}
use Rattle.cluster_model.specs.declared.phase.LeftCause.TheVariants.{Error, Timeouts}
use Rattle.cluster_model.specs.DsCalls.{DsReplyValue, Created, Set, Written, Committed, Bytes, NotSync, Failed}
use Rattle.cluster_model.specs.Fences.{odd_status}
use Rattle.mirror_writer.specs.declared.call.MirrorOutcome.{MirrorOutcome}
use Rattle.mirror_writer.specs.declared.call.MirrorOutcome.TheVariants as outcome
use Rattle.mirror_writer.specs.declared.call.NextCall.{NextCall}
use Rattle.mirror_writer.specs.declared.call.WriterCall.{WriterCall}
use Rattle.mirror_writer.specs.declared.call.WriterCall.TheVariants.{NoCall, OutWrite, OutCommit}
use Rattle.mirror_writer.specs.declared.mirror.TheConstants.{ACCES, STALE}
use Rattle.mirror_writer.specs.declared.step.WriterStep.TheVariants as step
use Rattle.mirror_writer.specs.Writers.{WriterMirror, WriterValue, WriterAfter, with_failure, without_call, with_write_answer, with_commit, with_writer_call, after_commit, is_stranger, fenced, next_at}

pub record MirrorAfter : Type 0 where
  pub mirror : WriterMirror
  pub outcome : MirrorOutcome

abbrev pub failed_there : WriterMirror → LeftCause → MirrorAfter
failed_there m cause = record { mirror = with_failure m; outcome = outcome.Failed cause }

abbrev pub refused_there : WriterMirror → ℕ → MirrorAfter
refused_there m status =
    if (status == ACCES) || (status == STALE) then record { mirror = without_call m; outcome = outcome.Fenced status } else failed_there m (Error status)

abbrev pub write_answered_there : WriterMirror → ℕ → DsReplyValue → MirrorAfter
write_answered_there m write (Written shown verifier) = record { mirror = with_write_answer write verifier m; outcome = outcome.Waiting }
write_answered_there m write (Failed status shown) = refused_there m status
write_answered_there m write (Created fileid shown) = failed_there m (Error odd_status)
write_answered_there m write (Set shown) = failed_there m (Error odd_status)
write_answered_there m write (Committed shown verifier) = failed_there m (Error odd_status)
write_answered_there m write (Bytes shown eof bytes) = failed_there m (Error odd_status)
write_answered_there m write (NotSync shown) = failed_there m (Error odd_status)

abbrev pub commit_answered_there : WriterMirror → DsReplyValue → MirrorAfter
commit_answered_there m (Committed shown verifier) = record { mirror = with_commit verifier m; outcome = outcome.CommitOk }
commit_answered_there m (Failed status shown) = refused_there m status
commit_answered_there m (Created fileid shown) = failed_there m (Error odd_status)
commit_answered_there m (Set shown) = failed_there m (Error odd_status)
commit_answered_there m (Written shown verifier) = failed_there m (Error odd_status)
commit_answered_there m (Bytes shown eof bytes) = failed_there m (Error odd_status)
commit_answered_there m (NotSync shown) = failed_there m (Error odd_status)

abbrev pub answered_there : WriterMirror → DsReplyValue → WriterCall → MirrorAfter
answered_there m reply NoCall = record { mirror = m; outcome = outcome.Stranger }
answered_there m reply (OutWrite xid write timeouts) = write_answered_there m write reply
answered_there m reply (OutCommit xid timeouts) = commit_answered_there m reply

abbrev pub timed_out_there : WriterMirror → ℕ → WriterCall → MirrorAfter
timed_out_there m timeouts again =
    if timeouts == 2 then failed_there m Timeouts else record { mirror = with_writer_call again m; outcome = outcome.Waiting }

abbrev pub late_there : WriterMirror → WriterCall → MirrorAfter
late_there m NoCall = record { mirror = m; outcome = outcome.Stranger }
late_there m (OutWrite xid write timeouts) = timed_out_there m timeouts (OutWrite xid write (timeouts + 1))
late_there m (OutCommit xid timeouts) = timed_out_there m timeouts (OutCommit xid (timeouts + 1))

-- what it comes to for the writer, whose mirror is as it is then
abbrev pub settled_as : WriterValue → MirrorId → MirrorOutcome → WriterAfter
settled_as s id outcome.Stranger = is_stranger s
settled_as s id outcome.Waiting = record { writer = s; step = step.Waiting }
settled_as s id (outcome.Failed cause) = record { writer = s; step = step.Failed id cause }
settled_as s id (outcome.Fenced status) = record { writer = fenced s; step = step.Fenced id status }
settled_as s id outcome.CommitOk = after_commit s

-- the mirror at a place takes a step
pub record StepsAt (step : WriterMirror → MirrorAfter) (old : List WriterMirror) (place : ℕ) (id : MirrorId) (outcome : MirrorOutcome) (new : List WriterMirror) : Type 0 where
  pub mirror : WriterMirror
  pub found : slice_get old place ≡ Some mirror
  pub id_is : id ≡ mirror.id
  pub outcome_is : outcome ≡ (step mirror).outcome
  pub set : new ≡ slice_set old place (step mirror).mirror

-- the mirror at a place changes
pub record SetsAt (old : List WriterMirror) (place : ℕ) (change : WriterMirror → WriterMirror) (new : List WriterMirror) : Type 0 where
  pub mirror : WriterMirror
  pub found : slice_get old place ≡ Some mirror
  pub set : new ≡ slice_set old place (change mirror)

abbrev pub NextOf : Bool → Option WriterMirror → Option (MirrorId × NextCall) → Type 0
NextOf wants None result = ⊥
NextOf wants (Some m) None = next_at wants m ≡ None
NextOf wants (Some m) (Some (id, next)) = (next_at wants m ≡ Some next) × (id ≡ m.id)
