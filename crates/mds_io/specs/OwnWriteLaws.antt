-- What holds of a write of the metadata server in every run of it, told by what was sent and answered.
use Rattle.std.specs.Prelude.{◌≡◌, ℕ, Bool, false, List, [], ◌∷◌, ◌++◌, Some, None, fold, slice_get, if◌then◌else◌}
use Rattle.cluster_model.specs.declared.ids.Mirror.{Mirror}
use Rattle.cluster_model.specs.declared.ids.MirrorId.{MirrorId}
use Rattle.cluster_model.specs.DsCalls.{DsReplyValue}
use Rattle.mirror_writer.specs.declared.step.WriterStep.TheVariants as step
use Rattle.mirror_writer.specs.Writers.{WriterValue, WriterMirror, WriterSends, next_sent, next_place, mirror_of_call, after_timeout}
use Rattle.mirror_writer.specs.WriterLaws.{WriterNote, sent_from, sent_notes, answer_notes, is_new_call, IsCoveredBy, SendsTaken}
use Rattle.mds_io.specs.OwnWrites.{own_write, after_own_reply, ended}

pub data OwnMove : Type 0 where
  -- the next call, under a number of which none is outstanding
  SendsOne : (xid : ℕ) → OwnMove
  TakesReply : (xid : ℕ) (reply : DsReplyValue) → OwnMove
  TakesTimeout : (xid : ℕ) → OwnMove

pub record OwnRun : Type 0 where
  pub writer : WriterValue
  -- what was sent and answered with OK, by the mirror's place
  pub notes : List WriterNote

abbrev pub own_moved : OwnRun → OwnMove → OwnRun
own_moved run (SendsOne xid) =
    if is_new_call run.writer xid (mirror_of_call run.writer xid)
    then record { writer = sent_from run.writer (next_sent run.writer xid); notes = run.notes ++ sent_notes run.writer (next_place run.writer) }
    else run
own_moved run (TakesReply xid reply) = record {
  writer = (after_own_reply run.writer xid reply).writer;
  notes = run.notes ++ answer_notes run.writer reply (mirror_of_call run.writer xid);
}
own_moved run (TakesTimeout xid) = record { writer = (after_timeout run.writer xid).writer; notes = run.notes }

abbrev pub own_run : List Mirror → ℕ → ℕ → List ℕ → List OwnMove → OwnRun
own_run live cred at bytes moves = fold own_moved (record { writer = own_write live cred at bytes; notes = [] }) moves

-- Where it has ended, each mirror that is not reported as failed has covered the write: an OK answer to a COMMIT there has the verifier of
-- the last OK answer there to its WRITE that came before the COMMIT was sent.
abbrev pub IsCoveredWhereEnded : OwnRun → Type 0
IsCoveredWhereEnded run =
    (places : List Bool) → ended run.writer ≡ Some places → (place : ℕ) (m : WriterMirror) → slice_get run.writer.mirrors place ≡ Some m → slice_get places place ≡ Some false
    → IsCoveredBy place 0 run.notes

-- it has not ended just while a mirror has neither failed nor covered the write
pub record GoesOnJustWhile (run : OwnRun) : Type 0 where
  pub only : ended run.writer ≡ None → (place : ℕ) × (m : WriterMirror) × (slice_get run.writer.mirrors place ≡ Some m) × (m.has_failed ≡ false) × (IsCoveredBy place 0 run.notes → ⊥)
  pub where_so : (place : ℕ) (m : WriterMirror) → slice_get run.writer.mirrors place ≡ Some m → m.has_failed ≡ false → (IsCoveredBy place 0 run.notes → ⊥) → ended run.writer ≡ None

pub record OwnWriteLaw : Type 0 where
  pub covered : (live : List Mirror) (cred at : ℕ) (bytes : List ℕ) (moves : List OwnMove) → IsCoveredWhereEnded (own_run live cred at bytes moves)
  pub goes_on : (live : List Mirror) (cred at : ℕ) (bytes : List ℕ) (moves : List OwnMove) → GoesOnJustWhile (own_run live cred at bytes moves)
  -- its WRITEs have its place and its bytes
  pub sends : (live : List Mirror) (cred at : ℕ) (bytes : List ℕ) (moves : List OwnMove) (xid : ℕ) (s : WriterSends)
      → next_sent (own_run live cred at bytes moves).writer xid ≡ Some s → SendsTaken (own_run live cred at bytes moves).writer xid s
  pub taken : (live : List Mirror) (cred at : ℕ) (bytes : List ℕ) (moves : List OwnMove) → (own_run live cred at bytes moves).writer.taken ≡ (record { at = at; bytes = bytes }) ∷ []
  -- no status says that a layout is no more
  pub unfenced : (live : List Mirror) (cred at : ℕ) (bytes : List ℕ) (moves : List OwnMove) (xid : ℕ) (reply : DsReplyValue) (id : MirrorId) (status : ℕ)
      → (after_own_reply (own_run live cred at bytes moves).writer xid reply).step ≡ step.Fenced id status → ⊥
