-- A read of a file through the metadata server: its live mirrors are asked one after the other, until one gives the bytes (RFC 8881,
-- section 18.22; RFC 1813, section 3.3.6).
use Rattle.std.specs.Prelude.{ℕ, ◌+◌, ◌==◌, List, [], ◌∷◌, ◌++◌, length, Option, Some, None, nat_lt, if◌then◌else◌, slice_get}
use Rattle.cluster_model.specs.declared.limits.TheConstants.{MAX_TIMEOUTS}
use Rattle.cluster_model.specs.declared.ids.Mirror.{Mirror}
use Rattle.cluster_model.specs.declared.ids.MirrorId.{MirrorId}
use Rattle.cluster_model.specs.declared.phase.LeftCause.{LeftCause}
use Rattle.cluster_model.specs.declared.phase.LeftCause.TheVariants.{Error, Timeouts}
use Rattle.cluster_model.specs.declared.call_stage.CallStage.{CallStage}
use Rattle.cluster_model.specs.declared.call_stage.CallStage.TheVariants.{Waits, Out, KeptOut, KeptBack, Done, GivenUp}
use Rattle.cluster_model.specs.DsCalls.{DsCallValue, Read, DsReplyValue, Created, Set, Written, Committed, Bytes, NotSync, Failed}
use Rattle.cluster_model.specs.Fences.{waits, is_out, odd_status}
use Rattle.mds_io.specs.declared.read_end.Failure.{Failure}
use Rattle.mds_io.specs.declared.read_end.ReadEnd.{ReadEnd}
use Rattle.mds_io.specs.declared.read_end.ReadEnd.TheVariants as end

pub record ReadState : Type 0 where
  pub at : ℕ
  pub count : ℕ
  -- the live mirrors as they were when it began or began again
  pub live : List Mirror
  -- those that failed; the one behind them has its turn
  pub failures : List Failure
  -- where its READ stands
  pub stage : CallStage

abbrev pub new_read : List Mirror → ℕ → ℕ → ReadState
new_read live at count = record { at = at; count = count; live = live; failures = []; stage = Waits }

-- it begins again with these mirrors: a swap has changed the live list
abbrev pub begun_again : ReadState → List Mirror → ReadState
begun_again r live = new_read live r.at r.count

abbrev pub at_stage : ReadState → CallStage → ReadState
at_stage r stage = record { at = r.at; count = r.count; live = r.live; failures = r.failures; stage = stage }

-- the mirror that has its turn
abbrev pub in_turn : ReadState → Option Mirror
in_turn r = slice_get r.live (length r.failures)

-- ---- the next READ

pub record ReadSends : Type 0 where
  pub read : ReadState
  pub id : MirrorId
  pub call : DsCallValue

abbrev pub sends_to : ReadState → ℕ → Option Mirror → Option ReadSends
sends_to r xid None = None
sends_to r xid (Some m) = Some (record { read = at_stage r (Out xid 0); id = m.id; call = Read m.id.fileid r.at r.count })

abbrev pub next_sent : ReadState → ℕ → Option ReadSends
next_sent r xid = if waits r.stage then sends_to r xid (in_turn r) else None

-- ---- answers and timeouts

pub record ReadAfter : Type 0 where
  pub read : ReadState
  pub end : Option ReadEnd

abbrev pub goes_on : ReadState → ReadAfter
goes_on r = record { read = r; end = None }

-- the next mirror has its turn, or none is left
abbrev pub with_failure : ReadState → Failure → ReadState
with_failure r f = record { at = r.at; count = r.count; live = r.live; failures = r.failures ++ f ∷ []; stage = Waits }

abbrev pub end_of : ReadState → Option Mirror → Option ReadEnd
end_of r None = Some (end.AllFailed r.failures)
end_of r (Some m) = None

abbrev pub failed_with : ReadState → ReadAfter
failed_with r = record { read = r; end = end_of r (in_turn r) }

abbrev pub fails : ReadState → ℕ → LeftCause → Option Mirror → ReadAfter
fails r xid cause None = goes_on r
fails r xid cause (Some m) = failed_with (with_failure r (record { id = m.id; xid = xid; cause = cause }))

-- an answer of another kind counts as an error
abbrev pub answered : ReadState → ℕ → DsReplyValue → ReadAfter
answered r xid (Bytes shown eof bytes) = record { read = at_stage r Done; end = Some (end.Bytes eof bytes) }
answered r xid (Failed status shown) = fails r xid (Error status) (in_turn r)
answered r xid (Created fileid shown) = fails r xid (Error odd_status) (in_turn r)
answered r xid (Set shown) = fails r xid (Error odd_status) (in_turn r)
answered r xid (Written shown verifier) = fails r xid (Error odd_status) (in_turn r)
answered r xid (Committed shown verifier) = fails r xid (Error odd_status) (in_turn r)
answered r xid (NotSync shown) = fails r xid (Error odd_status) (in_turn r)

abbrev pub after_reply : ReadState → ℕ → DsReplyValue → ReadAfter
after_reply r xid reply = if is_out xid r.stage then answered r xid reply else goes_on r

-- the same record is sent again twice; the third timeout is a failure
abbrev pub late : ReadState → ℕ → CallStage → ReadAfter
late r xid (Out own timeouts) =
    if own == xid
    then (if nat_lt (timeouts + 1) MAX_TIMEOUTS then goes_on (at_stage r (Out own (timeouts + 1))) else fails r xid Timeouts (in_turn r))
    else goes_on r
late r xid Waits = goes_on r
late r xid (KeptOut own) = goes_on r
late r xid KeptBack = goes_on r
late r xid Done = goes_on r
late r xid GivenUp = goes_on r

abbrev pub after_timeout : ReadState → ℕ → ReadAfter
after_timeout r xid = late r xid r.stage
