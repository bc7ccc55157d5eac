-- A READ that ends gives at most as many bytes as its form allows.
use Rattle.std.proofs.Common.{◌≤◌, ℕ, ◌+◌, length, Option, Some, None}
use Rattle.std.specs.Prelude.{◌==◌, nat_lt, if◌then◌else◌}
use Rattle.std.proofs.lemmas.Bool.{cond_both}
use Rattle.cluster_model.specs.DsCalls.{DsReplyValue, Created, Set, Written, Committed, Bytes, NotSync, Failed}
use Rattle.cluster_model.specs.declared.ids.Mirror.{Mirror}
use Rattle.cluster_model.specs.declared.limits.TheConstants.{MAX_TIMEOUTS}
use Rattle.cluster_model.specs.declared.call_stage.CallStage.{CallStage}
use Rattle.cluster_model.specs.declared.call_stage.CallStage.TheVariants.{Waits, Out, KeptOut, KeptBack, Done, GivenUp}
use Rattle.cluster_model.specs.declared.phase.LeftCause.{LeftCause}
use Rattle.cluster_model.specs.declared.phase.LeftCause.TheVariants.{Error, Timeouts}
use Rattle.cluster_model.specs.Fences.{is_out, odd_status}
use Rattle.mds_io.specs.declared.read_end.ReadEnd.{ReadEnd}
use Rattle.mds_io.specs.declared.read_end.ReadEnd.TheVariants as end
use Rattle.mds_io.specs.Reads.{ReadState, ReadAfter}
use Rattle.mds_io.specs.Reads as read
use Rattle.mds_walk.proofs.FewBytes.{GivesFew}

abbrev pub EndsFew : Option ReadEnd → Type 0
EndsFew (Some (end.Bytes eof bytes)) = length bytes ≤ 4294967295
EndsFew other = Unit {0}

turn_few : (r : ReadState) (o : Option Mirror) → EndsFew (read.end_of r o)
turn_few r None = tt
turn_few r (Some m) = tt

fails_few : (r : ReadState) (xid : ℕ) (cause : LeftCause) (o : Option Mirror) → EndsFew (read.fails r xid cause o).end
fails_few r xid cause None = tt
fails_few r xid cause (Some m) =
    let next : ReadState = read.with_failure r (record { id = m.id; xid = xid; cause = cause }) in turn_few next (read.in_turn next)

answered_few : (r : ReadState) (xid : ℕ) (reply : DsReplyValue) → GivesFew reply → EndsFew (read.answered r xid reply).end
answered_few r xid (Bytes shown eof bytes) few = few
answered_few r xid (Failed status shown) few = fails_few r xid (Error status) (read.in_turn r)
answered_few r xid (Created fileid shown) few = fails_few r xid (Error odd_status) (read.in_turn r)
answered_few r xid (Set shown) few = fails_few r xid (Error odd_status) (read.in_turn r)
answered_few r xid (Written shown verifier) few = fails_few r xid (Error odd_status) (read.in_turn r)
answered_few r xid (Committed shown verifier) few = fails_few r xid (Error odd_status) (read.in_turn r)
answered_few r xid (NotSync shown) few = fails_few r xid (Error odd_status) (read.in_turn r)

pub reply_steps_few : (r : ReadState) (xid : ℕ) (reply : DsReplyValue) → GivesFew reply → EndsFew (read.after_reply r xid reply).end
reply_steps_few r xid reply few = cond_both (is_out xid r.stage) (read.answered r xid reply) (read.goes_on r) (λ (a : ReadAfter). EndsFew a.end) (λ its. answered_few r xid reply few) (λ off. tt)

pub late_steps_few : (r : ReadState) (xid : ℕ) (stage : CallStage) → EndsFew (read.late r xid stage).end
late_steps_few r xid (Out own timeouts) =
    cond_both (own == xid) (if nat_lt (timeouts + 1) MAX_TIMEOUTS then read.goes_on (read.at_stage r (Out own (timeouts + 1))) else read.fails r xid Timeouts (read.in_turn r)) (read.goes_on r) (λ (a : ReadAfter). EndsFew a.end)
    (λ its.
    cond_both (nat_lt (timeouts + 1) MAX_TIMEOUTS) (read.goes_on (read.at_stage r (Out own (timeouts + 1)))) (read.fails r xid Timeouts (read.in_turn r)) (λ (a : ReadAfter). EndsFew a.end) (λ again. tt) (λ last. fails_few r xid Timeouts (read.in_turn r)))
    (λ other. tt)
late_steps_few r xid Waits = tt
late_steps_few r xid (KeptOut own) = tt
late_steps_few r xid KeptBack = tt
late_steps_few r xid Done = tt
late_steps_few r xid GivenUp = tt
