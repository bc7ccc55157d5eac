-- Under which numbers a read is out behind a step.
use Rattle.std.proofs.Common.{ℕ, Bool, true, false, cond, Option, Some, None}
use Rattle.cluster_model.specs.declared.ids.Mirror.{Mirror}
use Rattle.cluster_model.specs.declared.phase.LeftCause.{LeftCause}
use Rattle.cluster_model.specs.DsCalls.{DsReplyValue, Created, Set, Written, Committed, Bytes, NotSync, Failed}
use Rattle.cluster_model.specs.Fences.{is_out}
use Rattle.mds_io.specs.Reads.{ReadState, after_reply, answered, fails, goes_on, in_turn}
use Rattle.served_files.specs.Waiting.{OutAsBefore}

failed_out : (r : ReadState) (own : ℕ) (cause : LeftCause) (m : Option Mirror) → OutAsBefore r (fails r own cause m).read
failed_out r own cause None = λ xid out. out
failed_out r own cause (Some m) = λ xid out. absurd (cc)

answered_out : (r : ReadState) (own : ℕ) (reply : DsReplyValue) → OutAsBefore r (answered r own reply).read
answered_out r own (Bytes shown eof bytes) = λ xid out. absurd (cc)
answered_out r own (Failed status shown) = failed_out r own _ (in_turn r)
answered_out r own (Created fileid shown) = failed_out r own _ (in_turn r)
answered_out r own (Set shown) = failed_out r own _ (in_turn r)
answered_out r own (Written shown verifier) = failed_out r own _ (in_turn r)
answered_out r own (Committed shown verifier) = failed_out r own _ (in_turn r)
answered_out r own (NotSync shown) = failed_out r own _ (in_turn r)

pub reply_out : (r : ReadState) (own : ℕ) (reply : DsReplyValue) → OutAsBefore r (after_reply r own reply).read
reply_out r own reply = by_test (is_out own r.stage)
  where
    by_test : (b : Bool) → OutAsBefore r (cond b (answered r own reply) (goes_on r)).read
    by_test true = answered_out r own reply
    by_test false = λ xid out. out
