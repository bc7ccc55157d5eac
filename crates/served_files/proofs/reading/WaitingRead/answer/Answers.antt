use Rattle.std.proofs.Common.{◌≡◌, true, subst}
use Rattle.cluster_model.specs.DsCalls.{plain_ds_reply}
use Rattle.cluster_model.specs.Fences.{is_out}
use Rattle.mds_io.specs.Reads.{ReadAfter}
use Rattle.mds_rule.specs.MdsStates.{WaitingRead}
use Rattle.served_files.proofs.ReadStages.{reply_out}
use Rattle.served_files.proofs.reading.WaitingRead.answer.Goals as goal

pub returns-in_err-note_failures-clause-out : goal.returns-in_err-note_failures-clause-out
returns-in_err-note_failures-clause-out c = λ xid out.
    subst (λ (w : WaitingRead). is_out xid w.read.stage ≡ true) c.self.view_is
    (reply_out c.self.inside.read c.args.xid (plain_ds_reply c.args.reply.now) xid (subst (λ (a : ReadAfter). is_out xid a.read.stage ≡ true) c.in_ok-end.ensures out))
