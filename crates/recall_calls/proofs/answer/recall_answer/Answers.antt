use Rattle.std.proofs.Common.{◌≡◌, sym, subst}
use Rattle.rpc_record.specs.declared.reply.ReplyBody.{ReplyBody}
use Rattle.rpc_record.specs.Replies.{reply_results, reply_stat}
use Rattle.nfs4_types.specs.Status.{stat4_number}
use Rattle.recall_calls.specs.RecallAnswers.{recall_status}
use Rattle.recall_calls.proofs.answer.recall_answer.Goals as goal

pub returns-in-Success : goal.returns-in-Success
returns-in-Success c =
    subst (λ (b : ReplyBody). stat4_number c.read_status.result ≡ recall_status (reply_stat b) (reply_results b)) (sym c.in-Success.is) c.read_status.ensures
