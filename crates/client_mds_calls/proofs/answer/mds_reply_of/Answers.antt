use Rattle.std.proofs.Common.{◌≡◌, cond, sym, subst}
use Rattle.ff_xdr.specs.Reading.{reading, whole}
use Rattle.nfs4_compound.specs.Compounds.{compound4_res}
use Rattle.rpc_record.specs.declared.reply.ReplyBody.{ReplyBody}
use Rattle.rpc_record.specs.Replies.{is_success, reply_results, reply_stat}
use Rattle.client_mds_calls.specs.MdsReplies.{compound_reply, odd_mds_reply, plain_mds_reply}
use Rattle.client_mds_calls.proofs.answer.mds_reply_of.Goals as goal

pub returns-in-Success : goal.returns-in-Success
returns-in-Success c =
    subst (λ (b : ReplyBody). plain_mds_reply c.compound_reply.result ≡ cond (is_success (reply_stat b)) (compound_reply c.args.ask.now (whole (reply_results b) (reading compound4_res (reply_results b) 0))) odd_mds_reply)
    (sym c.in-Success.is) c.compound_reply.ensures
