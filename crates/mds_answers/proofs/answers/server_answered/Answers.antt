use Rattle.std.proofs.Common.{◌≡◌, refl, subst}
use Rattle.cluster_model.specs.DsCalls.{DsCallValue, DsReplyValue, plain_ds_call, plain_ds_reply}
use Rattle.mds_io.specs.Reads as read
use Rattle.mds_io.specs.OwnWrites.{after_own_reply}
use Rattle.mds_rule.specs.MdsStates.{MdsValue}
use Rattle.mds_rule.specs.Answers.{steps_read, steps_write, sees_size, sees_ctime, fileid_of, attributes_shown}
use Rattle.compound_run.specs.CompoundRuns.{HasMadeStep}
use Rattle.mds_state.specs.contracts.state.State as state
use Rattle.mds_state.proofs.StepLemmas.{stepped_then}
use Rattle.mds_compounds.proofs.WalkLemmas.{on_ok}
use Rattle.mds_answers.proofs.AnswerLemmas.{read_so, write_so, sees_so}
use Rattle.mds_answers.proofs.answers.server_answered.Goals as goal

pub returns-in_ok-ended-in-ForRead : goal.returns-in_ok-ended-in-ForRead
returns-in_ok-ended-in-ForRead c =
    let m : MdsValue = state.the_view c.state-in-ForRead.inside in
    let a = c.args.answer.now in
    let call : DsCallValue = plain_ds_call a.call in
    let reply : DsReplyValue = plain_ds_reply a.reply in
    let file = c.in-ForRead.file in
    let files = c.see_size-in-ForRead.new.self in
    let seen : record m { files = files } ≡ sees_size m file a.server call reply = sees_so m file a.server call reply files c.in_ok-see_size-in-ForRead.ensures in
    rw (← c.state-in-ForRead.view_is, c.in-ForRead.is)
    (on_ok c.resume_read.result c.resume_read.ensures
    (λ made.
    subst (λ (k : MdsValue). HasMadeStep (steps_read c.args.now k file a.xid (λ r. read.after_reply r a.xid reply)) c.args.out.now c.resume_read.new.state c.resume_read.new.out) seen
    (read_so c.args.now (record m { files = files }) c.resume_read.new.state file a.xid (λ r. read.after_reply r a.xid reply) c.args.out.now _ c.resume_read.new.out c.answer_read.new.self c.in_ok-ended-in-ForRead.ended refl made c.in_ok-ended-in-ForRead.ensures.steps)))

pub returns-in_ok-ended-in-ForWrite : goal.returns-in_ok-ended-in-ForWrite
returns-in_ok-ended-in-ForWrite c =
    let m : MdsValue = state.the_view c.state-in-ForWrite.inside in
    let k : MdsValue = state.the_view c.state-in-ForWrite-2.inside in
    let a = c.args.answer.now in
    let call : DsCallValue = plain_ds_call a.call in
    let reply : DsReplyValue = plain_ds_reply a.reply in
    let file = c.in-ForWrite.file in
    let files = c.see_size-in-ForWrite.new.self in
    let out = c.see_ctime.new.out in
    let seen : record m { files = files } ≡ sees_size m file a.server call reply = sees_so m file a.server call reply files c.in_ok-see_size-in-ForWrite.ensures in
    let first =
    subst (λ (x : MdsValue). HasMadeStep (sees_ctime x file a.server (fileid_of call reply) (attributes_shown reply)) c.args.out.now c.see_ctime.new.state out) seen c.in_ok-see_ctime-in-ForWrite.ensures.steps in
    rw (← c.state-in-ForWrite.view_is, c.in-ForWrite.is)
    (on_ok c.resume_write.result c.resume_write.ensures
    (λ made.
    stepped_then (sees_ctime (sees_size m file a.server call reply) file a.server (fileid_of call reply) (attributes_shown reply)) (λ n. steps_write c.args.now n file (λ w. after_own_reply w a.xid reply)) c.args.out.now out c.resume_write.new.out c.see_ctime.new.state
    c.resume_write.new.state first
    (subst (λ (x : MdsValue). HasMadeStep (steps_write c.args.now x file (λ w. after_own_reply w a.xid reply)) out c.resume_write.new.state c.resume_write.new.out) c.state-in-ForWrite-2.view_is
    (write_so c.args.now k c.resume_write.new.state file (λ w. after_own_reply w a.xid reply) out c.resume_write.new.out c.answer_write.new.self c.in_ok-ended-in-ForWrite.ended made c.in_ok-ended-in-ForWrite.ensures))))
