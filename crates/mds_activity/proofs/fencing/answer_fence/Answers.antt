use Rattle.cluster_model.specs.DsCalls.{plain_ds_reply}
use Rattle.mds_activity.proofs.FenceLemmas.{fence_taken}
use Rattle.mds_activity.proofs.fencing.answer_fence.Goals as goal

pub returns-clause-takes : goal.returns-clause-takes
returns-clause-takes c =
    fence_taken c.args.file c.args.layout.now c.see_at.new.layout c.args.fence c.on_reply-step.new.self c.mirror_out.result c.args.xid (plain_ds_reply c.args.reply.now) c.shown_by_set.result c.on_reply-step.result c.args.entries.now.items _ c.step_fence.new.layout c.step_fence.result
    c.mirror_out.ensures c.shown_by_set.ensures c.see_at.ensures c.on_reply-step.ensures c.step_fence.ensures.takes
