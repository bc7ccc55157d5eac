use Rattle.std.proofs.Common.{Bool, Some, None, cond, sym, ap, ◌∙◌}
use Rattle.cluster_model.proofs.MirrorLists.{added_at, refused_at}
use Rattle.cluster_model.proofs.mirrors.Mirrors.of.Goals as goal

pub returns-then-not-add : goal.returns-then-not-add
returns-then-not-add c =
    sym (ap (λ (b : Bool). cond b (Some c.args.mirrors.now) None) (refused_at c.args.mirrors.now c.loop-mirror.all c.loop-mirror.mirror-index _ c.loop-mirror-test.true c.loop-mirror.invariant (sym c.add.ensures.added ∙ c.if-not-add.true)))

pub loop-mirror-preserved : goal.loop-mirror-preserved
loop-mirror-preserved c =
    added_at c.args.mirrors.now c.loop-mirror.all c.add.new.self c.loop-mirror.mirror-index _ c.add.result c.loop-mirror-test.true c.loop-mirror.invariant c.if-not-add.false c.add.ensures.added c.add.ensures.list
