use Rattle.ds_snapshot.proofs.Sizing.{total_is}
use Rattle.ds_snapshot.proofs.size.snapshot_size.Goals as goal

pub returns : goal.returns
returns c = total_is c.args.server.now c.loop-more.index c.loop-more.size c.in_default.ensures.counts c.loop-more.invariant.most c.loop-more.invariant.same
