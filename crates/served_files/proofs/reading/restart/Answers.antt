use Rattle.served_files.proofs.ReadLists.{next_done, again_is}
use Rattle.mds_rule.specs.ServedFiles.{begins_again}
use Rattle.served_files.proofs.reading.restart.Goals as goal

pub loop-waiting-preserved : goal.loop-waiting-preserved
loop-waiting-preserved c =
    next_done (begins_again c.args.live) c.args.reads.now c.loop-waiting.waiting-items c.loop-waiting.waiting-index c.waiting-item.result _ c.loop-waiting-test.true c.loop-waiting.auto.waiting-items c.loop-waiting.invariant
    (again_is c.args.live c.waiting.inside.compound c.waiting.inside.read c.restart.new.self _ c.waiting.view_is c.restart.ensures)
