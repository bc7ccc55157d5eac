use Rattle.std.proofs.Common.{arith, sym, subst, ◌∙◌}
use Rattle.std.proofs.lemmas.List.{get_or-set_other}
use Rattle.mirror_writer.specs.Rooms.{HasSpareRoom}
use Rattle.mirror_writer.proofs.Shown.{queued_more}
use Rattle.mirror_writer.proofs.mirrors.queue_all.Goals as goal

pub queue-requires : goal.queue-requires
queue-requires c =
    let i = c.loop-mirror.mirror-index in
    subst HasSpareRoom (sym (c.loop-mirror.invariant.rest i c.mirror-item.result (omega arith))) (c.requires i c.mirror-item.result c.loop-mirror-test.true)

pub loop-mirror-preserved : goal.loop-mirror-preserved
loop-mirror-preserved c = record {
  shown = queued_more c.args.n c.loop-mirror.mirror-items c.args.mirrors.now c.loop-mirror.mirror-index c.mirror-item.result c.queue.new.self c.loop-mirror-test.true c.loop-mirror.auto.mirror-items c.loop-mirror.invariant.shown c.queue.ensures;
  rest = λ k d past. get_or-set_other c.loop-mirror.mirror-items c.loop-mirror.mirror-index k c.queue.new.self d (omega (arith, past)) ∙ c.loop-mirror.invariant.rest k d (omega (arith, past));
}
