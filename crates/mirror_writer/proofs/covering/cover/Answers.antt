use Rattle.std.proofs.Common.{arith}
use Rattle.mirror_writer.proofs.MirrorLemmas.{covers_next}
use Rattle.mirror_writer.proofs.covering.cover.Goals as goal

pub loop-answer-preserved : goal.loop-answer-preserved
loop-answer-preserved c = record {
  flags = covers_next c.args.verifier c.args.answered.now c.loop-answer.answer-index _ c.loop-answer.covered _ _ c.loop-answer-test.true c.cover_if-count.ensures.flags c.loop-answer.invariant.flags;
  count = omega (arith, c.loop-answer.invariant.count, c.cover_if-count.ensures.count);
}
