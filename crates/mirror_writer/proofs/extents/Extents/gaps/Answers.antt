use Rattle.std.proofs.Common.{arith, refl}
use Rattle.mirror_writer.proofs.GapLemmas.{gaps_after}
use Rattle.mirror_writer.proofs.extents.Extents.gaps.Goals as goal

pub loop-left-preserved-then-left-gt0 : goal.loop-left-preserved-then-left-gt0
loop-left-preserved-then-left-gt0 c =
    gaps_after c.args.self.now c.args.at c.args.count c.loop-left.gaps.items c.push_gap.new.gaps.items c.loop-left.from c.loop-left.left c.taken_from-taken.result c.free_from-free.result _ c.loop-left.invariant
    c.taken_from-taken.ensures.on c.free_from-free.ensures.on c.loop-left-test.true c.in_ok-push_gap.ensures (λ more. refl)

pub loop-left-preserved : goal.loop-left-preserved
loop-left-preserved c =
    gaps_after c.args.self.now c.args.at c.args.count c.loop-left.gaps.items c.push_gap.new.gaps.items c.loop-left.from c.loop-left.left c.taken_from-taken.result c.free_from-free.result _ c.loop-left.invariant
    c.taken_from-taken.ensures.on c.free_from-free.ensures.on c.loop-left-test.true c.in_ok-push_gap.ensures (λ more. absurd (omega (arith, more, c.if-left-gt0.false)))
