use Rattle.std.proofs.Common.{arith}
use Rattle.std.proofs.lemmas.Bool.Decides.{nat_tests}
use Rattle.std.proofs.lemmas.Map.Keys.{le_from_not_gt, ge_from_not_lt}
use Rattle.mirror_writer.proofs.extents.last_up_to.Goals as goal

pub returns-in-Some : goal.returns-in-Some
returns-in-Some c =
    let h = c.range.ensures.in_range tt in
    let e = h.3 _ _ c.in-Some.ensures.steps in
    record {
      first = le_from_not_gt c.in-Some.first.now c.args.place e.0.1;
      there = e.1;
      last = λ k up some. ge_from_not_lt c.in-Some.first.now k (h.4 _ _ c.in-Some.ensures.steps k (tt, grind (arith, nat_tests, up)) some);
    }
