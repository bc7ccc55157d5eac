use Rattle.std.proofs.Common.{refl, arith}
use Rattle.twin_log.proofs.kept_log.open_side.Goals as goal

pub invariant_of-result : goal.invariant_of-result
invariant_of-result g c =
    let within = (rw (c.in-Whole.is) at c.in_ok-at.ensures.within) c.requires.some in
    record {
      order = omega arith;
      bounded = grind (arith);
      next = c.requires.within;
      within = omega (arith, within);
      renewed = tt;
      room = λ some. absurd (some refl);
    }
