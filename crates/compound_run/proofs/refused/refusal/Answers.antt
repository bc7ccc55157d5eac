use Rattle.std.proofs.Common.{rules, refl, sym, ap}
use Rattle.compound_run.proofs.Refusals.{unserved_fits}
use Rattle.compound_run.proofs.refused.refusal.Goals as goal

pub returns-in_default-clause-fits : goal.returns-in_default-clause-fits
returns-in_default-clause-fits c =
    rw c.refused.ensures.value (unserved_fits c.args.number c.args.status c.ranges.number.fits c.requires.refusal (search rules))
