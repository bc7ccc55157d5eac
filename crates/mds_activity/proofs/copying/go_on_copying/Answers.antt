use Rattle.std.proofs.Common.{sym, ◌∙◌}
use Rattle.mds_activity.proofs.CopyFits.{outcome_swaps}
use Rattle.mds_activity.proofs.copying.go_on_copying.Goals as goal

pub finish_copy-requires-clause-fits : goal.finish_copy-requires-clause-fits
finish_copy-requires-clause-fits c = outcome_swaps c.args.layout.now c.args.copier c.args.copies c.args.copy c.in-Some.targets c.requires.copying (sym c.outcome.ensures ∙ c.in-Some.is)
