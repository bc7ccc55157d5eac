use Rattle.std.proofs.Common.{List, filter, sym, ap, subst, ◌∙◌}
use Rattle.recall.specs.declared.kept_recall.KeptRecall.{KeptRecall}
use Rattle.recall.specs.Entries.{recalls_of, goes_on, IsRecallTable}
use Rattle.recall.proofs.Standing.{left_in, left_stands}
use Rattle.recall.proofs.recalls.Recalls.forget.Goals as goal

pub invariant_of-self : goal.invariant_of-self
invariant_of-self c = subst (λ (l : List KeptRecall). IsRecallTable l) (sym c.forget.ensures) (left_stands c.args.ended c.self.inside.entries.items c.self.invariant)

pub returns : goal.returns
returns c = ap recalls_of c.forget.ensures ∙ left_in c.args.ended c.self.inside.entries.items ∙ ap (filter (goes_on c.args.ended)) c.self.view_is
