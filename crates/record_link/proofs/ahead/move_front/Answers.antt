use Rattle.std.proofs.Common.{arith, rules}
use Rattle.std.proofs.lemmas.List.{same_lists, places}
use Rattle.record_link.proofs.ahead.move_front.Goals as goal

pub returns-clause-moved : goal.returns-clause-moved
returns-clause-moved c = rw (c.copy_within.ensures.items) (same_lists _ _ (search (rules, places)) (λ k d h. grind (arith, places)))
