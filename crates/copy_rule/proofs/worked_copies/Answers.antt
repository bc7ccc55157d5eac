use Rattle.std.proofs.Common.{refl}
use Rattle.copy_rule.proofs.worked_copies.Goals as goal

pub returns-clause-two_pieces : goal.returns-clause-two_pieces
returns-clause-two_pieces c = refl

pub returns-clause-none_left : goal.returns-clause-none_left
returns-clause-none_left c = refl

pub returns-clause-kept_source : goal.returns-clause-kept_source
returns-clause-kept_source c = refl
