-- When the source is read on.
use Rattle.std.proofs.Common.{◌≡◌, true}
use Rattle.std.specs.Prelude.{not}
use Rattle.std.proofs.lemmas.Bool.{and_parts}
use Rattle.copy_rule.specs.Copies.{CopyState, have_answered, has_outcome, may_read_on}

pub answered_of : (c : CopyState) → may_read_on c ≡ true → have_answered c ≡ true
answered_of c may = (and_parts (have_answered c) (not (has_outcome c)) may).0
