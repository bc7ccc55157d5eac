use Rattle.std.proofs.Common.{◌≡◌, ◌≤◌, take, length, filter, not}
use Rattle.copy_rule.specs.Copies.{is_given_up}
use Rattle.mds_creations.proofs.creations.has_spare.Given as goal

abbrev pub invariant-loop-item : goal.invariant-loop-item
invariant-loop-item l = record {
  count : l.standing ≡ length (filter (λ c. not (is_given_up c.stage)) (take l.item-index l.items));
  size : l.standing ≤ l.item-index;
}
