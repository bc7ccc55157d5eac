use Rattle.std.proofs.Common.{◌≡◌, ◌≤◌, take}
use Rattle.std.specs.List.{flat_map}
use Rattle.std.specs.Option.{option_to_list}
use Rattle.arrayvec.specs.ArrayVec.{array_vec_len}
use Rattle.mds_creations.proofs.creations.made_of.Given as goal

abbrev pub invariant-loop-item : goal.invariant-loop-item
invariant-loop-item l = record {
  items : l.made.items ≡ flat_map (λ c. option_to_list c.made) (take l.item-index l.items);
  size : array_vec_len l.made ≤ l.item-index;
}
