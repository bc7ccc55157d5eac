use Rattle.std.proofs.Common.{◌≡◌, ◌≤◌, length, take}
use Rattle.cluster_model.specs.Mirrors.{mirrors_in}
use Rattle.cluster_model.proofs.mirrors.filled.Given as goal

abbrev pub invariant-loop-place : goal.invariant-loop-place
invariant-loop-place l = record {
  count : l.len ≡ length (mirrors_in (take l.place-index l.places));
  small : l.len ≤ l.place-index;
}
