use Rattle.std.proofs.Common.{◌≡◌, ◌≤◌, map, take}
use Rattle.std.specs.Vec.{vec_len, vec_capacity}
use Rattle.mds_rows.proofs.rows.ids_of.Given as goal

abbrev pub invariant-loop-place : goal.invariant-loop-place
invariant-loop-place l = record {
  items : l.ids.items ≡ map (λ m. m.id) (take l.place l.live);
  size : vec_len l.ids ≡ l.place;
  room : 4 ≤ vec_capacity l.ids;
}
