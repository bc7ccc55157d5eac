use Rattle.std.proofs.Common.{◌≡◌, take}
use Rattle.arrayvec.specs.ArrayVec.{array_vec_len}
use Rattle.file_rule.specs.FilePhases.{creations_at}
use Rattle.mds_creations.proofs.creations.Creations.start.Given as goal

abbrev pub invariant-loop-server : goal.invariant-loop-server
invariant-loop-server l = record {
  items : l.items.items ≡ creations_at l.name (take l.server-index l.servers);
  size : array_vec_len l.items ≡ l.server-index;
}
