use Rattle.std.proofs.Common.{◌≡◌, ◌+◌, ◌++◌, take}
use Rattle.std.specs.Vec.{vec_len, vec_capacity}
use Rattle.cluster_model.specs.Phases.{swapped_entries}
use Rattle.mds_rows.proofs.rows.note_swapped.Given as goal

abbrev pub invariant-loop-target : goal.invariant-loop-target
invariant-loop-target l = record {
  items : l.entries.items ≡ l.fn.entries.items ++ swapped_entries l.file (take l.target-index l.targets);
  size : vec_len l.entries ≡ vec_len l.fn.entries + l.target-index;
  room : vec_capacity l.entries ≡ vec_capacity l.fn.entries;
}
