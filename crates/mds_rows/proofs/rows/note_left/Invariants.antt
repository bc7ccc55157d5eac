use Rattle.std.proofs.Common.{◌≡◌, ◌≤◌, ◌+◌, ◌++◌, drop}
use Rattle.std.specs.Vec.{vec_len, vec_capacity}
use Rattle.cluster_model.specs.Phases.{left_entries}
use Rattle.mds_rows.proofs.rows.note_left.Given as goal

abbrev pub invariant-loop-place : goal.invariant-loop-place
invariant-loop-place l = record {
  items : l.entries.items ++ left_entries l.file (drop l.place l.causes) (drop l.place l.live) ≡ l.fn.entries.items ++ left_entries l.file l.causes l.live;
  size : vec_len l.entries ≤ vec_len l.fn.entries + l.place;
  room : vec_capacity l.entries ≡ vec_capacity l.fn.entries;
}
