use Rattle.std.proofs.Common.{◌≡◌, ◌+◌, ◌-◌, ◌^◌, ◌≤◌, min, length}
use Rattle.ds_log.specs.Durable.{durable}
use Rattle.ds_snapshot.specs.NextBodies.{files_from}
use Rattle.ds_snapshot.specs.Sizes.{bodies_size}
use Rattle.ds_snapshot.proofs.size.snapshot_size.Given as goal

-- with the files that are left it comes to the same
abbrev pub invariant-loop-more : goal.invariant-loop-more
invariant-loop-more l = record {
  most : l.size ≤ 2 ^ 64 - 1;
  same : min (l.size + bodies_size (files_from (durable l.server) l.index)) (2 ^ 64 - 1) ≡ min (46 + bodies_size (files_from (durable l.server) 0)) (2 ^ 64 - 1);
}

abbrev pub decreases-loop-more : goal.decreases-loop-more
decreases-loop-more l = length l.server.files - l.index
