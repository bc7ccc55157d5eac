use Rattle.std.proofs.Common.{◌≡◌, ◌≤◌}
use Rattle.cluster_world.proofs.Ticks.{LeavesAll}
use Rattle.cluster_world.proofs.time.tick_clients.Given as goal

abbrev pub invariant-loop-place : goal.invariant-loop-place
invariant-loop-place l = record {
  within : l.place ≤ l.count;
  leaves : LeavesAll l.count l.place l.now l.fn.machines l.fn.draft l.machines l.draft;
  begun : l.draft.begun ≡ l.fn.draft.begun;
}
