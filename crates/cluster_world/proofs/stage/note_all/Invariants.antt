use Rattle.std.proofs.Common.{◌≡◌, ◌+◌, drop}
use Rattle.world_rule.specs.Sent.{noting_all}
use Rattle.cluster_world.proofs.stage.note_all.Given as goal

abbrev pub invariant-loop-entry : goal.invariant-loop-entry
invariant-loop-entry l = record {
  place : l.place ≡ l.first + l.entry-index;
  packets : noting_all l.packets l.place (drop l.entry-index l.entries) ≡ noting_all l.fn.packets l.first l.entries;
}
