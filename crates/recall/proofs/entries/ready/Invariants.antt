use Rattle.std.proofs.Common.{◌≡◌, drop}
use Rattle.std.specs.List.{position, position_from}
use Rattle.recall.specs.Entries.{is_ready}
use Rattle.recall.proofs.entries.ready.Given as goal

abbrev pub invariant-loop-place : goal.invariant-loop-place
invariant-loop-place l = position is_ready l.entries ≡ position_from is_ready l.place (drop l.place l.entries)
