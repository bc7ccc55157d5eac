use Rattle.std.proofs.Common.{◌≡◌, drop}
use Rattle.std.specs.List.{find}
use Rattle.recall.specs.Recalls.{has_expired}
use Rattle.recall.proofs.entries.expired.Given as goal

abbrev pub invariant-loop-entry : goal.invariant-loop-entry
invariant-loop-entry l = find (λ e. has_expired l.now e.recall) l.entries ≡ find (λ e. has_expired l.now e.recall) (drop l.entry-index l.entries)
