use Rattle.std.proofs.Common.{◌≡◌, ◌+◌, drop}
use Rattle.std.specs.List.{position_or_len}
use Rattle.recall.specs.Recalls.{is_before}
use Rattle.recall.proofs.entries.place_for.Given as goal

abbrev pub invariant-loop-place : goal.invariant-loop-place
invariant-loop-place l = position_or_len (λ e. is_before l.recall e.recall) l.entries ≡ position_or_len (λ e. is_before l.recall e.recall) (drop l.place l.entries) + l.place
