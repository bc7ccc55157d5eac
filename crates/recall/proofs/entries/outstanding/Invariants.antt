use Rattle.std.proofs.Common.{◌≡◌, drop}
use Rattle.std.specs.List.{position, position_from}
use Rattle.recall.specs.Recalls.{is_out_as}
use Rattle.recall.proofs.entries.outstanding.Given as goal

abbrev pub invariant-loop-place : goal.invariant-loop-place
invariant-loop-place l = position (λ e. is_out_as l.xid e.recall.stage) l.entries ≡ position_from (λ e. is_out_as l.xid e.recall.stage) l.place (drop l.place l.entries)
