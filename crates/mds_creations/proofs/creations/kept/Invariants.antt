use Rattle.std.proofs.Common.{◌≡◌, drop}
use Rattle.std.specs.List.{find}
use Rattle.call_stage.specs.KeptCalls.{is_kept_out}
use Rattle.mds_creations.proofs.creations.kept.Given as goal

abbrev pub invariant-loop-item : goal.invariant-loop-item
invariant-loop-item l = find (λ c. is_kept_out c.stage) l.items ≡ find (λ c. is_kept_out c.stage) (drop l.item-index l.items)
