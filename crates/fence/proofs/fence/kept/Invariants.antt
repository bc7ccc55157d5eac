use Rattle.std.proofs.Common.{◌≡◌, drop}
use Rattle.std.specs.List.{find}
use Rattle.call_stage.specs.KeptCalls.{is_kept_out}
use Rattle.fence.proofs.fence.kept.Given as goal

abbrev pub invariant-loop-mirror : goal.invariant-loop-mirror
invariant-loop-mirror l = find (λ m. is_kept_out m.stage) l.mirrors ≡ find (λ m. is_kept_out m.stage) (drop l.mirror-index l.mirrors)
