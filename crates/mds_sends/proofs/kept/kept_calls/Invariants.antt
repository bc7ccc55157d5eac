use Rattle.std.proofs.Common.{◌≡◌, ◌+◌, ◌-◌, ◌≤◌, ◌++◌, length}
use Rattle.mds_rule.specs.Events.{kept_calls}
use Rattle.mds_sends.specs.Kept.{numbered_kept}
use Rattle.mds_sends.proofs.GoesKept.{left_from}
use Rattle.mds_sends.proofs.kept.kept_calls.Given as goal

abbrev pub invariant-loop-file : goal.invariant-loop-file
invariant-loop-file l = (1 ≤ l.from) × (l.kept.items ++ left_from l.fn.state.files l.from ≡ numbered_kept 1 (kept_calls l.fn.state))

abbrev pub decreases-loop-file : goal.decreases-loop-file
decreases-loop-file l = length l.fn.state.files + 1 - l.from
