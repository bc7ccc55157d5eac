use Rattle.std.proofs.Common.{◌≡◌, ◌-◌, ◌≤◌, ℕ, List, Option}
use Rattle.std.specs.List.{range_with_len}
use Rattle.cluster_model.specs.declared.outbox.Outbox.{Outbox}
use Rattle.mds_rule.specs.MdsStates.{MdsValue}
use Rattle.mds_rule.specs.Goes.{each, file_calls, calls_out}
use Rattle.compound_run.specs.CompoundRuns.{HasMadeStep}
use Rattle.mds_sends.specs.Kept.{numbered_kept}
use Rattle.mds_sends.proofs.GoesKept.{IsLeft}
use Rattle.mds_sends.proofs.all.call_all.Given as goal

abbrev pub invariant-loop-number : goal.invariant-loop-number
invariant-loop-number l =
    (1 ≤ l.from) × (l.from ≤ l.end)
    × ((list : List (Option (ℕ × ℕ))) → l.fn.kept ≡ numbered_kept 1 list → IsLeft list l.from l.rest)
    × ((list : List (Option (ℕ × ℕ))) → l.fn.kept ≡ numbered_kept 1 list → (m : MdsValue) (new : Outbox) → HasMadeStep (each (file_calls list) (range_with_len l.from (l.end - l.from)) l.state) l.out m new
    → HasMadeStep (calls_out list l.fn.state) l.fn.out m new)

abbrev pub decreases-loop-number : goal.decreases-loop-number
decreases-loop-number l = l.end - l.from
