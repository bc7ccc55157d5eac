use Rattle.std.proofs.Common.{◌≡◌, length, ◌+◌, ◌-◌, ◌≤◌}
use Rattle.std.specs.List.{range_with_len}
use Rattle.cluster_model.specs.declared.outbox.Outbox.{Outbox}
use Rattle.file_rule.specs.FilePhases.{Ticks}
use Rattle.mds_rule.specs.MdsStates.{MdsValue, numbered}
use Rattle.mds_rule.specs.ServedFiles.{takes_input}
use Rattle.mds_rule.specs.Goes.{each}
use Rattle.compound_run.specs.CompoundRuns.{HasMadeStep}
use Rattle.mds_core.proofs.ticks.tick_files.Given as goal

abbrev pub invariant-loop-file : goal.invariant-loop-file
invariant-loop-file l =
    (1 ≤ l.from) × (l.from ≤ length l.fn.state.files + 1) × (length l.state.files ≡ length l.fn.state.files)
    × ((m : MdsValue) (new : Outbox) → HasMadeStep (each (λ n k. takes_input k (numbered n) Ticks) (range_with_len l.from (length l.fn.state.files + 1 - l.from)) l.state) l.out m new
    → HasMadeStep (each (λ n k. takes_input k (numbered n) Ticks) (range_with_len 1 (length l.fn.state.files)) l.fn.state) l.fn.out m new)

abbrev pub decreases-loop-file : goal.decreases-loop-file
decreases-loop-file l = length l.fn.state.files + 1 - l.from
