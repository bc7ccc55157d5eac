use Rattle.std.proofs.Common.{◌≡◌, drop}
use Rattle.cluster_model.specs.Phases.{can_swap_all, with_targets}
use Rattle.layout_state.proofs.copies.swap_all.Given as goal

abbrev pub invariant-loop-target : goal.invariant-loop-target
invariant-loop-target l = record {
  told : can_swap_all (drop l.target-index l.targets) l.live ≡ can_swap_all l.targets l.initial.live;
  swapped : with_targets (drop l.target-index l.targets) l.live ≡ with_targets l.targets l.initial.live;
}
