use Rattle.std.proofs.Common.{◌≡◌, ◌++◌, map, take, drop}
use Rattle.cluster_model.specs.Fences.{stage_at_tick}
use Rattle.file_rule.specs.MdsFiles.{in_stage}
use Rattle.mds_creations.proofs.creations.tick_all.Given as goal

abbrev pub invariant-loop-item : goal.invariant-loop-item
invariant-loop-item l = l.item-items ≡ map (λ c. in_stage c (stage_at_tick c.stage)) (take l.item-index l.fn.items) ++ drop l.item-index l.fn.items
