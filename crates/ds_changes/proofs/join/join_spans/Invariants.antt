use Rattle.std.proofs.Common.{[], ◌∷◌, ◌++◌, length}
use Rattle.ds_changes.proofs.Spanning.{Joining}
use Rattle.ds_changes.proofs.join.join_spans.Given as goal

abbrev pub invariant-loop-span : goal.invariant-loop-span
invariant-loop-span l = Joining l.fn.spans (l.done.items ++ l.last ∷ []) l.last.at l.rest

abbrev pub decreases-loop-span : goal.decreases-loop-span
decreases-loop-span l = length l.rest
