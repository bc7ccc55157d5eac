use Rattle.std.proofs.Common.{◌≡◌, ◌++◌, take}
use Rattle.cluster_model.specs.Print.{print}
use Rattle.ff_replay.proofs.writing.print_whole.Given as goal

abbrev pub invariant-loop-entry : goal.invariant-loop-entry
invariant-loop-entry l = l.out ≡ l.fn.out ++ print (take l.entry-index l.entries)
