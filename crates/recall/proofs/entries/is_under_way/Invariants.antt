use Rattle.std.proofs.Common.{◌≡◌, false, take}
use Rattle.std.specs.List.{list_any}
use Rattle.recall.specs.Recalls.{is_of}
use Rattle.recall.proofs.entries.is_under_way.Given as goal

abbrev pub invariant-loop-entry : goal.invariant-loop-entry
invariant-loop-entry l = list_any (λ e. is_of l.file l.cred e.recall) (take l.entry-index l.entries) ≡ false
