use Rattle.std.proofs.Common.{◌≡◌, drop}
use Rattle.std.specs.List.{find}
use Rattle.recall.specs.Entries.{is_out_to}
use Rattle.recall.proofs.entries.holder.Given as goal

abbrev pub invariant-loop-entry : goal.invariant-loop-entry
invariant-loop-entry l = find (λ e. is_out_to l.client e.recall) l.entries ≡ find (λ e. is_out_to l.client e.recall) (drop l.entry-index l.entries)
