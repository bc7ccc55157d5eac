use Rattle.std.proofs.Common.{◌≡◌, drop}
use Rattle.std.specs.Prelude.{find}
use Rattle.mds_rule.specs.MdsStates.{is_size_of}
use Rattle.file_notes.proofs.sizes.size_at.Given as goal

abbrev pub invariant-loop-seen : goal.invariant-loop-seen
invariant-loop-seen l = find (is_size_of l.id) l.sizes ≡ find (is_size_of l.id) (drop l.seen-index l.sizes)
