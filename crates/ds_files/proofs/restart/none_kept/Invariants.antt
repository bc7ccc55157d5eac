use Rattle.std.proofs.Common.{◌≡◌, replicate, None}
use Rattle.ds_files.proofs.restart.none_kept.Given as goal

abbrev pub invariant-loop : goal.invariant-loop
invariant-loop l = l.kept.items ≡ replicate l.index None
