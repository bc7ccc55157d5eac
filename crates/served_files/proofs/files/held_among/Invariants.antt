use Rattle.std.proofs.Common.{◌≡◌, ◌+◌, ◌++◌, drop}
use Rattle.mds_rule.specs.ServedFiles.{held_from}
use Rattle.served_files.proofs.files.held_among.Given as goal

abbrev pub invariant-loop-place : goal.invariant-loop-place
invariant-loop-place l = held_from l.client 1 l.files ≡ l.held.items ++ held_from l.client (l.place + 1) (drop l.place l.files)
