use Rattle.std.proofs.Common.{◌≡◌, take}
use Rattle.data_file.proofs.keeping.copy_writes.Given as goal

abbrev pub invariant-loop-write : goal.invariant-loop-write
invariant-loop-write l = l.copies.items ≡ take l.write-index l.writes
