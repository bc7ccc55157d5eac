use Rattle.std.proofs.Common.{◌≡◌, true, take}
use Rattle.std.specs.List.{list_all}
use Rattle.mirror_writer.proofs.mirrors.all_failed.Given as goal

abbrev pub invariant-loop-mirror : goal.invariant-loop-mirror
invariant-loop-mirror l = list_all (λ r. r.mirror.has_failed) (take l.mirror-index l.mirrors) ≡ true
