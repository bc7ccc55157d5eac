use Rattle.std.proofs.Common.{◌≡◌, true, take}
use Rattle.std.specs.Prelude.{slice_get}
use Rattle.std.specs.List.{list_all}
use Rattle.mirror_writer.specs.Writers.{covered_flag}
use Rattle.mirror_writer.proofs.mirrors.all_cover.Given as goal

abbrev pub invariant-loop-mirror : goal.invariant-loop-mirror
invariant-loop-mirror l = list_all (λ r. covered_flag (slice_get r.mirror.covered l.n)) (take l.mirror-index l.mirrors) ≡ true
