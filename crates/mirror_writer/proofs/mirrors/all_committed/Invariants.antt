use Rattle.std.proofs.Common.{◌≡◌, true, take}
use Rattle.std.specs.List.{list_all}
use Rattle.mirror_writer.specs.Writers.{is_committed}
use Rattle.mirror_writer.proofs.mirrors.all_committed.Given as goal

abbrev pub invariant-loop-mirror : goal.invariant-loop-mirror
invariant-loop-mirror l = list_all (λ r. is_committed r.mirror) (take l.mirror-index l.mirrors) ≡ true
