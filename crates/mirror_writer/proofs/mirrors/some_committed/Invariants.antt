use Rattle.std.proofs.Common.{◌≡◌, false, take, not, ◌&&◌}
use Rattle.std.specs.List.{list_any}
use Rattle.mirror_writer.specs.Writers.{is_committed}
use Rattle.mirror_writer.proofs.mirrors.some_committed.Given as goal

abbrev pub invariant-loop-mirror : goal.invariant-loop-mirror
invariant-loop-mirror l = list_any (λ r. not r.mirror.has_failed && is_committed r.mirror) (take l.mirror-index l.mirrors) ≡ false
