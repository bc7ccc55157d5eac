use Rattle.std.proofs.Common.{◌≡◌, drop}
use Rattle.std.specs.Prelude.{◌==◌}
use Rattle.std.specs.List.{find}
use Rattle.mirror_writer.proofs.mirrors.first_on.Given as goal

abbrev pub invariant-loop-mirror : goal.invariant-loop-mirror
invariant-loop-mirror l = find (λ r. r.mirror.id.server == l.server) l.mirrors ≡ find (λ r. r.mirror.id.server == l.server) (drop l.mirror-index l.mirrors)
