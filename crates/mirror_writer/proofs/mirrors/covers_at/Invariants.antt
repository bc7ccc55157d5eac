use Rattle.std.proofs.Common.{◌≡◌, drop}
use Rattle.std.specs.List.{find}
use Rattle.cluster_model.specs.Journal.{is_mirror}
use Rattle.mirror_writer.proofs.mirrors.covers_at.Given as goal

abbrev pub invariant-loop-mirror : goal.invariant-loop-mirror
invariant-loop-mirror l = find (λ r. is_mirror l.id r.mirror.id) l.mirrors ≡ find (λ r. is_mirror l.id r.mirror.id) (drop l.mirror-index l.mirrors)
