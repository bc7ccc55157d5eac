use Rattle.std.proofs.Common.{◌≡◌, drop}
use Rattle.std.specs.Prelude.{◌==◌}
use Rattle.std.specs.List.{position, position_from}
use Rattle.cluster_model.specs.declared.ids.Mirror.{Mirror}
use Rattle.served_files.proofs.sending.place_among.Given as goal

abbrev pub invariant-loop-place : goal.invariant-loop-place
invariant-loop-place l = position (λ (m : Mirror). m.id.server == l.server) l.live ≡ position_from (λ (m : Mirror). m.id.server == l.server) l.place (drop l.place l.live)
