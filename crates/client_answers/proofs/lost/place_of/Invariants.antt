use Rattle.std.proofs.Common.{◌≡◌, drop}
use Rattle.std.specs.List.{position, position_from}
use Rattle.cluster_model.specs.declared.ids.Mirror.{Mirror}
use Rattle.cluster_model.specs.Journal.{is_mirror}
use Rattle.client_answers.proofs.lost.place_of.Given as goal

abbrev pub invariant-loop-place : goal.invariant-loop-place
invariant-loop-place l = position (λ (m : Mirror). is_mirror l.id m.id) l.mirrors ≡ position_from (λ (m : Mirror). is_mirror l.id m.id) l.place (drop l.place l.mirrors)
