use Rattle.std.proofs.Common.{sym, ap, ◌∙◌}
use Rattle.std.specs.Prelude.{◌==◌}
use Rattle.std.proofs.lemmas.Bool.{eq-eqb, ne_eqb}
use Rattle.std.proofs.lemmas.Iterator.Adapters.{position_from-zero}
use Rattle.cluster_model.specs.declared.ids.Mirror.{Mirror}
use Rattle.mds_rule.specs.Goes.{place_or_last}
use Rattle.served_files.proofs.Walks.{first_here, first_later, first_none, none_at}
use Rattle.served_files.proofs.sending.place_among.Goals as goal

pub loop-place-init : goal.loop-place-init
loop-place-init c = position_from-zero (λ (m : Mirror). m.id.server == c.args.server) c.args.live

pub returns-in_default : goal.returns-in_default
returns-in_default c =
    ap place_or_last (sym (first_none (λ (m : Mirror). m.id.server == c.args.server) c.args.live c.loop-place.place (none_at c.args.live c.loop-place.place (sym c.get.ensures ∙ c.in_default.is)) c.loop-place.invariant))

pub returns-then-mirror-server : goal.returns-then-mirror-server
returns-then-mirror-server c =
    ap place_or_last (sym (first_here (λ (m : Mirror). m.id.server == c.args.server) c.args.live c.loop-place.place c.in-Some.mirror (sym c.get.ensures ∙ c.in-Some.is) c.loop-place.invariant (eq-eqb c.in-Some.mirror.id.server c.args.server c.if-mirror-server.true)))

pub loop-place-preserved : goal.loop-place-preserved
loop-place-preserved c =
    first_later (λ (m : Mirror). m.id.server == c.args.server) c.args.live c.loop-place.place c.in-Some.mirror (sym c.get.ensures ∙ c.in-Some.is) c.loop-place.invariant (ne_eqb c.in-Some.mirror.id.server c.args.server c.if-mirror-server.false)
