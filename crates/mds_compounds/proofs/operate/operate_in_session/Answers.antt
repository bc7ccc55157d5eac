use Rattle.std.proofs.Common.{refl, sym, ap, ◌∙◌, ◌≡◌, false}
use Rattle.mds_rule.specs.MdsStates.{CompoundRun}
use Rattle.mds_rule.specs.Compounds.{has_session}
use Rattle.mds_state.proofs.OpLemmas.{refusal_unless}
use Rattle.mds_compounds.proofs.operate.operate_in_session.Goals as goal

pub returns-then-not-has_session-clause-op : goal.returns-then-not-has_session-clause-op
returns-then-not-has_session-clause-op c =
    let m = c.args.state.now in
    let none : has_session m c.args.run.now.slot ≡ false = ap (λ (r : CompoundRun). has_session m r.slot) (sym c.run.view_is) ∙ sym c.has_session.ensures ∙ c.if-not-has_session.true in
    rw (← c.number.ensures) (refusal_unless m m c.args.run.now c.refuse.new.self c.number.result _ (has_session m c.args.run.now.slot) _ c.refuse.result c.args.out.now none refl c.refuse.ensures.ends c.refuse.ensures.run)
