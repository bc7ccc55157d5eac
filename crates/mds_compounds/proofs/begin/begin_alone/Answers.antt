use Rattle.std.proofs.Common.{refl, sym, ◌∙◌}
use Rattle.std.proofs.lemmas.Bool.{ne_eqb}
use Rattle.mds_state.proofs.OpLemmas.{refusal_unless}
use Rattle.mds_compounds.proofs.BeginLemmas.{not_only}
use Rattle.mds_compounds.proofs.begin.begin_alone.Goals as goal

pub returns-then-not-may_stand_alone-clause-op : goal.returns-then-not-may_stand_alone-clause-op
returns-then-not-may_stand_alone-clause-op c =
    rw (← c.number-number.ensures)
    (refusal_unless c.args.state.now c.args.state.now c.args.run.now c.refuse.new.self c.number-number.result _ _ _ c.refuse.result c.args.out.now (sym c.may_stand_alone.ensures ∙ c.if-not-may_stand_alone.true) refl c.refuse.ensures.ends c.refuse.ensures.run)

pub returns-then-count-ne1-clause-op : goal.returns-then-count-ne1-clause-op
returns-then-count-ne1-clause-op c =
    rw (← c.number-number.ensures)
    (not_only c.args.state.now c.args.run.now c.refuse-then-count-ne1.new.self c.number-number.result _ _ _ c.refuse-then-count-ne1.result c.args.out.now (sym c.may_stand_alone.ensures ∙ c.if-not-may_stand_alone.false) (ne_eqb c.args.count 1 c.if-count-ne1.true) c.refuse-then-count-ne1.ensures.ends
    c.refuse-then-count-ne1.ensures.run)
