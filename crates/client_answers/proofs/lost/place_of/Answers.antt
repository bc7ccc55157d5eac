use Rattle.std.proofs.Common.{◌≤◌, length, sym, ◌∙◌, arith}
use Rattle.std.proofs.lemmas.Bool.{and_parts}
use Rattle.std.proofs.lemmas.Iterator.Adapters.{position_from-zero}
use Rattle.cluster_model.specs.declared.ids.Mirror.{Mirror}
use Rattle.cluster_model.specs.Journal.{is_mirror}
use Rattle.cluster_model.proofs.MirrorLists.{le_from_test}
use Rattle.client_answers.proofs.OverAnswers.{first_here, first_later, first_none, none_at}
use Rattle.client_answers.proofs.lost.place_of.Goals as goal

pub loop-place-init : goal.loop-place-init
loop-place-init c = position_from-zero (λ (m : Mirror). is_mirror c.args.id m.id) c.args.mirrors.now

pub returns-in_default-clause-place : goal.returns-in_default-clause-place
returns-in_default-clause-place c =
    sym (first_none (λ (m : Mirror). is_mirror c.args.id m.id) c.args.mirrors.now c.loop-place.place (none_at c.args.mirrors.now c.loop-place.place (sym c.get.ensures ∙ c.in_default.is)) c.loop-place.invariant)

pub returns-then-eq-clause-place : goal.returns-then-eq-clause-place
returns-then-eq-clause-place c =
    sym (first_here (λ (m : Mirror). is_mirror c.args.id m.id) c.args.mirrors.now c.loop-place.place c.in-Some.mirror (sym c.get.ensures ∙ c.in-Some.is) c.loop-place.invariant (sym c.eq.ensures ∙ c.if-eq.true))

pub returns-then-eq-clause-within : goal.returns-then-eq-clause-within
returns-then-eq-clause-within c =
    let few : length c.args.mirrors.now ≤ 4 = le_from_test _ (and_parts _ _ c.len-place-end.ensures.mirrors).0 in
    omega (arith, few, c.loop-place-test.true, c.len-place-end.ensures.count)

pub loop-place-preserved : goal.loop-place-preserved
loop-place-preserved c =
    first_later (λ (m : Mirror). is_mirror c.args.id m.id) c.args.mirrors.now c.loop-place.place c.in-Some.mirror (sym c.get.ensures ∙ c.in-Some.is) c.loop-place.invariant (sym c.eq.ensures ∙ c.if-eq.false)
