use Rattle.std.proofs.Common.{◌∙◌, ℕ, suc, [], ◌∷◌, List, map, take, ap, subst, sym, arith, get_or}
use Rattle.std.proofs.lemmas.List.{take_all}
use Rattle.record_server.specs.Server.{AreRising, resumed_by}
use Rattle.record_server.proofs.OrderLemmas.{rising_map}
use Rattle.record_server.proofs.NumberLemmas.{resumed_number}
use Rattle.record_server.proofs.RoundLemmas.{resumed_next}
use Rattle.record_server.proofs.rounds.resume_reported.Goals as goal

pub resume_one-requires-in-loop-number : goal.resume_one-requires-in-loop-number
resume_one-requires-in-loop-number g c =
    let done = take (suc c.loop-number.number-index) c.args.reports.now in
    subst (AreRising 0) (sym c.loop-number.invariant) (rising_map (resumed_by done) (resumed_number done) 0 c.args.peers.now c.requires)

pub loop-number-preserved : goal.loop-number-preserved
loop-number-preserved g c =
    let i = c.loop-number.number-index in
    c.resume_one-in-loop-number.ensures
    ∙ ap (map (resumed_by (get_or c.in-Some.rest.now i 0 ∷ []))) c.loop-number.invariant
    ∙ resumed_next c.args.reports.now c.in-Some.rest.now c.in-Some.first.now i c.args.peers.now c.in-Some.ensures.cases.0 c.loop-number-test.true

pub returns : goal.returns
returns g c =
    let long = c.in-Some.ensures.cases.1 in
    let past = c.loop-number-test.false in
    c.loop-number.invariant
    ∙ ap (λ (ns : List ℕ). map (resumed_by ns) c.args.peers.now) (take_all (suc c.loop-number.number-index) c.args.reports.now (omega (arith, long, past)))
