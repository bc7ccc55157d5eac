use Rattle.device_addr.proofs.AddressLemmas.{when_none, six, dotted_behind, none_first, none_last}
use Rattle.device_addr.proofs.net_addr.parse_universal.Goals as goal

pub returns-in_err-first-clause-text : goal.returns-in_err-first-clause-text
returns-in_err-first-clause-text c =
    when_none _ _ c.from_residual.result c.from_residual.ensures
    (λ a good is. none_first 4 c.args.text.now (six c.args.text.now a good is) c.in_err-first.ensures)

pub returns-in_err-second-clause-text : goal.returns-in_err-second-clause-text
returns-in_err-second-clause-text c =
    when_none _ _ c.from_residual-in_err-second.result c.from_residual-in_err-second.ensures
    (λ a good is. none_first 3 c.in_ok-first.rest.now
    (dotted_behind 4 _ _ _ (six c.args.text.now a good is) c.in_ok-first.ensures)
    c.in_err-second.ensures)

pub returns-in_err-third-clause-text : goal.returns-in_err-third-clause-text
returns-in_err-third-clause-text c =
    when_none _ _ c.from_residual-in_err-third.result c.from_residual-in_err-third.ensures
    (λ a good is. none_first 2 c.in_ok-second.rest.now
    (dotted_behind 3 c.in_ok-second.second c.in_ok-first.rest.now c.in_ok-second.rest.now
    (dotted_behind 4 c.in_ok-first.first c.args.text.now c.in_ok-first.rest.now (six c.args.text.now a good is) c.in_ok-first.ensures) c.in_ok-second.ensures)
    c.in_err-third.ensures)

pub returns-in_err-fourth-clause-text : goal.returns-in_err-fourth-clause-text
returns-in_err-fourth-clause-text c =
    when_none _ _ c.from_residual-in_err-fourth.result c.from_residual-in_err-fourth.ensures
    (λ a good is. none_first 1 c.in_ok-third.rest.now
    (dotted_behind 2 c.in_ok-third.third c.in_ok-second.rest.now c.in_ok-third.rest.now
    (dotted_behind 3 c.in_ok-second.second c.in_ok-first.rest.now c.in_ok-second.rest.now
    (dotted_behind 4 c.in_ok-first.first c.args.text.now c.in_ok-first.rest.now (six c.args.text.now a good is) c.in_ok-first.ensures) c.in_ok-second.ensures)
    c.in_ok-third.ensures) c.in_err-fourth.ensures)

pub returns-in_err-high-clause-text : goal.returns-in_err-high-clause-text
returns-in_err-high-clause-text c =
    when_none _ _ c.from_residual-in_err-high.result c.from_residual-in_err-high.ensures
    (λ a good is. none_first 0 c.in_ok-fourth.rest.now
    (dotted_behind 1 c.in_ok-fourth.fourth c.in_ok-third.rest.now c.in_ok-fourth.rest.now
    (dotted_behind 2 c.in_ok-third.third c.in_ok-second.rest.now c.in_ok-third.rest.now
    (dotted_behind 3 c.in_ok-second.second c.in_ok-first.rest.now c.in_ok-second.rest.now
    (dotted_behind 4 c.in_ok-first.first c.args.text.now c.in_ok-first.rest.now (six c.args.text.now a good is) c.in_ok-first.ensures) c.in_ok-second.ensures)
    c.in_ok-third.ensures) c.in_ok-fourth.ensures) c.in_err-high.ensures)

pub returns-in_err-low-clause-text : goal.returns-in_err-low-clause-text
returns-in_err-low-clause-text c =
    when_none _ _ c.from_residual-in_err-low.result c.from_residual-in_err-low.ensures
    (λ a good is. none_last c.in_ok-high.rest.now
    (dotted_behind 0 c.in_ok-high.high c.in_ok-fourth.rest.now c.in_ok-high.rest.now
    (dotted_behind 1 c.in_ok-fourth.fourth c.in_ok-third.rest.now c.in_ok-fourth.rest.now
    (dotted_behind 2 c.in_ok-third.third c.in_ok-second.rest.now c.in_ok-third.rest.now
    (dotted_behind 3 c.in_ok-second.second c.in_ok-first.rest.now c.in_ok-second.rest.now
    (dotted_behind 4 c.in_ok-first.first c.args.text.now c.in_ok-first.rest.now (six c.args.text.now a good is) c.in_ok-first.ensures) c.in_ok-second.ensures)
    c.in_ok-third.ensures) c.in_ok-fourth.ensures) c.in_ok-high.ensures) c.in_err-low.ensures)
