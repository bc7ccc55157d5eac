use Rattle.std.proofs.Common.{List, filter, refl, sym, ap, ◌∙◌}
use Rattle.open_state.specs.declared.open.Open.{Open}
use Rattle.open_state.specs.Opens.{is_other, set_opens}
use Rattle.open_state.proofs.OfClients.{found_some, set_is, set_none}
use Rattle.open_state.proofs.opens.remove.Goals as goal

pub returns-in-Some : goal.returns-in-Some
returns-in-Some c =
    let es = c.args.clients.now.entries in
    let w = c.get_mut.follows.holds c.remove.new.self in
    w.0
    ∙ set_is c.args.client c.remove.new.self es
    ∙ ap (λ (l : List Open). set_opens c.args.client l es) (c.remove.ensures ∙ ap (filter (is_other c.args.file)) (sym (found_some es c.args.client c.in-Some.opens.now c.in-Some.ensures.value)))

pub returns-in_default : goal.returns-in_default
returns-in_default c =
    ap (λ m. m.entries) c.get_mut.follows.holds-at-none ∙ sym (set_none c.args.client (filter (is_other c.args.file)) c.args.clients.now.entries c.in_default.ensures.value refl)
