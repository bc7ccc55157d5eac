use Rattle.std.proofs.Common.{[], ◌∷◌, ◌++◌, List, nat_eq, sym, ap, ◌∙◌}
use Rattle.std.proofs.lemmas.Result.{on_ok_weaker, on_err_weaker}
use Rattle.indexmap.specs.IndexMap.{insert_entry}
use Rattle.open_state.specs.declared.open.Open.{Open}
use Rattle.open_state.specs.Opens.{put_opens}
use Rattle.open_state.proofs.OfClients.{found_some, found_none, set_is, put_is, put_set, set_same}
use Rattle.open_state.proofs.opens.add.Goals as goal

pub returns-in-Some-clause-ok : goal.returns-in-Some-clause-ok
returns-in-Some-clause-ok c =
    let es = c.args.clients.now.entries in
    let w = c.get_mut.follows.holds c.push.new.self in
    on_ok_weaker c.push.result
    (λ pushed.
    w.0
    ∙ set_is c.args.client c.push.new.self es
    ∙ sym (put_set c.args.client c.push.new.self es c.in-Some.opens.now c.in-Some.ensures.value)
    ∙ ap (λ (l : List Open). put_opens c.args.client l es) (pushed ∙ ap (λ (l : List Open). l ++ c.args.newest ∷ []) (sym (found_some es c.args.client c.in-Some.opens.now c.in-Some.ensures.value))))
    c.push.ensures.ok

pub returns-in-Some-clause-err : goal.returns-in-Some-clause-err
returns-in-Some-clause-err c =
    let w = c.get_mut.follows.holds c.push.new.self in
    on_err_weaker c.push.result (λ same. w.0 ∙ set_same (nat_eq c.args.client) c.args.clients.now.entries c.in-Some.opens.now c.push.new.self c.in-Some.ensures.value same) c.push.ensures.err

pub returns-clause-ok : goal.returns-clause-ok
returns-clause-ok c =
    let es = c.args.clients.now.entries in
    c.in_ok-insert.ensures.entries
    ∙ ap (λ m. insert_entry nat_eq m.entries c.args.client c.in_ok-opens.opens) c.get_mut.follows.holds-at-none
    ∙ put_is c.args.client c.in_ok-opens.opens es
    ∙ ap (λ (l : List Open). put_opens c.args.client l es) (c.in_ok-opens.ensures ∙ ap (λ (l : List Open). l ++ c.args.newest ∷ []) (sym (found_none es c.args.client c.in_default.ensures.value)))
