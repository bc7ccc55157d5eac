use Rattle.std.proofs.Common.{sym, ap, ◌∙◌}
use Rattle.std.specs.List.{position}
use Rattle.nfs4_session.specs.Clients.{ClientState, SessionsState, has_id, change_first, with_clients}
use Rattle.nfs4_session.specs.Changes.{changed}
use Rattle.nfs4_session.proofs.FirstLemmas.{changed_there, missing, not_found}
use Rattle.nfs4_session.proofs.Changing.{same_id, same_owner, stands_set}
use Rattle.nfs4_session.proofs.sessions.Sessions.change.Goals as goal

pub returns-in_default : goal.returns-in_default
returns-in_default c =
    sym (ap (with_clients c.args.self.now) ((missing (has_id c.args.client) c.args.self.now.clients (not_found _ _ c.place.ensures c.in_default.not-Some)).changes (changed c.args.change)))

pub invariant_of-self : goal.invariant_of-self
invariant_of-self c =
    let at = ap (λ (s : SessionsState). position (has_id c.args.client) s.clients) c.self.view_is ∙ sym c.place.ensures ∙ c.in-Some.is in
    let x = c.index_mut-record.result.now in
    stands_set c.args.client c.self.inside.places.keys c.self.inside.clients.items c.self.inside.boot c.self.inside.ids c.self.inside.owners c.in-Some.place x c.change.new.self
    at c.index_mut-record.ensures.value (ap (λ (r : ClientState). r.id) c.change.ensures ∙ same_id c.args.change x) (ap (λ (r : ClientState). r.owner) c.change.ensures ∙ same_owner c.args.change x) c.self.invariant

pub returns : goal.returns
returns c =
    let at = ap (λ (s : SessionsState). position (has_id c.args.client) s.clients) c.self.view_is ∙ sym c.place.ensures ∙ c.in-Some.is in
    let items = c.self.inside.clients.items in
    let x = c.index_mut-record.result.now in
    let seen : SessionsState = record { boot = c.self.inside.boot; clients = items; ids = c.self.inside.ids; numbers = c.self.inside.numbers } in
    ap (with_clients seen) (changed_there (has_id c.args.client) (changed c.args.change) items c.in-Some.place x c.change.new.self at c.index_mut-record.ensures.value (c.change.ensures ∙ ap (changed c.args.change) c.index_mut-record.ensures.value))
    ∙ ap (λ (s : SessionsState). with_clients s (change_first (has_id c.args.client) (changed c.args.change) s.clients)) c.self.view_is
