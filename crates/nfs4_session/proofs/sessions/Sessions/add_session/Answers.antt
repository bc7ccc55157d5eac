use Rattle.std.proofs.Common.{◌≡◌, sym, ap, ◌∙◌}
use Rattle.std.specs.List.{position}
use Rattle.std.proofs.lemmas.Result.{on_ok_weaker}
use Rattle.nfs4_session.specs.Clients.{ClientState, SessionsState, has_id, change_first, with_clients}
use Rattle.nfs4_session.specs.CreateSessions.{with_new_session}
use Rattle.nfs4_session.proofs.FirstLemmas.{changed_there, missing, not_found}
use Rattle.nfs4_session.proofs.Changing.{added_id, added_owner, stands_set}
use Rattle.nfs4_session.proofs.sessions.Sessions.add_session.Goals as goal

pub returns-in_default-clause-ok : goal.returns-in_default-clause-ok
returns-in_default-clause-ok c =
    sym (ap (with_clients c.args.self.now) ((missing (has_id c.args.client) c.args.self.now.clients (not_found _ _ c.place.ensures c.in_default.not-Some)).changes (with_new_session c.args.session c.args.now)))

pub invariant_of-self : goal.invariant_of-self
invariant_of-self c =
    let at = ap (λ (s : SessionsState). position (has_id c.args.client) s.clients) c.self.view_is ∙ sym c.place.ensures ∙ c.in-Some.is in
    let x = c.index_mut-record.result.now in
    stands_set c.args.client c.self.inside.places.keys c.self.inside.clients.items c.self.inside.boot c.self.inside.ids c.self.inside.owners c.in-Some.place x c.add.new.self
    at c.index_mut-record.ensures.value (added_id c.add.result c.args.session c.args.now x c.add.new.self c.add.ensures.ok c.add.ensures.err) (added_owner c.add.result c.args.session c.args.now x c.add.new.self c.add.ensures.ok c.add.ensures.err) c.self.invariant

pub returns-clause-ok : goal.returns-clause-ok
returns-clause-ok c =
    let at = ap (λ (s : SessionsState). position (has_id c.args.client) s.clients) c.self.view_is ∙ sym c.place.ensures ∙ c.in-Some.is in
    let items = c.self.inside.clients.items in
    let x = c.index_mut-record.result.now in
    let f : ClientState → ClientState = with_new_session c.args.session c.args.now in
    let seen : SessionsState = record { boot = c.self.inside.boot; clients = items; ids = c.self.inside.ids; numbers = c.self.inside.numbers } in
    on_ok_weaker c.add.result (λ (is : c.add.new.self ≡ f x).
    ap (with_clients seen) (changed_there (has_id c.args.client) f items c.in-Some.place x c.add.new.self at c.index_mut-record.ensures.value (is ∙ ap f c.index_mut-record.ensures.value))
    ∙ ap (λ (s : SessionsState). with_clients s (change_first (has_id c.args.client) f s.clients)) c.self.view_is) c.add.ensures.ok
