use Rattle.std.proofs.Common.{◌+◌, ◌<◌, length, Ok, false, sym, ap, ◌∙◌, subst}
use Rattle.std.specs.Prelude.{IfSome}
use Rattle.std.specs.List.{find}
use Rattle.nfs4_types.specs.declared.ids.SessionId.{SessionId}
use Rattle.nfs4_session.specs.Clients.{SessionState, SessionsState, has_id, change_first, with_clients, new_session, session_id}
use Rattle.nfs4_session.specs.CreateSessions.{with_new_session}
use Rattle.nfs4_session.specs.Asked.{without_place, CreatesDue}
use Rattle.nfs4_session.specs.Standing.{with_numbers}
use Rattle.nfs4_session.proofs.Creates.{creates_due, length_changed, no_error}
use Rattle.nfs4_session.proofs.sessions.Sessions.make_session.Goals as goal

pub remove_at-requires : goal.remove_at-requires
remove_at-requires c =
    let s = c.args.self.now in
    let added = no_error c.add_session.result c.is_err.result c.is_err.ensures.value c.if-is_err.false c.add_session.ensures.ok in
    let size = ap (λ (u : SessionsState). length u.clients) (c.count_session.ensures ∙ ap (λ (m : SessionsState). with_numbers m (m.numbers + 1)) added) ∙ length_changed (has_id c.args.client) (with_new_session c.in-Ok.session c.args.now) s.clients in
    subst (λ n. IfSome c.before_restart-place.result (λ at. at < n)) (sym size) c.before_restart-place.ensures.within

pub returns : goal.returns
returns c =
    let s = c.args.self.now in
    let place = c.before_restart-place.result in
    let added = no_error c.add_session.result c.is_err.result c.is_err.ensures.value c.if-is_err.false c.add_session.ensures.ok in
    let number = ap (λ n. new_session (n + 1) c.args.node c.args.program) c.numbers-number.ensures in
    let done = c.remove_at.ensures ∙ ap (λ (u : SessionsState). with_clients u (without_place u.clients place)) (c.count_session.ensures ∙ ap (λ (m : SessionsState). with_numbers m (m.numbers + 1))
    (added ∙ ap (λ (session : SessionState). with_clients s (change_first (has_id c.args.client) (with_new_session session c.args.now) s.clients)) (c.in-Ok.ensures ∙ number))) in
    let id = c.session_id.ensures ∙ ap (λ n. session_id c.args.client (n + 1)) c.numbers-number.ensures in
    subst (λ (i : SessionId). CreatesDue s (find (has_id c.args.client) s.clients) c.args.client c.args.program c.args.node c.args.now (Ok (record { session = i; gone = c.id_at-gone.result; replayed = false })) c.remove_at.new.self) (sym id)
    (creates_due s c.remove_at.new.self c.args.client c.args.program c.args.node c.args.now place c.id_at-gone.result c.requires.known c.before_restart-place.ensures.exact c.id_at-gone.ensures done)
