use Rattle.std.proofs.Common.{sym, ap, ◌∙◌}
use Rattle.std.specs.List.{find, position}
use Rattle.nfs4_session.specs.Clients.{SessionsState, has_id}
use Rattle.nfs4_session.proofs.FirstLemmas.{reads, missing}
use Rattle.nfs4_session.proofs.sessions.Sessions.record.Goals as goal

pub returns-in-Some : goal.returns-in-Some
returns-in-Some c =
    let at = ap (λ (s : SessionsState). position (has_id c.args.client) s.clients) c.self.view_is ∙ sym c.place.ensures ∙ c.in-Some.is in
    sym (reads (has_id c.args.client) c.self.inside.clients.items c.in-Some.place c.index.result.now at c.index.ensures)
    ∙ ap (λ (s : SessionsState). find (has_id c.args.client) s.clients) c.self.view_is

pub returns-in-None : goal.returns-in-None
returns-in-None c = sym (missing (has_id c.args.client) c.args.self.now.clients (sym c.place.ensures ∙ c.in-None.is)).finds
