use Rattle.std.proofs.Common.{sym, ap, ◌∙◌}
use Rattle.nfs4_session.specs.Clients.{with_clients, has_id}
use Rattle.nfs4_session.proofs.FirstLemmas.{found, missing, not_found}
use Rattle.nfs4_session.proofs.sessions.Sessions.forget.Goals as goal

pub returns-in_default : goal.returns-in_default
returns-in_default c =
    sym (ap (with_clients c.args.self.now) (missing (has_id c.args.client) c.args.self.now.clients (not_found _ _ c.place.ensures c.in_default.not-Some)).removes)

pub returns : goal.returns
returns c =
    c.remove.ensures ∙ sym (ap (with_clients c.args.self.now) (found (has_id c.args.client) c.args.self.now.clients c.in-Some.place (sym c.place.ensures ∙ c.in-Some.is)).removes)
