use Rattle.std.proofs.Common.{sym, ◌∙◌}
use Rattle.nfs4_session.specs.Clients.{has_number}
use Rattle.nfs4_session.specs.Bindings.{called_back}
use Rattle.nfs4_session.proofs.FirstLemmas.{changed_there, missing, not_found}
use Rattle.nfs4_session.proofs.client_sessions.call_back_in.Goals as goal

pub returns : goal.returns
returns c =
    changed_there (has_number c.args.session) called_back c.args.sessions.now c.in-Some.place c.index-sessions-place.result c.call_back.new.self
    (sym c.place_of.ensures ∙ c.in-Some.is) c.index-sessions-place.is c.call_back.ensures

pub returns-in_default : goal.returns-in_default
returns-in_default c = sym ((missing (has_number c.args.session) c.args.sessions.now (not_found _ _ c.place_of.ensures c.in_default.not-Some)).changes called_back)
