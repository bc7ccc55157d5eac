use Rattle.std.proofs.Common.{sym, ap, ◌∙◌}
use Rattle.std.specs.List.{position}
use Rattle.nfs4_session.specs.Clients.{has_number}
use Rattle.nfs4_session.proofs.FirstLemmas.{found, missing, not_found}
use Rattle.nfs4_session.proofs.client_sessions.destroy_in.Goals as goal

pub returns-in_default : goal.returns-in_default
returns-in_default c =
    let seen = c.place_of.ensures ∙ ap (position (has_number c.args.session)) c.deref.ensures.value in
    sym (missing (has_number c.args.session) c.args.sessions.now.items (not_found _ _ seen c.in_default.not-Some)).removes

pub returns : goal.returns
returns c =
    let at = sym (ap (position (has_number c.args.session)) c.deref.ensures.value) ∙ sym c.place_of.ensures ∙ c.in-Some.is in
    c.remove.ensures.items ∙ sym (found (has_number c.args.session) c.args.sessions.now.items c.in-Some.place at).removes
