use Rattle.std.proofs.Common.{Option, sym, ap, ◌∙◌}
use Rattle.nfs4_session.specs.Clients.{SessionState, has_number}
use Rattle.nfs4_session.specs.Bindings.{bound_last}
use Rattle.nfs4_session.proofs.FirstLemmas.{missing, not_found}
use Rattle.nfs4_session.proofs.Bound.{bound_there}
use Rattle.nfs4_session.proofs.client_sessions.bind_in.Goals as goal

pub returns-in_default : goal.returns-in_default
returns-in_default c =
    let gone = missing (has_number c.args.session) c.args.sessions.now (not_found _ _ c.place_of.ensures c.in_default.not-Some) in
    sym (ap (λ (s : Option SessionState). bound_last c.args.session c.args.node c.args.sessions.now s) gone.finds)

pub returns : goal.returns
returns c =
    bound_there c.args.session c.args.node c.args.sessions.now c.in-Some.place c.index-sessions-place.result c.bind.new.self c.rotate_left.new.self
    (sym c.place_of.ensures ∙ c.in-Some.is) c.index-sessions-place.is c.bind.ensures c.rotate_left.ensures.after
