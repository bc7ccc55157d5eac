use Rattle.std.proofs.Common.{sym, ap, ◌∙◌}
use Rattle.std.specs.List.{position}
use Rattle.nfs4_session.specs.ExchangeIds.{is_unconfirmed_of}
use Rattle.nfs4_session.proofs.FirstLemmas.{found, missing, not_found}
use Rattle.nfs4_session.proofs.TakesIn.{takes_over, takes_new}
use Rattle.nfs4_session.proofs.sessions.Sessions.take_in.Goals as goal

pub returns-in-Some-clause-ok : goal.returns-in-Some-clause-ok
returns-in-Some-clause-ok c =
    let test = is_unconfirmed_of c.args.owner.now in
    let seen = c.first-replaced.ensures.exact ∙ ap (position test) c.clients.ensures in
    takes_over c.args.self.now c.add_client.new.self c.remove.new.self c.args.verifier c.args.owner.now c.args.now c.in-Some.place
    (found test c.args.self.now.clients c.in-Some.place (sym seen ∙ c.in-Some.is)) c.in_ok-client.ensures.ok c.remove.ensures

pub returns-in_default-clause-ok : goal.returns-in_default-clause-ok
returns-in_default-clause-ok c =
    let test = is_unconfirmed_of c.args.owner.now in
    let seen = c.first-replaced.ensures.exact ∙ ap (position test) c.clients.ensures in
    takes_new c.args.self.now c.add_client.new.self c.args.verifier c.args.owner.now c.args.now
    (missing test c.args.self.now.clients (not_found _ _ seen c.in_default.not-Some)) c.in_ok-client.ensures.ok
