use Rattle.std.proofs.Common.{sym, ◌∙◌}
use Rattle.nfs4_session.specs.ExchangeIds.{exchange_case}
use Rattle.nfs4_session.proofs.TakesIn.{exchanges_known}
use Rattle.nfs4_session.proofs.sessions.Sessions.exchange_id.Goals as goal

pub returns-in-Some : goal.returns-in-Some
returns-in-Some c =
    exchanges_known c.args.self.now c.change.new.self c.args.verifier c.args.owner.now c.args.now c.in-Some.known (exchange_case c.args.self.now.clients c.args.verifier c.args.owner.now)
    (sym c.record_known.ensures ∙ c.in-Some.is) c.change.ensures
