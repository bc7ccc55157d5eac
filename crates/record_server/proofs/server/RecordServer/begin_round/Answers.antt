use Rattle.record_server.specs.Server.{Begins}
use Rattle.record_server.proofs.RoundLemmas.{begun, began}
use Rattle.record_server.proofs.server.RecordServer.begin_round.Goals as goal

pub returns : goal.returns
returns g c =
    let begins = begun c.args.self.now c.sweep.new.self c.ask.new.self c.ask.result c.if-not-ask.false c.requires c.sweep.ensures c.ask.ensures in
    began c.args.self.now c.ask.new.self c.accept_all.new.self c.accept_all.result (Begins begins.0 begins.1) tt begins.2 c.accept_all.ensures
