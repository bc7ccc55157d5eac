use Rattle.record_server.proofs.RoundLemmas.{ends_behind}
use Rattle.record_server.proofs.server.RecordServer.end_round.Goals as goal

pub returns : goal.returns
returns g c = ends_behind c.args.self.now c.spill.new.self c.end_rest.new.self c.end_rest.result c.spill.ensures c.end_rest.ensures
