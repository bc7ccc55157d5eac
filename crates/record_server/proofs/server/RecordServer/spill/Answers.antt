use Rattle.record_server.proofs.RoundLemmas.{left}
use Rattle.record_server.proofs.server.RecordServer.spill.Goals as goal

pub returns-then-waiting-ge-MUCH : goal.returns-then-waiting-ge-MUCH
returns-then-waiting-ge-MUCH g c = left c.args.self.now c.leave.new.self c.leave.ensures
