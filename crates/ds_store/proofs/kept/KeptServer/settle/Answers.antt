use Rattle.ds_store.proofs.Logging.{logs_not}
use Rattle.ds_store.proofs.kept.KeptServer.settle.Goals as goal

pub returns-in-Some-clause-settles : goal.returns-in-Some-clause-settles
returns-in-Some-clause-settles g c = λ settled began began_spare w.
    logs_not settled c.args.self.now.server c.args.self.now.log began began_spare (g.D.Disk.told c.args.disk.now) (g.D.Disk.told c.args.spare.now) c.in-Some.fault w
