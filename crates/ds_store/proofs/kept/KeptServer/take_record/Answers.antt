use Rattle.std.proofs.Common.{Err, refl}
use Rattle.ds_store.proofs.Waiting.{takes_not}
use Rattle.ds_store.proofs.kept.KeptServer.take_record.Goals as goal

pub returns-in-Some-clause-waits : goal.returns-in-Some-clause-waits
returns-in-Some-clause-waits g c = λ settled began began_spare w.
    takes_not settled c.args.self.now began began_spare (g.D.Disk.told c.args.disk.now) (g.D.Disk.told c.args.spare.now) (Err c.in-Some.fault) c.in-Some.fault _ refl w
