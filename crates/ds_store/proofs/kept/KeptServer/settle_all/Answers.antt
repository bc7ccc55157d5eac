use Rattle.std.proofs.Common.{◌≡◌, false, Ok, sym, ap, ◌∙◌}
use Rattle.twin_log.specs.KeptLogs.{has_waiting}
use Rattle.ds_store.specs.Kept.{KeptState}
use Rattle.ds_store.proofs.Logging.{logs_none}
use Rattle.ds_store.proofs.kept.KeptServer.settle_all.Goals as goal

pub returns-then-not-has_waiting-clause-settles : goal.returns-then-not-has_waiting-clause-settles
returns-then-not-has_waiting-clause-settles g c = λ settled began began_spare w.
    let none : has_waiting c.args.self.now.log ≡ false = ap (λ (k : KeptState). has_waiting k.log) (sym c.self.view_is) ∙ sym c.has_waiting.ensures ∙ c.if-not-has_waiting.true in
    logs_none settled c.args.self.now.server c.args.self.now.log began began_spare (g.D.Disk.told c.args.disk.now) (g.D.Disk.told c.args.spare.now) (Ok tt) w none
