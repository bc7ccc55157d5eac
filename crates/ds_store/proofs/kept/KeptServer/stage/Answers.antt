use Rattle.std.proofs.Common.{Ok, Err, refl, sym, ap, subst, ◌∙◌}
use Rattle.twin_log.specs.KeptLogs.{KeptLogState}
use Rattle.ds_store.specs.Kept.{KeptState, WaitsSince}
use Rattle.ds_store.proofs.Waiting.{takes}
use Rattle.ds_store.proofs.kept.KeptServer.stage.Goals as goal

pub returns-in-Ok-clause-waits : goal.returns-in-Ok-clause-waits
returns-in-Ok-clause-waits g c = λ before settled began began_spare w number made.
    let disk = g.D.Disk.told c.args.disk.now in
    let spare = g.D.Disk.told c.args.spare.now in
    let here = subst (λ (l : KeptLogState). WaitsSince settled before l began began_spare disk spare) (sym (ap (λ (k : KeptState). k.log) c.self.view_is)) w in
    takes settled before c.self.inside.log c.args.self.now.server c.args.message.now number made disk spare c.stage.result c.stage.new.self (g.D.Disk.told c.stage.new.disk) (g.D.Disk.told c.stage.new.spare) c.stage.ensures.side c.stage.ensures.stages
    c.stage.ensures.tells began began_spare here (Ok tt) (λ x ok. c.in-Ok.is) _ (ap (λ (k : KeptState). k.server) c.self.view_is) refl

pub returns-in-Err-clause-waits : goal.returns-in-Err-clause-waits
returns-in-Err-clause-waits g c = λ before settled began began_spare w number made.
    let disk = g.D.Disk.told c.args.disk.now in
    let spare = g.D.Disk.told c.args.spare.now in
    let here = subst (λ (l : KeptLogState). WaitsSince settled before l began began_spare disk spare) (sym (ap (λ (k : KeptState). k.log) c.self.view_is)) w in
    takes settled before c.self.inside.log c.args.self.now.server c.args.message.now number made disk spare c.stage.result c.stage.new.self (g.D.Disk.told c.stage.new.disk) (g.D.Disk.told c.stage.new.spare) c.stage.ensures.side c.stage.ensures.stages
    c.stage.ensures.tells began began_spare here (Err c.spend.result) (λ x ok. absurd (cc (ok))) c.spend.new.self (ap (λ (k : KeptState). k.server) c.spend.ensures.spent ∙ ap (λ (k : KeptState). k.server) c.self.view_is)
    (ap (λ (k : KeptState). k.log) c.spend.ensures.spent)
