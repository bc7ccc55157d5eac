use Rattle.std.proofs.Common.{◌≡◌, Option, Ok, true, sym, ap, subst, ◌∙◌}
use Rattle.std.proofs.lemmas.Bool.{ltb-true}
use Rattle.std.proofs.lemmas.Result.{err_from_is_err_and}
use Rattle.rpc_record.specs.declared.stream.Failed.{Failed}
use Rattle.cluster_model.specs.Server.{ServerState}
use Rattle.store_disk.specs.Disks.{DiskLife}
use Rattle.twin_log.specs.Twins.{TwinLog}
use Rattle.twin_log.specs.KeptLogs.{KeptLogState, StandsTwin, has_waiting}
use Rattle.ds_store.specs.Kept.{KeptState, LogsStep, WaitsSince}
use Rattle.ds_store.specs.Renewals.{IsWithinThen, Renews}
use Rattle.ds_store.proofs.Logging.{logs_renewed, logs_sealed, size_renewed}
use Rattle.ds_store.proofs.Bounding.{then_renewed}
use Rattle.ds_store.proofs.kept.KeptServer.seal_and_renew.Goals as goal

pub returns-in_err-seal-clause-settles : goal.returns-in_err-seal-clause-settles
returns-in_err-seal-clause-settles g c =
    let p = err_from_is_err_and c.from_residual.result c.from_residual.ensures.1 in
    let disk = g.D.Disk.told c.args.disk.now in
    let spare = g.D.Disk.told c.args.spare.now in
    let disk1 = g.D.Disk.told c.seal.new.disk in
    let spare1 = g.D.Disk.told c.seal.new.spare in
    let waits = subst (λ (l : KeptLogState). has_waiting l ≡ true) (sym (ap (λ (k : KeptState). k.log) c.self.view_is)) c.requires.waiting in
    subst (λ (k : KeptState). (settled : ServerState) (began began_spare : Option DiskLife) → WaitsSince settled k.server k.log began began_spare disk spare → LogsStep settled k.server began began_spare c.from_residual.result c.seal.new.self disk1 spare1) c.self.view_is
    (λ settled began began_spare w. logs_sealed settled c.self.inside.server c.self.inside.log disk spare c.seal.result c.seal.new.self disk1 spare1 waits c.seal.ensures.seals c.seal.ensures.tells c.from_residual.result
    (λ x ok. absurd (cc (p.1, ok))) began began_spare w)

pub returns-then-not-is_to_renew-clause-settles : goal.returns-then-not-is_to_renew-clause-settles
returns-then-not-is_to_renew-clause-settles g c =
    let disk = g.D.Disk.told c.args.disk.now in
    let spare = g.D.Disk.told c.args.spare.now in
    let disk1 = g.D.Disk.told c.seal.new.disk in
    let spare1 = g.D.Disk.told c.seal.new.spare in
    let waits = subst (λ (l : KeptLogState). has_waiting l ≡ true) (sym (ap (λ (k : KeptState). k.log) c.self.view_is)) c.requires.waiting in
    let log_is : c.is_to_renew.new.self.log ≡ c.seal.new.self = ap (λ (k : KeptState). k.log) c.is_to_renew.ensures.same in
    subst (λ (k : KeptState). (settled : ServerState) (began began_spare : Option DiskLife) → WaitsSince settled k.server k.log began began_spare disk spare → LogsStep {E = Failed} settled k.server began began_spare (Ok tt) c.is_to_renew.new.self.log disk1 spare1) c.self.view_is
    (λ settled began began_spare w. subst (λ (l : KeptLogState). LogsStep {E = Failed} settled c.self.inside.server began began_spare (Ok tt) l disk1 spare1) (sym log_is)
    (logs_sealed settled c.self.inside.server c.self.inside.log disk spare c.seal.result c.seal.new.self disk1 spare1 waits c.seal.ensures.seals c.seal.ensures.tells (Ok tt) (λ x ok. c.in_ok-seal.was) began began_spare w))

pub returns-clause-settles : goal.returns-clause-settles
returns-clause-settles g c =
    let disk = g.D.Disk.told c.args.disk.now in
    let spare = g.D.Disk.told c.args.spare.now in
    let disk1 = g.D.Disk.told c.seal.new.disk in
    let spare1 = g.D.Disk.told c.seal.new.spare in
    let disk2 = g.D.Disk.told c.renew.new.disk in
    let spare2 = g.D.Disk.told c.renew.new.spare in
    let log = c.self.inside.log in
    let s = c.self.inside.server in
    let waits = subst (λ (l : KeptLogState). has_waiting l ≡ true) (sym (ap (λ (k : KeptState). k.log) c.self.view_is)) c.requires.waiting in
    let moved = c.in_ok-seal.ensures.moves (ltb-true log.end log.at waits) in
    let later_log : c.self-2.inside.log ≡ c.seal.new.self = ap (λ (k : KeptState). k.log) (c.self-2.view_is ∙ c.is_to_renew.ensures.same) in
    let later_server : c.self-2.inside.server ≡ s = ap (λ (k : KeptState). k.server) (c.self-2.view_is ∙ c.is_to_renew.ensures.same) in
    let renews =
    subst (λ (l : KeptLogState). (says : TwinLog) → StandsTwin l says disk1 spare1 → Renews s l disk1 spare1 c.renew.result c.renew.new.log disk2 spare2) later_log
    (subst (λ (x : ServerState). (says : TwinLog) → StandsTwin c.self-2.inside.log says disk1 spare1 → Renews x c.self-2.inside.log disk1 spare1 c.renew.result c.renew.new.log disk2 spare2) later_server c.renew.ensures.renews) in
    subst (λ (k : KeptState). (settled : ServerState) (began began_spare : Option DiskLife) → WaitsSince settled k.server k.log began began_spare disk spare → LogsStep settled k.server began began_spare c.renew.result c.renew.new.log disk2 spare2) c.self.view_is
    (λ settled began began_spare w. logs_renewed settled s log disk spare c.seal.result c.seal.new.self disk1 spare1 waits c.seal.ensures.seals c.seal.ensures.tells c.in_ok-seal.field-0 c.in_ok-seal.was c.seal.ensures.side (ap (λ (l : KeptLogState). l.generation) moved)
    c.renew.result c.renew.new.log disk2 spare2 renews c.renew.ensures.tells began began_spare w)

pub returns-clause-within : goal.returns-clause-within
returns-clause-within g c =
    let disk = g.D.Disk.told c.args.disk.now in
    let spare = g.D.Disk.told c.args.spare.now in
    let disk1 = g.D.Disk.told c.seal.new.disk in
    let spare1 = g.D.Disk.told c.seal.new.spare in
    let disk2 = g.D.Disk.told c.renew.new.disk in
    let spare2 = g.D.Disk.told c.renew.new.spare in
    let log = c.self.inside.log in
    let s = c.self.inside.server in
    let waits = subst (λ (l : KeptLogState). has_waiting l ≡ true) (sym (ap (λ (k : KeptState). k.log) c.self.view_is)) c.requires.waiting in
    let moved = c.in_ok-seal.ensures.moves (ltb-true log.end log.at waits) in
    let later_log : c.self-2.inside.log ≡ c.seal.new.self = ap (λ (k : KeptState). k.log) (c.self-2.view_is ∙ c.is_to_renew.ensures.same) in
    let later_server : c.self-2.inside.server ≡ s = ap (λ (k : KeptState). k.server) (c.self-2.view_is ∙ c.is_to_renew.ensures.same) in
    let renews =
    subst (λ (l : KeptLogState). (says : TwinLog) → StandsTwin l says disk1 spare1 → Renews s l disk1 spare1 c.renew.result c.renew.new.log disk2 spare2) later_log
    (subst (λ (x : ServerState). (says : TwinLog) → StandsTwin c.self-2.inside.log says disk1 spare1 → Renews x c.self-2.inside.log disk1 spare1 c.renew.result c.renew.new.log disk2 spare2) later_server c.renew.ensures.renews) in
    subst (λ (k : KeptState). (settled : ServerState) (began began_spare : Option DiskLife) → WaitsSince settled k.server k.log began began_spare disk spare → IsWithinThen k.server k.log c.renew.result c.renew.new.log disk2 spare2) c.self.view_is
    (λ settled began began_spare w. then_renewed s log c.renew.result c.renew.new.log disk2 spare2
    (size_renewed settled s log disk spare c.seal.result c.seal.new.self disk1 spare1 waits c.seal.ensures.seals c.seal.ensures.tells c.in_ok-seal.field-0 c.in_ok-seal.was c.seal.ensures.side (ap (λ (l : KeptLogState). l.generation) moved)
    c.renew.result c.renew.new.log disk2 spare2 renews c.renew.ensures.tells began began_spare w))
