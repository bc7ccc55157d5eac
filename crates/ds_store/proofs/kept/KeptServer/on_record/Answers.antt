use Rattle.std.proofs.Common.{◌≡◌, Result, Ok, Err, refl, sym, subst, ◌∙◌}
use Rattle.std.proofs.lemmas.Result.{err_from_is_err_and}
use Rattle.cluster_model.specs.Server.{ServerState}
use Rattle.ds_files.specs.Receive.{outcome_of}
use Rattle.ds_store.specs.declared.fault.StoreFault.{StoreFault}
use Rattle.ds_store.specs.Kept.{SaysEither, StepsSafely, TakesSince}
use Rattle.ds_store.specs.Renewals.{IsLogBounded}
use Rattle.ds_store.proofs.Keeping.{going, not_taken, settled_becomes, settled_safe, stands_then, steps, waits_before}
use Rattle.ds_store.proofs.Bounding.{call_bounded}
use Rattle.ds_store.proofs.kept.KeptServer.on_record.Goals as goal

pub returns-in_err-stage_record-clause-steps : goal.returns-in_err-stage_record-clause-steps
returns-in_err-stage_record-clause-steps g c =
    let k = c.args.self.now in
    let disk = g.D.Disk.told c.args.disk.now in
    let spare = g.D.Disk.told c.args.spare.now in
    let after = (outcome_of k.server c.args.message.now).server in
    let none = going _ k c.self.view_is c.in_default.not-Some in
    let stands = c.requires in
    let mid = c.stage_record.new.self in
    let disk1 = g.D.Disk.told c.stage_record.new.disk in
    let spare1 = g.D.Disk.told c.stage_record.new.spare in
    let p = err_from_is_err_and c.from_residual.result c.from_residual.ensures.1 in
    let same : c.from_residual.result ≡ c.stage_record.result = cc (p.1, p.2, c.in_err-stage_record.was) in
    subst (λ (r : Result (Unit {0}) StoreFault). StepsSafely k.spent after k disk spare r mid disk1 spare1) (sym same)
    (steps after after k disk spare c.stage_record.result mid disk1 spare1 refl none c.stage_record.ensures.becomes
    (not_taken after k disk spare none stands c.stage_record.result _ mid disk1 spare1 c.in_err-stage_record.was (c.stage_record.ensures.waits k.server disk spare (waits_before after k disk spare none stands))))

pub returns-in-Err-clause-steps : goal.returns-in-Err-clause-steps
returns-in-Err-clause-steps g c =
    let k = c.args.self.now in
    let disk = g.D.Disk.told c.args.disk.now in
    let spare = g.D.Disk.told c.args.spare.now in
    let after = (outcome_of k.server c.args.message.now).server in
    let none = going _ k c.self.view_is c.in_default.not-Some in
    let stands = c.requires in
    let mid = c.stage_record.new.self in
    let disk1 = g.D.Disk.told c.stage_record.new.disk in
    let spare1 = g.D.Disk.told c.stage_record.new.spare in
    let takes : TakesSince {T = Unit {0}} k.server disk spare (Ok c.in_ok-stage_record.field-0) mid disk1 spare1 = c.in_ok-stage_record.ensures.waits k.server disk spare (waits_before after k disk spare none stands) in
    let new = c.settle_all.new.self in
    let disk2 = g.D.Disk.told c.settle_all.new.disk in
    let spare2 = g.D.Disk.told c.settle_all.new.spare in
    let answer : Result (Unit {0}) StoreFault = Err c.in-Err.fault in
    steps after after k disk spare answer new disk2 spare2 refl none
    (settled_becomes after k disk spare none stands c.in_ok-stage_record.field-0 mid disk1 spare1 c.in_ok-stage_record.ensures.becomes takes c.settle_all.result new disk2 spare2 c.settle_all.ensures.server c.settle_all.ensures.spent c.settle_all.ensures.settles answer (λ u ok. absurd (cc (ok))) (λ e is. c.in-Err.is ∙ is))
    (settled_safe after k disk spare none stands c.in_ok-stage_record.field-0 mid disk1 spare1 c.in_ok-stage_record.ensures.becomes takes c.settle_all.result new disk2 spare2 c.settle_all.ensures.server c.settle_all.ensures.spent c.settle_all.ensures.settles answer (λ u ok. absurd (cc (ok))))

pub returns-clause-steps : goal.returns-clause-steps
returns-clause-steps g c =
    let k = c.args.self.now in
    let disk = g.D.Disk.told c.args.disk.now in
    let spare = g.D.Disk.told c.args.spare.now in
    let after = (outcome_of k.server c.args.message.now).server in
    let none = going _ k c.self.view_is c.in_default.not-Some in
    let stands = c.requires in
    let mid = c.stage_record.new.self in
    let disk1 = g.D.Disk.told c.stage_record.new.disk in
    let spare1 = g.D.Disk.told c.stage_record.new.spare in
    let takes : TakesSince {T = Unit {0}} k.server disk spare (Ok c.in_ok-stage_record.field-0) mid disk1 spare1 = c.in_ok-stage_record.ensures.waits k.server disk spare (waits_before after k disk spare none stands) in
    let new = c.settle_all.new.self in
    let disk2 = g.D.Disk.told c.settle_all.new.disk in
    let spare2 = g.D.Disk.told c.settle_all.new.spare in
    let answer : Result (Unit {0}) StoreFault = (Ok tt) in
    steps after after k disk spare answer new disk2 spare2 refl none
    (settled_becomes after k disk spare none stands c.in_ok-stage_record.field-0 mid disk1 spare1 c.in_ok-stage_record.ensures.becomes takes c.settle_all.result new disk2 spare2 c.settle_all.ensures.server c.settle_all.ensures.spent c.settle_all.ensures.settles answer (λ u ok. c.in_default-settle_all.is) (λ e is. absurd (cc (is))))
    (settled_safe after k disk spare none stands c.in_ok-stage_record.field-0 mid disk1 spare1 c.in_ok-stage_record.ensures.becomes takes c.settle_all.result new disk2 spare2 c.settle_all.ensures.server c.settle_all.ensures.spent c.settle_all.ensures.settles answer (λ u ok. c.in_default-settle_all.is))

pub returns-clause-stands : goal.returns-clause-stands
returns-clause-stands g c =
    let k = c.args.self.now in
    let disk = g.D.Disk.told c.args.disk.now in
    let spare = g.D.Disk.told c.args.spare.now in
    let after = (outcome_of k.server c.args.message.now).server in
    let none = going _ k c.self.view_is c.in_default.not-Some in
    let stands = c.requires in
    let mid = c.stage_record.new.self in
    let disk1 = g.D.Disk.told c.stage_record.new.disk in
    let spare1 = g.D.Disk.told c.stage_record.new.spare in
    let takes : TakesSince {T = Unit {0}} k.server disk spare (Ok c.in_ok-stage_record.field-0) mid disk1 spare1 = c.in_ok-stage_record.ensures.waits k.server disk spare (waits_before after k disk spare none stands) in
    let new = c.settle_all.new.self in
    let disk2 = g.D.Disk.told c.settle_all.new.disk in
    let spare2 = g.D.Disk.told c.settle_all.new.spare in
    stands_then after k disk spare none stands c.in_ok-stage_record.field-0 mid disk1 spare1 c.in_ok-stage_record.ensures.becomes takes c.settle_all.result new disk2 spare2 c.settle_all.ensures.server c.settle_all.ensures.spent c.settle_all.ensures.settles

pub returns-clause-bounded : goal.returns-clause-bounded
returns-clause-bounded g c =
    let k = c.args.self.now in
    let disk = g.D.Disk.told c.args.disk.now in
    let spare = g.D.Disk.told c.args.spare.now in
    let after = (outcome_of k.server c.args.message.now).server in
    let none = going _ k c.self.view_is c.in_default.not-Some in
    let stands = c.requires in
    let mid = c.stage_record.new.self in
    let disk1 = g.D.Disk.told c.stage_record.new.disk in
    let spare1 = g.D.Disk.told c.stage_record.new.spare in
    let takes : TakesSince {T = Unit {0}} k.server disk spare (Ok c.in_ok-stage_record.field-0) mid disk1 spare1 = c.in_ok-stage_record.ensures.waits k.server disk spare (waits_before after k disk spare none stands) in
    let new = c.settle_all.new.self in
    let disk2 = g.D.Disk.told c.settle_all.new.disk in
    let spare2 = g.D.Disk.told c.settle_all.new.spare in
    let waits = takes.waits c.in_ok-stage_record.field-0 refl in
    let answer : Result (Unit {0}) StoreFault = (Ok tt) in
    subst (λ (s : ServerState). IsLogBounded k.server k.log answer s new.log disk2 spare2) (sym c.settle_all.ensures.server)
    (call_bounded k.server mid.server k.log mid.log new.log c.in_ok-stage_record.ensures.one c.in_default-settle_all.ensures.log StoreFault (SaysEither k.server mid.server) disk spare disk2 spare2 (stands none) (c.settle_all.ensures.settles k.server disk spare waits).since tt
    (c.in_default-settle_all.ensures.within k.server disk spare waits) answer)
