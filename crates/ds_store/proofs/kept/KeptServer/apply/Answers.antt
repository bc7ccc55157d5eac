use Rattle.std.proofs.Common.{◌≡◌, Result, Ok, refl, sym, subst}
use Rattle.std.proofs.lemmas.Result.{err_from_is_err_and}
use Rattle.rpc_record.specs.Rpc.{plain_credential}
use Rattle.nfs3_wire.specs.Calls.{plain_call}
use Rattle.cluster_model.specs.Server.{ServerState}
use Rattle.ds_procedures.specs.Steps.{step_of}
use Rattle.ds_procedures.specs.declared.answer.Answer3.{Answer3}
use Rattle.ds_store.specs.declared.fault.StoreFault.{StoreFault}
use Rattle.ds_store.specs.Kept.{SaysEither, StepsSafely, TakesSince}
use Rattle.ds_store.specs.Renewals.{IsLogBounded}
use Rattle.ds_store.proofs.Keeping.{going, not_taken, settled_becomes, settled_safe, stands_then, steps, waits_before}
use Rattle.ds_store.proofs.Bounding.{call_bounded}
use Rattle.ds_store.proofs.kept.KeptServer.apply.Goals as goal

pub returns-in_err-answer-clause-steps : goal.returns-in_err-answer-clause-steps
returns-in_err-answer-clause-steps g c =
    let k = c.args.self.now in
    let disk = g.D.Disk.told c.args.disk.now in
    let spare = g.D.Disk.told c.args.spare.now in
    let after = (step_of k.server (plain_call c.args.call.now) (plain_credential c.args.cred.now)).server in
    let none = going _ k c.self.view_is c.in_default.not-Some in
    let stands = c.requires in
    let mid = c.stage_call.new.self in
    let disk1 = g.D.Disk.told c.stage_call.new.disk in
    let spare1 = g.D.Disk.told c.stage_call.new.spare in
    let p = err_from_is_err_and c.from_residual.result c.from_residual.ensures.1 in
    let same : c.from_residual.result ≡ c.stage_call.result = cc (p.1, p.2, c.in_err-answer.was) in
    subst (λ (r : Result (Answer3) StoreFault). StepsSafely k.spent after k disk spare r mid disk1 spare1) (sym same)
    (steps after after k disk spare c.stage_call.result mid disk1 spare1 refl none c.stage_call.ensures.becomes
    (not_taken after k disk spare none stands c.stage_call.result _ mid disk1 spare1 c.in_err-answer.was (c.stage_call.ensures.waits k.server disk spare (waits_before after k disk spare none stands))))

pub returns-in_err-settle_all-clause-steps : goal.returns-in_err-settle_all-clause-steps
returns-in_err-settle_all-clause-steps g c =
    let k = c.args.self.now in
    let disk = g.D.Disk.told c.args.disk.now in
    let spare = g.D.Disk.told c.args.spare.now in
    let after = (step_of k.server (plain_call c.args.call.now) (plain_credential c.args.cred.now)).server in
    let none = going _ k c.self.view_is c.in_default.not-Some in
    let stands = c.requires in
    let mid = c.stage_call.new.self in
    let disk1 = g.D.Disk.told c.stage_call.new.disk in
    let spare1 = g.D.Disk.told c.stage_call.new.spare in
    let takes : TakesSince {T = Answer3} k.server disk spare (Ok c.in_ok-answer.answer) mid disk1 spare1 = c.in_ok-answer.ensures.waits k.server disk spare (waits_before after k disk spare none stands) in
    let new = c.settle_all.new.self in
    let disk2 = g.D.Disk.told c.settle_all.new.disk in
    let spare2 = g.D.Disk.told c.settle_all.new.spare in
    let answer = c.from_residual-in_err-settle_all.result in
    let p = err_from_is_err_and answer c.from_residual-in_err-settle_all.ensures.1 in
    steps after after k disk spare answer new disk2 spare2 refl none
    (settled_becomes after k disk spare none stands c.in_ok-answer.answer mid disk1 spare1 c.in_ok-answer.ensures.becomes takes c.settle_all.result new disk2 spare2 c.settle_all.ensures.server c.settle_all.ensures.spent c.settle_all.ensures.settles answer (λ u ok. absurd (cc (p.1, ok))) (λ e is. cc (p.1, p.2, is, c.in_err-settle_all.was)))
    (settled_safe after k disk spare none stands c.in_ok-answer.answer mid disk1 spare1 c.in_ok-answer.ensures.becomes takes c.settle_all.result new disk2 spare2 c.settle_all.ensures.server c.settle_all.ensures.spent c.settle_all.ensures.settles answer (λ u ok. absurd (cc (p.1, ok))))

pub returns-clause-steps : goal.returns-clause-steps
returns-clause-steps g c =
    let k = c.args.self.now in
    let disk = g.D.Disk.told c.args.disk.now in
    let spare = g.D.Disk.told c.args.spare.now in
    let after = (step_of k.server (plain_call c.args.call.now) (plain_credential c.args.cred.now)).server in
    let none = going _ k c.self.view_is c.in_default.not-Some in
    let stands = c.requires in
    let mid = c.stage_call.new.self in
    let disk1 = g.D.Disk.told c.stage_call.new.disk in
    let spare1 = g.D.Disk.told c.stage_call.new.spare in
    let takes : TakesSince {T = Answer3} k.server disk spare (Ok c.in_ok-answer.answer) mid disk1 spare1 = c.in_ok-answer.ensures.waits k.server disk spare (waits_before after k disk spare none stands) in
    let new = c.settle_all.new.self in
    let disk2 = g.D.Disk.told c.settle_all.new.disk in
    let spare2 = g.D.Disk.told c.settle_all.new.spare in
    let answer : Result (Answer3) StoreFault = (Ok c.in_ok-answer.answer) in
    steps after after k disk spare answer new disk2 spare2 refl none
    (settled_becomes after k disk spare none stands c.in_ok-answer.answer mid disk1 spare1 c.in_ok-answer.ensures.becomes takes c.settle_all.result new disk2 spare2 c.settle_all.ensures.server c.settle_all.ensures.spent c.settle_all.ensures.settles answer (λ u ok. c.in_ok-settle_all.was) (λ e is. absurd (cc (is))))
    (settled_safe after k disk spare none stands c.in_ok-answer.answer mid disk1 spare1 c.in_ok-answer.ensures.becomes takes c.settle_all.result new disk2 spare2 c.settle_all.ensures.server c.settle_all.ensures.spent c.settle_all.ensures.settles answer (λ u ok. c.in_ok-settle_all.was))

pub returns-clause-stands : goal.returns-clause-stands
returns-clause-stands g c =
    let k = c.args.self.now in
    let disk = g.D.Disk.told c.args.disk.now in
    let spare = g.D.Disk.told c.args.spare.now in
    let after = (step_of k.server (plain_call c.args.call.now) (plain_credential c.args.cred.now)).server in
    let none = going _ k c.self.view_is c.in_default.not-Some in
    let stands = c.requires in
    let mid = c.stage_call.new.self in
    let disk1 = g.D.Disk.told c.stage_call.new.disk in
    let spare1 = g.D.Disk.told c.stage_call.new.spare in
    let takes : TakesSince {T = Answer3} k.server disk spare (Ok c.in_ok-answer.answer) mid disk1 spare1 = c.in_ok-answer.ensures.waits k.server disk spare (waits_before after k disk spare none stands) in
    let new = c.settle_all.new.self in
    let disk2 = g.D.Disk.told c.settle_all.new.disk in
    let spare2 = g.D.Disk.told c.settle_all.new.spare in
    stands_then after k disk spare none stands c.in_ok-answer.answer mid disk1 spare1 c.in_ok-answer.ensures.becomes takes c.settle_all.result new disk2 spare2 c.settle_all.ensures.server c.settle_all.ensures.spent c.settle_all.ensures.settles

pub returns-clause-bounded : goal.returns-clause-bounded
returns-clause-bounded g c =
    let k = c.args.self.now in
    let disk = g.D.Disk.told c.args.disk.now in
    let spare = g.D.Disk.told c.args.spare.now in
    let after = (step_of k.server (plain_call c.args.call.now) (plain_credential c.args.cred.now)).server in
    let none = going _ k c.self.view_is c.in_default.not-Some in
    let stands = c.requires in
    let mid = c.stage_call.new.self in
    let disk1 = g.D.Disk.told c.stage_call.new.disk in
    let spare1 = g.D.Disk.told c.stage_call.new.spare in
    let takes : TakesSince {T = Answer3} k.server disk spare (Ok c.in_ok-answer.answer) mid disk1 spare1 = c.in_ok-answer.ensures.waits k.server disk spare (waits_before after k disk spare none stands) in
    let new = c.settle_all.new.self in
    let disk2 = g.D.Disk.told c.settle_all.new.disk in
    let spare2 = g.D.Disk.told c.settle_all.new.spare in
    let waits = takes.waits c.in_ok-answer.answer refl in
    let answer : Result (Answer3) StoreFault = (Ok c.in_ok-answer.answer) in
    subst (λ (s : ServerState). IsLogBounded k.server k.log answer s new.log disk2 spare2) (sym c.settle_all.ensures.server)
    (call_bounded k.server mid.server k.log mid.log new.log c.in_ok-answer.ensures.one c.in_ok-settle_all.ensures.log StoreFault (SaysEither k.server mid.server) disk spare disk2 spare2 (stands none) (c.settle_all.ensures.settles k.server disk spare waits).since c.in_ok-settle_all.field-0
    (c.in_ok-settle_all.ensures.within k.server disk spare waits) answer)
