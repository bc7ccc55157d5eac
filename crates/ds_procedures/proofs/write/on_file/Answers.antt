use Rattle.std.proofs.Common.{length, sym, ap, subst, ◌∙◌}
use Rattle.std.specs.Prelude.{◌==◌}
use Rattle.cluster_model.specs.Server.{Effect}
use Rattle.ds_procedures.specs.Objects.{caller}
use Rattle.ds_procedures.specs.Plans.{Plan}
use Rattle.ds_procedures.specs.CodePlans.{IsReady}
use Rattle.ds_procedures.proofs.PlanLemmas.{write_refused, write_granted, write_ready}
use Rattle.ds_procedures.proofs.write.on_file.Goals as goal

pub returns-in-Some-clause-plan : goal.returns-in-Some-clause-plan
returns-in-Some-clause-plan c = λ f there.
    let a = c.args.args.now in
    c.reply_alone.ensures.plan
    ∙ rw (c.wcc_same-same.ensures, c.file_attributes.ensures) (write_refused c.args.head.now c.args.files.now c.args.index c.index-files-index.result (caller c.args.cred.now) c.requires.server c.index-files-index.is c.requires.within (a.count == length a.bytes.now) a.offset a.stable a.bytes.now c.in-Some.status (sym c.in-Some.is ∙ c.refusal.ensures.exact) f there)

pub returns-clause-plan : goal.returns-clause-plan
returns-clause-plan c = λ f there.
    let a = c.args.args.now in
    c.done.ensures
    ∙ write_granted c.args.head.now c.args.files.now c.args.index c.index-files-index.result (caller c.args.cred.now) c.requires.server c.index-files-index.is c.requires.within (a.count == length a.bytes.now) a.offset a.stable a.bytes.now (sym c.in_default.is ∙ c.refusal.ensures.exact) f there

pub returns-clause-ready : goal.returns-clause-ready
returns-clause-ready c =
    let a = c.args.args.now in
    subst (λ (e : Effect). IsReady c.args.head.now c.args.files.now e) (sym (ap (λ (p : Plan). p.effect) c.done.ensures))
    (write_ready c.args.head.now c.args.files.now c.args.index c.index-files-index.result (caller c.args.cred.now) c.requires.server c.index-files-index.is c.requires.within (a.count == length a.bytes.now) a.offset a.stable a.bytes.now (sym c.in_default.is ∙ c.refusal.ensures.exact))
