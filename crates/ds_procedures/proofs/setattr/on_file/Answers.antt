use Rattle.std.proofs.Common.{sym, ◌∙◌}
use Rattle.std.specs.Prelude.{not, is_some}
use Rattle.std.specs.Option.{option_map}
use Rattle.ds_procedures.specs.Objects.{caller}
use Rattle.ds_procedures.specs.Setattr.{tick_of, changes_of}
use Rattle.ds_procedures.proofs.PlanLemmas.{set_refused, set_granted}
use Rattle.ds_procedures.proofs.setattr.on_file.Goals as goal

pub returns-in-Some-clause-plan : goal.returns-in-Some-clause-plan
returns-in-Some-clause-plan c = λ f there.
    let a = c.args.args.now in
    c.reply_alone.ensures.plan
    ∙ rw (c.wcc_same-same.ensures, c.file_attributes.ensures) (set_refused c.args.head.now c.args.files.now c.args.index c.index-files-index.result (caller c.args.cred.now) c.requires.server c.index-files-index.is c.requires.within (not (is_some a.attributes.size)) (option_map tick_of a.guard) (changes_of a.attributes) c.in-Some.status (sym c.in-Some.is ∙ c.refusal.ensures.exact) f there)

pub returns-clause-plan : goal.returns-clause-plan
returns-clause-plan c = λ f there.
    let a = c.args.args.now in
    c.done.ensures
    ∙ rw c.changes_of.ensures (set_granted c.args.head.now c.args.files.now c.args.index c.index-files-index.result (caller c.args.cred.now) c.requires.server c.index-files-index.is c.requires.within (not (is_some a.attributes.size)) (option_map tick_of a.guard) (changes_of a.attributes) (sym c.in_default.is ∙ c.refusal.ensures.exact) f there)
