use Rattle.std.proofs.Common.{Some, refl, ap, ◌∙◌}
use Rattle.cluster_model.specs.Server.{ServerState}
use Rattle.store_trial.specs.Trials.{server_behind}
use Rattle.store_trial.specs.Stages.{TrialState}
use Rattle.store_trial.proofs.Trying.{behind_number, did}
use Rattle.store_trial.proofs.trial.Trial.call.Goals as goal

pub invariant_of-result : goal.invariant_of-result
invariant_of-result c =
    let kept = c.self.inside.server in
    let does = did (server_behind kept.server c.args.call.now c.args.cred.now) kept (Some c.self.inside.disk.life) (Some c.self.inside.spare.life) c.apply.result c.apply.new.self (Some c.apply.new.disk.life) (Some c.apply.new.spare.life) c.in-Ok.field-0 c.self.invariant.0 c.in-Ok.is c.apply.ensures.steps in
    (does.1, ap (λ (s : ServerState). s.number) does.0 ∙ behind_number kept.server c.args.call.now c.args.cred.now ∙ c.self.invariant.1, c.apply.ensures.stands does.1)

pub returns-in-Ok : goal.returns-in-Ok
returns-in-Ok c =
    let kept = c.self.inside.server in
    let does = did (server_behind kept.server c.args.call.now c.args.cred.now) kept (Some c.self.inside.disk.life) (Some c.self.inside.spare.life) c.apply.result c.apply.new.self (Some c.apply.new.disk.life) (Some c.apply.new.spare.life) c.in-Ok.field-0 c.self.invariant.0 c.in-Ok.is c.apply.ensures.steps in
    (refl, does.0 ∙ ap (λ (t : TrialState). server_behind t.server c.args.call.now c.args.cred.now) c.self.view_is, ap (λ (t : TrialState). t.number) c.self.view_is)
