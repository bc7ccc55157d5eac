use Rattle.std.proofs.Common.{◌≡◌, ◌∷◌, ◌++◌, [], ◌+◌, ℕ, List, Bool, Some, Ok, drop, sym, ap, subst, ◌∙◌}
use Rattle.cluster_model.specs.Server.{ServerState}
use Rattle.store_disk.specs.MemoryDisks.{MemoryDiskState}
use Rattle.ds_log.specs.Durable.{durable}
use Rattle.ds_store.specs.Kept.{LeavesBothNow, SaysServer, log_says}
use Rattle.ds_store.proofs.BothDisks.{now_weaker, says_now}
use Rattle.store_trial.specs.Trials.{Tries}
use Rattle.store_trial.specs.Stages.{GoesOn, TrialState}
use Rattle.store_trial.proofs.Trying.{all_tried, goes_next, noted, tries_err}
use Rattle.store_trial.proofs.trial.try_store.Goals as goal

pub returns-in-Err : goal.returns-in-Err
returns-in-Err c =
    let (said, says, starts, number) = c.in_ok-trial.ensures in
    let given : log_says c.args.number c.args.disk.life.now.seen c.args.spare.life.now.seen ≡ Ok said =
    subst (λ (d : MemoryDiskState). log_says c.args.number d.life.now.seen c.args.spare.life.now.seen ≡ Ok said) c.new.ensures (subst (λ (d : MemoryDiskState). log_says c.args.number c.new.result.life.now.seen d.life.now.seen ≡ Ok said) c.new-2.ensures says) in
    tries_err c.args.steps.now c.loop-step.step-index c.step-item.result c.loop-step-test.true c.step-item.is c.args.number (log_says c.args.number c.args.disk.life.now.seen c.args.spare.life.now.seen) said c.in_ok-trial.trial.server c.loop-step.trial c.loop-step.acked.items given starts c.loop-step.invariant.0 c.in-Err.fault c.in-Err.ensures

pub loop-step-preserved : goal.loop-step-preserved
loop-step-preserved c =
    let first : ServerState = c.in_ok-trial.trial.server in
    let added : c.note.new.acked.items ≡ c.loop-step.acked.items ++ c.in-Ok.flag ∷ [] = noted _ c.note.result c.if-is_err.ensures.value c.note.ensures in
    let goes = goes_next c.args.steps.now c.loop-step.step-index c.step-item.result c.loop-step-test.true c.step-item.is first c.loop-step.trial.server c.in-Ok.next.server c.loop-step.acked.items c.in-Ok.flag c.loop-step.invariant.0 c.in-Ok.ensures.0 in
    (subst (λ (flags : List Bool). GoesOn first c.args.steps.now flags c.in-Ok.next.server (drop (c.loop-step.step-index + 1) c.args.steps.now)) (sym added) goes, c.in-Ok.ensures.1 ∙ c.loop-step.invariant.1)

pub returns : goal.returns
returns c =
    let (said, says, starts, number) = c.in_ok-trial.ensures in
    let given : log_says c.args.number c.args.disk.life.now.seen c.args.spare.life.now.seen ≡ Ok said =
    subst (λ (d : MemoryDiskState). log_says c.args.number d.life.now.seen c.args.spare.life.now.seen ≡ Ok said) c.new.ensures (subst (λ (d : MemoryDiskState). log_says c.args.number c.new.result.life.now.seen d.life.now.seen ≡ Ok said) c.new-2.ensures says) in
    let first : ServerState = c.in_ok-trial.trial.server in
    let last : ServerState = c.trial.inside.server.server in
    let is_last : c.loop-step.trial.server ≡ last = sym (ap (λ (t : TrialState). t.server) c.trial.view_is) in
    let same : last.number ≡ c.args.number = c.trial.invariant.1 ∙ ap (λ (t : TrialState). t.number) c.trial.view_is ∙ c.loop-step.invariant.1 ∙ number in
    let leaves : LeavesBothNow (Some c.trial.inside.disk.life) (Some c.trial.inside.spare.life) (SaysServer last) = says_now last c.trial.inside.server.log (Some c.trial.inside.disk.life) (Some c.trial.inside.spare.life) c.trial.invariant.2 in
    let here : LeavesBothNow (Some c.trial.inside.disk.life) (Some c.trial.inside.spare.life) (λ disk spare. log_says c.args.number disk spare ≡ Ok (durable last)) =
    now_weaker (SaysServer last) (λ disk spare. log_says c.args.number disk spare ≡ Ok (durable last)) (λ left left_spare says. subst (λ (n : ℕ). log_says n left left_spare ≡ Ok (durable last)) same says) (Some c.trial.inside.disk.life) (Some c.trial.inside.spare.life) leaves in
    let tried = all_tried first c.loop-step.trial.server c.args.steps.now c.loop-step.step-index c.loop-step.acked.items c.loop-step-test.false c.loop-step.invariant.0 in
    let ends : Tries first c.args.steps.now c.loop-step.acked.items last = subst (λ (s : ServerState). Tries first c.args.steps.now c.loop-step.acked.items s) is_last tried in
    let left : LeavesBothNow (Some c.into_disk.result.life) (Some c.into_disk-2.result.life) (λ disk spare. log_says c.args.number disk spare ≡ Ok (durable last)) =
    subst (λ (d : MemoryDiskState). LeavesBothNow (Some d.life) (Some c.into_disk-2.result.life) (λ disk spare. log_says c.args.number disk spare ≡ Ok (durable last))) (sym c.into_disk.ensures) (subst (λ (d : MemoryDiskState). LeavesBothNow (Some c.trial.inside.disk.life) (Some d.life) (λ disk spare. log_says c.args.number disk spare ≡ Ok (durable last))) (sym c.into_disk-2.ensures) here) in
    (said, first, last, given, starts, ends, left)
