use Rattle.std.proofs.Common.{◌≡◌, ℕ, List, Some, Ok, Err, sym, subst}
use Rattle.store_disk.specs.Disks.{IsImage}
use Rattle.store_disk.specs.MemoryDisks.{MemoryDiskState}
use Rattle.ds_store.specs.Kept.{log_says}
use Rattle.store_trial.specs.declared.steps.StoreStep.TheVariants.{Stopped}
use Rattle.store_trial.specs.Trials.{TriesStep, server_behind}
use Rattle.store_trial.specs.Stages.{OpensTrial, StopsCall, TrialState}
use Rattle.store_trial.proofs.Trying.{is_safe, refused, says_stopped, stepped}
use Rattle.store_trial.proofs.trial.Trial.stopped.Goals as goal

pub returns-in-Ok : goal.returns-in-Ok
returns-in-Ok c =
    let kept = c.self.inside.server in
    let t : TrialState = record { number = c.self.inside.number; server = kept.server; disk = c.self.inside.disk; spare = c.self.inside.spare } in
    let behind = server_behind kept.server c.args.call.now c.args.cred.now in
    let safe = is_safe behind kept (Some c.stop_after.new.self.life) (Some c.stop_after-2.new.self.life) c.apply.result c.apply.new.self (Some c.apply.new.disk.life) (Some c.apply.new.spare.life) c.self.invariant.0 c.apply.ensures.steps in
    let leaves = says_stopped _ kept.server behind c.stop_after.new.self.life c.stop_after-2.new.self.life c.apply.new.disk.life c.apply.new.spare.life c.apply.result c.in_ok-acked.acked safe c.in_ok-acked.ensures in
    let left : List ℕ = c.new-disk.result.life.now.seen in
    let left_spare : List ℕ = c.new-spare.result.life.now.seen in
    let image : IsImage c.apply.new.disk.life.now left = subst (λ (d : MemoryDiskState). IsImage c.apply.new.disk.life.now d.life.now.seen) (sym c.new-disk.ensures) c.in_ok-crash.ensures.image in
    let image_spare : IsImage c.apply.new.spare.life.now left_spare = subst (λ (d : MemoryDiskState). IsImage c.apply.new.spare.life.now d.life.now.seen) (sym c.new-spare.ensures) c.in_ok-crash-2.ensures.image in
    let says = leaves left image left_spare image_spare in
    let opens : OpensTrial c.self.inside.number (log_says c.self.inside.number left left_spare) (Ok c.in-Ok.again) = c.in-Ok.ensures in
    let does = stepped t c.args.call.now c.args.cred.now c.args.after c.args.choice left left_spare c.self.invariant.1 c.in_ok-acked.acked c.in-Ok.again says opens in
    subst (λ (t : TrialState). TriesStep t.server (Stopped c.args.call.now c.args.cred.now c.args.after c.args.choice) c.in_ok-acked.acked c.in-Ok.again.server × (c.in-Ok.again.number ≡ t.number)) c.self.view_is does

pub returns : goal.returns
returns c =
    let kept = c.self.inside.server in
    let t : TrialState = record { number = c.self.inside.number; server = kept.server; disk = c.self.inside.disk; spare = c.self.inside.spare } in
    let behind = server_behind kept.server c.args.call.now c.args.cred.now in
    let safe = is_safe behind kept (Some c.stop_after.new.self.life) (Some c.stop_after-2.new.self.life) c.apply.result c.apply.new.self (Some c.apply.new.disk.life) (Some c.apply.new.spare.life) c.self.invariant.0 c.apply.ensures.steps in
    let leaves = says_stopped _ kept.server behind c.stop_after.new.self.life c.stop_after-2.new.self.life c.apply.new.disk.life c.apply.new.spare.life c.apply.result c.in_ok-acked.acked safe c.in_ok-acked.ensures in
    let left : List ℕ = c.new-disk.result.life.now.seen in
    let left_spare : List ℕ = c.new-spare.result.life.now.seen in
    let image : IsImage c.apply.new.disk.life.now left = subst (λ (d : MemoryDiskState). IsImage c.apply.new.disk.life.now d.life.now.seen) (sym c.new-disk.ensures) c.in_ok-crash.ensures.image in
    let image_spare : IsImage c.apply.new.spare.life.now left_spare = subst (λ (d : MemoryDiskState). IsImage c.apply.new.spare.life.now d.life.now.seen) (sym c.new-spare.ensures) c.in_ok-crash-2.ensures.image in
    let says = leaves left image left_spare image_spare in
    let opens : OpensTrial c.self.inside.number (log_says c.self.inside.number left left_spare) (Err c.in-Err.fault) = c.in-Err.ensures in
    let does = refused t c.args.call.now c.args.cred.now c.args.after c.args.choice left left_spare c.self.invariant.1 c.in_ok-acked.acked c.in-Err.fault says opens in
    subst (λ (t : TrialState). StopsCall t c.args.call.now c.args.cred.now c.args.after c.args.choice (Err c.in-Err.fault)) c.self.view_is does
