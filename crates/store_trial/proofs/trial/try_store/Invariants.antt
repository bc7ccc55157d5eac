use Rattle.std.proofs.Common.{◌≡◌, drop}
use Rattle.store_trial.specs.Stages.{GoesOn}
use Rattle.store_trial.proofs.trial.try_store.Given as goal

abbrev pub invariant-loop-step : goal.invariant-loop-step
invariant-loop-step l =
    GoesOn l.initial.trial.server l.steps l.acked.items l.trial.server (drop l.step-index l.steps) × (l.trial.number ≡ l.initial.trial.number)
