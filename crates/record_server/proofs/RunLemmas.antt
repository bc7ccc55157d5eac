-- Runs of steps.
use Rattle.std.proofs.Common.{◌≡◌, ℕ, ◌+◌, ◌≤◌, arith, List, [], ◌∷◌, ◌++◌, refl, subst}
use Rattle.std.proofs.lemmas.List.{length-append}
use Rattle.std.proofs.lemmas.List.Elements.{All-nil, All-cons, All-append}
use Rattle.record_server.specs.Server.{ServingState, ServingStep, DoesStep, RunsSteps, GoesBy}

-- no step
pub stays : (kind : ServingStep → Type 0) (s : ServingState) → GoesBy kind 0 s s
stays kind s = record { steps = []; kinds = All-nil kind; many = omega arith; runs = refl }

pub stays_as : (kind : ServingStep → Type 0) (old new : ServingState) → new ≡ old → GoesBy kind 0 old new
stays_as kind old new is = record { steps = []; kinds = All-nil kind; many = omega arith; runs = is }

-- one step
pub one : (kind : ServingStep → Type 0) (step : ServingStep) (old new : ServingState) → kind step → DoesStep step old new → GoesBy kind 1 old new
one kind step old new is did = record {
  steps = step ∷ [];
  kinds = All-cons kind step [] is (All-nil kind);
  many = omega arith;
  runs = (new, did, refl);
}

pub runs_on : (first second : List ServingStep) (a b c : ServingState) → RunsSteps first a b → RunsSteps second b c → RunsSteps (first ++ second) a c
runs_on [] second a b c came goes = subst (λ (s : ServingState). RunsSteps second s c) came goes
runs_on (step ∷ steps) second a b c came goes = (came.0, came.1, runs_on steps second came.0 b c came.2 goes)

-- one run behind another
pub goes_on : (kind : ServingStep → Type 0) (n m k : ℕ) (a b c : ServingState) → k ≤ n + m → GoesBy kind n a b → GoesBy kind m b c → GoesBy kind k a c
goes_on kind n m k a b c most came more = record {
  steps = came.steps ++ more.steps;
  kinds = All-append kind came.steps more.steps came.kinds more.kinds;
  many = omega (arith, most, came.many, more.many, length-append came.steps more.steps);
  runs = runs_on came.steps more.steps a b c came.runs more.runs;
}

-- at least fewer
pub fewer : (kind : ServingStep → Type 0) (n m : ℕ) (a b : ServingState) → m ≤ n → GoesBy kind n a b → GoesBy kind m a b
fewer kind n m a b most came = record { steps = came.steps; kinds = came.kinds; many = omega (arith, most, came.many); runs = came.runs }

-- one step that is not counted
pub did : (kind : ServingStep → Type 0) (step : ServingStep) (old new : ServingState) → kind step → DoesStep step old new → GoesBy kind 0 old new
did kind step old new is does = record {
  steps = step ∷ [];
  kinds = All-cons kind step [] is (All-nil kind);
  many = omega arith;
  runs = (new, does, refl);
}
