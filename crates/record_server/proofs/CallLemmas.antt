-- What the calls of a server do, as events.
use Rattle.std.proofs.Common.{inl, inr, ℕ, List, [], ◌∷◌, ◌++◌, map, refl, subst, None, Some}
use Rattle.record_server.specs.Server.{ServingState, ServingStep, Makes, Misses, Ends, IsOfRound, RunsSteps, GoesBy}
use Rattle.record_server.specs.History.{Event, Does, Hands, HasHappened, OnlySteps, NextHappens, WaitHappens, ConnectHappens, FlushHappens}
use Rattle.record_server.proofs.EndLemmas.{pushed_out}

runs_happen : (steps : List ServingStep) (old new : ServingState) → RunsSteps steps old new → HasHappened (map Does steps) old new
runs_happen [] old new same = same
runs_happen (step ∷ steps) old new ran = (ran.0, ran.1, runs_happen steps ran.0 new ran.2)

happens_on : (first second : List Event) (a b c : ServingState) → HasHappened first a b → HasHappened second b c → HasHappened (first ++ second) a c
happens_on [] second a b c came more = subst (λ (s : ServingState). HasHappened second s c) came more
happens_on (event ∷ events) second a b c came more = (came.0, came.1, happens_on events second came.0 b c came.2 more)

pub goes_happens : (kind : ServingStep → Type 0) (n : ℕ) (old new : ServingState) → GoesBy kind n old new → OnlySteps old new
goes_happens kind n old new goes = (goes.steps, runs_happen goes.steps old new goes.runs)

pub next_happens : NextHappens
next_happens until old new number message gives =
    let goes = gives.1 in
    let steps = goes.steps in
    (steps, happens_on (map Does steps) (Hands number message ∷ []) old gives.0 new (runs_happen steps old gives.0 goes.runs) (new, gives.2, refl))

pub wait_happens : WaitHappens
wait_happens until old new (inl goes) = goes_happens IsOfRound 0 old new goes.0
wait_happens until old new (inr goes) = goes_happens IsOfRound _ old new goes

pub connect_happens : ConnectHappens
connect_happens address old new (Some number) did = (Makes number address did.0 did.1 did.2 ∷ [], (new, did.3, refl))
connect_happens address old new None (inl none) = ([], none.1)
connect_happens address old new None (inr did) = (Misses address ∷ [], (new, did, refl))

pub flush_happens : FlushHappens
flush_happens old new flushes =
    let last : ServingState = flushes.0.0 in
    let goes = pushed_out old last flushes.0.1 in
    (goes.steps, goes.kinds, happens_on (map Does goes.steps) (Does Ends ∷ []) old last new (runs_happen goes.steps old last goes.runs) (new, flushes.0.2, refl))
