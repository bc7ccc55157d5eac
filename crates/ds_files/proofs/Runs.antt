-- Runs of calls and restarts.
use Rattle.std.proofs.Common.{ℕ, eqb, List, [], ◌∷◌, ◌++◌}
use Rattle.std.proofs.lemmas.Bool.{cond_both, eqb-false}
use Rattle.cluster_model.specs.Server.{ServerState, new_server, max_boot}
use Rattle.cluster_model.specs.ServerLaws.{Turn, StartsAgain, turn_after, AreAllowed, run_after}
use Rattle.cluster_model.proofs.Runs.{rising as rising_run, told as told_run}
use Rattle.ds_files.specs.Laws.{Happening, Calls, Restarts, turns_by, turns_of, IsTimedRun, IsToldRun}
use Rattle.ds_files.proofs.Asked.{permitted}

one_allowed : (s : ServerState) (h : Happening) → AreAllowed s (turns_by s h)
one_allowed s (Calls call cred) = (permitted s call cred, tt)
one_allowed s (Restarts pieces) =
    cond_both (eqb s.clock.boot max_boot) [] (StartsAgain pieces ∷ []) (λ (turns : List Turn). AreAllowed s turns) (λ e. tt) (λ e. (eqb-false _ _ e, tt))

both_allowed : (s : ServerState) (front rest : List Turn) → AreAllowed s front → AreAllowed (run_after s front) rest → AreAllowed s (front ++ rest)
both_allowed s [] rest h k = k
both_allowed s (turn ∷ front) rest h k = (h.0, both_allowed (turn_after s turn) front rest h.1 k)

all_allowed : (s : ServerState) (run : List Happening) → AreAllowed s (turns_of s run)
all_allowed s [] = tt
all_allowed s (h ∷ run) = both_allowed s (turns_by s h) (turns_of (run_after s (turns_by s h)) run) (one_allowed s h) (all_allowed (run_after s (turns_by s h)) run)

pub rising : (s : ServerState) (run : List Happening) → IsTimedRun s run
rising s run = rising_run s (turns_of s run) (all_allowed s run)

pub told : (number boot : ℕ) (run : List Happening) → IsToldRun (new_server number boot) run
told number boot run = told_run number boot (turns_of (new_server number boot) run) (all_allowed (new_server number boot) run)
