-- In a bound run each write is applied under the uid that its mirror belongs to, by a user that was granted a file or by a copy.
use Rattle.std.proofs.Common.{◌≡◌, ℕ, ◌-◌, ◌⊎◌, false, List, [], Some, None, refl, subst, inl, inr}
use Rattle.std.specs.Prelude.{slice_get}
use Rattle.cluster_model.specs.declared.piece.Piece.{Piece}
use Rattle.cluster_model.specs.declared.entry.Entry.TheVariants as entry
use Rattle.cluster_model.specs.Server.{ServerState, Caller, new_server, restart_of}
use Rattle.cluster_model.specs.DsCalls.{DsCallValue, ds_step}
use Rattle.cluster_model.specs.GuardLaws.{IsInOrder, IsTold, CallLaws, RestartLaws}
use Rattle.file_rule.specs.MdsFiles.{MdsFile}
use Rattle.cluster_laws.specs.Machine.{Machine, Move, numbered_at, journal_of, machine_after, new_machine}
use Rattle.cluster_laws.specs.FenceLaw.{new_servers}
use Rattle.cluster_laws.specs.Holders.{the_write, AreBound}
use Rattle.cluster_laws.specs.Periods.{was_granted}
use Rattle.machine_walk.specs.Owners.{IsUsersWrite, AppliesByOwners}
use Rattle.cluster_laws.proofs.Lists.{place_of}
use Rattle.cluster_laws.proofs.Runs.{none_drawn, start_holds, start_periods}
use Rattle.machine_walk.proofs.Stories.{Story, AreEach, each_at, IsMoment}
use Rattle.machine_walk.proofs.MoveRuns.{RunDone, run_done}
use Rattle.machine_walk.proofs.Writers.{IsCopier}
use Rattle.machine_walk.proofs.WriterFacts.{KnowsWriters, IsAppliedSo, IsWrittenSo}
use Rattle.machine_walk.proofs.WriterCases.{writer_cases}

-- nothing was drawn
abbrev pub first_story : Story
first_story = record { drawn = none_drawn; whose = λ uid. 0; copied = λ uid. None }

pub no_files : (n : ℕ) (f : MdsFile) → numbered_at [] n ≡ Some f → ⊥
no_files n f is = wrong f (place_of [] n f is).1
  where
    wrong : (x : MdsFile) → slice_get [] (n - 1) ≡ Some x → ⊥
    wrong x e = cc

module _ (new : (number boot : ℕ) → IsInOrder (new_server number boot) × IsTold (new_server number boot) [])
    (calls : (s : ServerState) (caller : Caller) (call : DsCallValue) → IsInOrder s → CallLaws s caller call (ds_step s caller call).server (ds_step s caller call).reply (ds_step s caller call).entries)
    (restarts : (s : ServerState) (pieces : List Piece) (next : ServerState) → restart_of s pieces ≡ Some next → IsInOrder s → RestartLaws s pieces next) (boots : List ℕ) where
  abbrev first : Machine
  first = new_machine (new_servers 1 boots)

  pub first_moment : IsMoment first_story first []
  first_moment = record { came = record { boots = boots; moves = []; machine = refl; says = refl }; holds = start_holds new boots; fenced = λ uid. 0; periods = start_periods new boots calls restarts }

  pub first_writers : KnowsWriters first_story first []
  first_writers = record {
    held = tt;
    wrote = tt;
    nobody = refl;
    none = refl;
    copiers = λ u k. refl;
    packets = tt;
    files = λ n f is. absurd (no_files n f is);
  }

  pub writers_run : (moves : List Move) → AreBound boots moves → RunDone KnowsWriters IsWrittenSo (writer_cases calls) calls restarts first_story first [] moves
  writers_run moves bound = run_done KnowsWriters IsWrittenSo (writer_cases calls) calls restarts moves first_story first [] first_moment first_writers bound

  pub applied_by_owners : (moves : List Move) → AreBound boots moves → AppliesByOwners (journal_of first moves)
  applied_by_owners moves bound before behind m cred pos bytes is =
      let run = writers_run moves bound in
      let so : IsAppliedSo run.last (machine_after first moves).next_uid before m cred.0 (the_write pos bytes) =
      each_at (IsWrittenSo run.last (machine_after first moves).next_uid) [] before (entry.Applied m cred pos bytes) behind (subst (AreEach (IsWrittenSo run.last (machine_after first moves).next_uid) []) is run.each) in
      record { owner = so.owner; whose = whose run.last (machine_after first moves).next_uid (run.kept.copiers cred.0) so.whose }
    where
      whose : (t : Story) (uid : ℕ) → (IsCopier t uid cred.0 → was_granted (journal_of first moves) cred.0 ≡ false) → IsUsersWrite before cred.0 (the_write pos bytes) ⊎ IsCopier t uid cred.0 → IsUsersWrite before cred.0 (the_write pos bytes) ⊎ (was_granted (journal_of first moves) cred.0 ≡ false)
      whose t uid never (inl k) = inl k
      whose t uid never (inr k) = inr (never k)
