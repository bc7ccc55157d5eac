-- In a bound run a write of a copy leaves each live mirror as it shows itself.
use Rattle.std.proofs.Common.{◌≡◌, ℕ, ◌⊎◌, false, List, [], ◌∷◌, Some, None, refl, sym, ap, subst, ◌∙◌, inl, inr}
use Rattle.std.specs.List.{AllByRecursion}
use Rattle.cluster_model.specs.declared.piece.Piece.{Piece}
use Rattle.cluster_model.specs.declared.ids.Cred.{Cred}
use Rattle.cluster_model.specs.declared.ids.MirrorId.{MirrorId}
use Rattle.cluster_model.specs.declared.entry.Entry.{Entry}
use Rattle.cluster_model.specs.declared.entry.Entry.TheVariants as entry
use Rattle.cluster_model.specs.Server.{ServerState, Caller, new_server, restart_of}
use Rattle.cluster_model.specs.DsCalls.{DsCallValue, ds_step}
use Rattle.cluster_model.specs.GuardLaws.{IsInOrder, IsTold, CallLaws, RestartLaws}
use Rattle.file_rule.specs.MdsFiles.{MdsFile, a_uid}
use Rattle.file_rule.specs.FilePhases.{FileInput, phase}
use Rattle.cluster_laws.specs.Machine.{Machine, Move, new_machine, journal_of, file_id, fresh_of}
use Rattle.cluster_laws.specs.FenceLaw.{new_servers}
use Rattle.cluster_laws.specs.Periods.{was_granted}
use Rattle.cluster_laws.specs.Holders.{the_write, AreBound}
use Rattle.cluster_laws.proofs.Lists.{all_more}
use Rattle.machine_walk.specs.Owners.{IsUsersWrite}
use Rattle.copied_bytes.specs.CopiedBytes.{LeavesAsShown, CopiesLeaveAsShown}
use Rattle.machine_walk.proofs.Stories.{Story, AreEach, each_at, IsMoment}
use Rattle.machine_walk.proofs.MoveCases.{IsStepBy, Cases}
use Rattle.machine_walk.proofs.MoveRuns.{RunDone, run_done}
use Rattle.machine_walk.proofs.Placed.{each_anywhere}
use Rattle.machine_walk.proofs.StepKinds.{IsTakenWith, NoWrite, OneWrite}
use Rattle.machine_walk.proofs.Writers.{is_applied, IsSilent, IsGrantOf, grant_or}
use Rattle.machine_walk.proofs.WriterFacts.{KnowsWriters, IsWrittenSo}
use Rattle.machine_walk.proofs.WriterCases.{writer_cases}
use Rattle.machine_walk.proofs.WriterRuns.{first_story, first_moment, first_writers}
use Rattle.machine_walk.proofs.Noted.{granted_on}
use Rattle.copied_bytes.proofs.SourceSteps.{its_kind}
use Rattle.copied_bytes.proofs.SourceCarry.{KnowsSources}
use Rattle.copied_bytes.proofs.SourceRuns.{first_sources}
use Rattle.copied_bytes.proofs.TargetCases.{both_wrong}
use Rattle.copied_bytes.proofs.TargetSteps.{stepped_whole}
use Rattle.copied_bytes.proofs.TargetRuns.{KnowsAll, IsWholeOf, target_cases, first_targets}
use Rattle.copied_bytes.proofs.LiveCopies.{KnowsLive}
use Rattle.copied_bytes.proofs.LiveSteps.{stepped_live, noted_live, created_live, called_none}
use Rattle.copied_bytes.proofs.LiveServes.{IsQuietEntry, unapplied, served_live, served_quiet, restarted_live}

abbrev pub KnowsTheLive : Story → Machine → List Entry → Type 0
KnowsTheLive t m journal = KnowsAll t m journal × KnowsLive t m journal

abbrev pub IsQuietOf : Story → ℕ → List Entry → Entry → Type 0
IsQuietOf t uid before e = IsQuietEntry before e

-- the entries of a file are of no write
module _ (t : Story) (m : Machine) (journal : List Entry) (at : IsMoment t m journal) (w : KnowsWriters t m journal) (p : KnowsSources t m journal) (n : ℕ) (f : MdsFile) (input : FileInput) (then : Story) (by : IsStepBy t m journal n f input then) where
  abbrev entries : List Entry
  entries = (phase (file_id n) f input (fresh_of m)).entries

  taken_off : (cred : Cred) (writes : List Entry) → IsTakenWith n cred writes → AllByRecursion (λ e. is_applied e ≡ false) writes
  taken_off cred _ NoWrite = tt
  taken_off cred _ (OneWrite at bytes) = (refl, tt)

  all_off : IsGrantOf t m.next_uid n f.layout entries ⊎ AllByRecursion IsSilent entries → AllByRecursion (λ e. is_applied e ≡ false) entries
  all_off (inl g) = subst (AllByRecursion (λ e. is_applied e ≡ false)) (sym g.is) (refl, taken_off g.cred g.writes g.taken)
  all_off (inr silent) = all_more IsSilent (λ e. is_applied e ≡ false) entries (λ e k. k.applied) silent

  pub stepped_quiet : AreEach IsQuietEntry journal entries
  stepped_quiet =
      each_anywhere IsQuietEntry journal entries (all_more (λ e. is_applied e ≡ false) (λ e. (b : List Entry) → IsQuietEntry b e) entries (λ e off b. unapplied b e off)
      (all_off (grant_or n (fresh_of m) input t m.next_uid (its_kind t m journal at w p n f input then by) (w.files n f by.there))))

-- ---- all moves

module _ (calls : (s : ServerState) (caller : Caller) (call : DsCallValue) → IsInOrder s → CallLaws s caller call (ds_step s caller call).server (ds_step s caller call).reply (ds_step s caller call).entries)
    (restarts : (s : ServerState) (pieces : List Piece) (next : ServerState) → restart_of s pieces ≡ Some next → IsInOrder s → RestartLaws s pieces next) where
  abbrev all : Cases KnowsAll IsWholeOf
  all = target_cases calls restarts

  abbrev writers : Cases KnowsWriters IsWrittenSo
  writers = writer_cases calls

  pub live_cases : Cases KnowsTheLive IsQuietOf
  live_cases = record {
    later = λ t uid name then more before e on up q. q;
    steps = λ t m journal at p n f input then by.
        let done = (all.steps t m journal at p.0 n f input then by).0 in
        ((done, stepped_live t m journal at p.0.0.0 p.0.0.1 p.0.1 p.1 n f input then by done.0.1 (stepped_whole t m journal at p.0.0.0 p.0.0.1 p.0.1 n f input then by)), stepped_quiet t m journal at p.0.0.0 p.0.0.1 n f input then by);
    calls = λ t m journal at p n xid f c there is less h. (all.calls t m journal at p.0 n xid f c there is less h, record { copies = p.1.copies; absent = λ k none. p.1.absent k (called_none m n f c.file there k none) });
    serves = λ t m journal at p place from n xid uid gid call s sent there h.
        let each = (writers.serves t m journal at p.0.0.0 place from n xid uid gid call s sent there h).1 in
        (((all.serves t m journal at p.0 place from n xid uid gid call s sent there h).0, served_live t m journal at p.0.0.0 p.0.0.1 p.0.1 p.1 place from n xid uid gid call s sent there each), served_quiet t m journal at p.0.0.0 p.0.0.1 p.0.1 p.1 place from n xid uid gid call s sent there each);
    restarts = λ t m journal at p n pieces s new there is h. (((all.restarts t m journal at p.0 n pieces s new there is h).0, restarted_live t m journal at p.0.0.0 p.0.0.1 p.0.1 p.1 n pieces new), (tt, tt));
    again = λ t m journal at p place x there. (all.again t m journal at p.0 place x there, record { copies = p.1.copies; absent = p.1.absent });
    uses = λ t m journal at p node n xid uid gid call may new bound. (all.uses t m journal at p.0 node n xid uid gid call may new bound, record { copies = p.1.copies; absent = p.1.absent });
    takes = λ t m journal at p file uid pos bytes bound. (((all.takes t m journal at p.0 file uid pos bytes bound).0, noted_live t m journal p.1 (entry.Sent file (a_uid uid) pos bytes) (λ id c. refl) (λ k x. refl)), (tt, tt));
    strays = λ t m journal at p file uid pos bytes bound. (((all.strays t m journal at p.0 file uid pos bytes bound).0, noted_live t m journal p.1 (entry.Rogue file (a_uid uid) pos bytes) (λ id c. refl) (λ k x. refl)), (tt, tt));
    tells = λ t m journal at p file uid pos bytes bound. (((all.tells t m journal at p.0 file uid pos bytes bound).0, noted_live t m journal p.1 (entry.Told file (a_uid uid) pos bytes) (λ id c. refl) (λ k x. refl)), (tt, tt));
    creates = λ t m journal at p servers may h. (all.creates t m journal at p.0 servers may h, created_live t m journal p.1 servers p.0.1.bound);
  }

  module _ (new : (number boot : ℕ) → IsInOrder (new_server number boot) × IsTold (new_server number boot) []) (boots : List ℕ) where
    abbrev begin : Machine
    begin = new_machine (new_servers 1 boots)

    pub first_live : KnowsLive first_story begin []
    first_live = record { copies = λ n ids is. absurd (wrong ids is); absent = λ n none. refl }
      where
        wrong : (ids : List MirrorId) → None ≡ Some ids → ⊥
        wrong ids e = cc

    pub first_all : KnowsAll first_story begin []
    first_all = ((first_writers new calls restarts boots, first_sources calls restarts new boots), first_targets calls restarts new boots)

    live_run : (moves : List Move) → AreBound boots moves → RunDone KnowsTheLive IsQuietOf live_cases calls restarts first_story begin [] moves
    live_run moves bound = run_done KnowsTheLive IsQuietOf live_cases calls restarts moves first_story begin [] (first_moment new calls restarts boots) (first_all, first_live) bound

    pub copies_leave_as_shown : (moves : List Move) → AreBound boots moves → CopiesLeaveAsShown (journal_of begin moves)
    copies_leave_as_shown moves bound before behind m cred pos bytes is never =
        let run = live_run moves bound in
        by_user (each_at IsQuietEntry [] before (entry.Applied m cred pos bytes) behind (subst (AreEach IsQuietEntry []) is run.each))
      where
        by_user : IsUsersWrite before cred.0 (the_write pos bytes) ⊎ LeavesAsShown before m (the_write pos bytes) → LeavesAsShown before m (the_write pos bytes)
        by_user (inl user) = absurd (both_wrong (was_granted (journal_of begin moves) cred.0) (ap (λ (j : List Entry). was_granted j cred.0) is ∙ granted_on cred.0 before (entry.Applied m cred pos bytes ∷ behind) user.granted) never)
        by_user (inr leaves) = leaves
