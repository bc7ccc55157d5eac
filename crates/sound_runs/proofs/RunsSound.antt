-- A bound run has a sound journal.
use Rattle.std.proofs.Common.{◌≡◌, ℕ, ◌<◌, Bool, true, false, cond, eqb, List, [], length, Some, None, is_some, refl, subst}
use Rattle.cluster_model.specs.declared.ids.MirrorId.{MirrorId}
use Rattle.cluster_model.specs.declared.piece.Piece.{Piece}
use Rattle.cluster_model.specs.declared.entry.Entry.{Entry}
use Rattle.cluster_model.specs.declared.entry.Entry.TheVariants as entry
use Rattle.cluster_model.specs.Content.{Pending}
use Rattle.cluster_model.specs.Server.{ServerState, Caller, new_server, restart_of}
use Rattle.cluster_model.specs.DsCalls.{DsCallValue, ds_step}
use Rattle.cluster_model.specs.GuardLaws.{IsInOrder, IsTold, CallLaws, RestartLaws}
use Rattle.file_rule.specs.MdsFiles.{MdsFile}
use Rattle.cluster_laws.specs.Machine.{Machine, Move, new_machine, numbered_at, file_id, machine_after, journal_of}
use Rattle.cluster_laws.specs.FenceLaw.{live_in, new_servers}
use Rattle.cluster_laws.specs.Holders.{IsCovered, IsIn}
use Rattle.sound_journals.specs.Marks.{marks_of}
use Rattle.sound_runs.specs.BoundJournals.{BoundRunsAreSound}
use Rattle.cluster_laws.proofs.Runs.{start_holds, start_periods}
use Rattle.machine_walk.proofs.Stories.{IsMoment, AreEach, each_at, each_weaker}
use Rattle.machine_walk.proofs.MoveRuns.{run_done}
use Rattle.sound_runs.proofs.SoFar.{IsSoFar}
use Rattle.machine_walk.proofs.WriterRuns.{first_story, first_writers}
use Rattle.machine_walk.proofs.Writers.{IsCopier}
use Rattle.sound_runs.proofs.AllCases.{IsAllNoted, AllSo, first_owners}
use Rattle.sound_runs.proofs.FirstFrees.{AreNewMirrorsEmpty}
use Rattle.sound_runs.proofs.BlankFiles.{KnowsBlank}
use Rattle.sound_runs.proofs.BlankCases.{AllAndBlank, NotedAndEmpty, blank_cases}
use Rattle.sound_runs.proofs.JournalsSound.{all_sound}

module _ (coverage : (boots : List ℕ) (moves : List Move) (uid : ℕ) (id : MirrorId) (w : Pending) → 0 < length w.bytes → IsCovered (machine_after (new_machine (new_servers 1 boots)) moves).packets uid id w → IsIn w (marks_of (journal_of (new_machine (new_servers 1 boots)) moves) uid id).covered)
    (calls : (s : ServerState) (caller : Caller) (call : DsCallValue) → IsInOrder s → CallLaws s caller call (ds_step s caller call).server (ds_step s caller call).reply (ds_step s caller call).entries)
    (restarts : (s : ServerState) (pieces : List Piece) (new : ServerState) → restart_of s pieces ≡ Some new → IsInOrder s → RestartLaws s pieces new)
    (new : (number boot : ℕ) → IsInOrder (new_server number boot) × IsTold (new_server number boot) []) where
  module _ (boots : List ℕ) where
    abbrev begun : Machine
    begun = new_machine (new_servers 1 boots)

    first_moment : IsMoment first_story begun []
    first_moment = record { came = record { boots = boots; moves = []; machine = refl; says = refl }; holds = start_holds new boots; fenced = λ u. 0; periods = start_periods new boots calls restarts }

    no_file : (n : ℕ) (f : MdsFile) → numbered_at begun.files n ≡ Some f → ⊥
    no_file n f = by_test (eqb n 0)
      where
        by_test : (b : Bool) → cond b None None ≡ Some f → ⊥
        by_test true e = cc
        by_test false e = cc

    first_so : IsSoFar first_story begun []
    first_so = record {
      files = λ n f is. absurd (no_file n f is);
      past = λ n is. record { base = refl; live = refl; users = refl };
      users = λ uid none. record { sent = refl; rogue = refl; causes = refl; layout = λ f m. refl };
      some = λ uid. tt;
      held = tt;
      told = λ f. tt;
    }

    first_all : AllSo first_story begun []
    first_all = record { so = first_so; writers = first_writers new calls restarts boots; owners = first_owners boots }

    no_copier : (u : ℕ) → IsCopier first_story begun.next_uid u → is_some (live_in [] (file_id (first_story.whose u))) ≡ true
    no_copier u c = absurd (wrong c.bytes c.copy)
      where
        wrong : (bytes : List ℕ) → None ≡ Some bytes → ⊥
        wrong bytes e = cc

    first_blank : KnowsBlank first_story begun []
    first_blank = record { copies = no_copier; servers = λ n s is index k named less none. refl }

    pub runs_sound : (moves : List Move) → BoundRunsAreSound boots moves
    runs_sound moves bound copies f =
        let done = run_done AllAndBlank NotedAndEmpty (blank_cases coverage calls restarts) calls restarts moves first_story begun [] first_moment (record { all = first_all; blank = first_blank }) bound in
        let journal : List Entry = journal_of begun moves in
        let uid : ℕ = (machine_after begun moves).next_uid in
        let empty : AreNewMirrorsEmpty journal = λ before behind g live is none. (each_at (NotedAndEmpty done.last uid) [] before (entry.Free g live) behind (subst (AreEach (NotedAndEmpty done.last uid) []) is done.each)).1 none in
        let noted : AreEach IsAllNoted [] journal = each_weaker (NotedAndEmpty done.last uid) IsAllNoted [] journal (λ b e q. q.0) done.each in
        (all_sound journal done.moment.periods.place empty copies f noted, done.kept.all.so.told f)
