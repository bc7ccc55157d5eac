-- In a bound run a file that is free behind a dirty end has the same bytes at each live mirror.
use Rattle.std.proofs.Common.{◌≡◌, ℕ, ◌+◌, List, length, [], ◌∷◌, ◌++◌, Some, None, refl, subst}
use Rattle.cluster_model.specs.declared.piece.Piece.{Piece}
use Rattle.cluster_model.specs.declared.ids.MirrorId.{MirrorId}
use Rattle.cluster_model.specs.declared.entry.Entry.{Entry}
use Rattle.cluster_model.specs.declared.entry.Entry.TheVariants as entry
use Rattle.cluster_model.specs.Server.{ServerState, Caller, new_server, restart_of}
use Rattle.cluster_model.specs.DsCalls.{DsCallValue, ds_step}
use Rattle.cluster_model.specs.GuardLaws.{IsInOrder, IsTold, CallLaws, RestartLaws}
use Rattle.file_rule.specs.MdsFiles.{a_uid}
use Rattle.file_rule.specs.FilePhases.{new_mds_file, phase}
use Rattle.cluster_laws.specs.Machine.{Machine, Move, new_machine, journal_of, file_id, fresh_of, caller_by}
use Rattle.cluster_laws.specs.FenceLaw.{new_servers}
use Rattle.cluster_laws.specs.Holders.{AreBound}
use Rattle.cluster_laws.proofs.Lists.{all_more}
use Rattle.machine_walk.proofs.Stories.{Story, AreEach, each_at, IsMoment}
use Rattle.machine_walk.proofs.MoveCases.{Cases}
use Rattle.machine_walk.proofs.MoveRuns.{RunDone, run_done}
use Rattle.machine_walk.proofs.WriterFacts.{KnowsWriters, IsWrittenSo}
use Rattle.machine_walk.proofs.WriterCases.{writer_cases}
use Rattle.machine_walk.proofs.WriterRuns.{first_story, first_moment, no_files}
use Rattle.copied_bytes.proofs.SourceSteps.{its_kind}
use Rattle.copied_bytes.proofs.LiveSteps.{called_none}
use Rattle.copied_bytes.specs.CopiedBytes.{FreesAlike}
use Rattle.cluster_model.specs.Journal.{Copy, copy_after}
use Rattle.cluster_laws.proofs.PeriodFacts.{granted_in}
use Rattle.cluster_model.specs.declared.ids.FileId.{FileId}
use Rattle.cluster_model.specs.DsCalls.{ds_plan}
use Rattle.copied_bytes.proofs.LiveRuns.{KnowsTheLive, IsQuietOf, live_cases, first_live, first_all}
use Rattle.copied_bytes.proofs.LiveSteps.{longer}
use Rattle.copied_bytes.proofs.SinceFree.{IsUserless, others_kind}
use Rattle.copied_bytes.proofs.AlikeKinds.{IsFreedAlike}
use Rattle.copied_bytes.proofs.AlikeSteps.{KnowsAlike, stepped_alike, stepped_freed}
use Rattle.copied_bytes.proofs.AlikeServes.{IsOfNoFile, server_fileless, served_alike, served_freed, restarted_alike, noted_alike, created_alike}
use Rattle.copied_bytes.proofs.AlikeCalls.{KnowsNoUsers, called_alike, unused_behind, unused_stepped, past_last}

pub record KnowsFreed (t : Story) (m : Machine) (journal : List Entry) : Type 0 where
  pub alike : KnowsAlike t m.next_uid m.files journal
  pub unused : KnowsNoUsers m.files journal

abbrev pub KnowsEach : Story → Machine → List Entry → Type 0
KnowsEach t m journal = KnowsTheLive t m journal × KnowsFreed t m journal

abbrev pub IsFreedOf : Story → ℕ → List Entry → Entry → Type 0
IsFreedOf t uid before e = IsFreedAlike before e

module _ (calls : (s : ServerState) (caller : Caller) (call : DsCallValue) → IsInOrder s → CallLaws s caller call (ds_step s caller call).server (ds_step s caller call).reply (ds_step s caller call).entries)
    (restarts : (s : ServerState) (pieces : List Piece) (next : ServerState) → restart_of s pieces ≡ Some next → IsInOrder s → RestartLaws s pieces next) where
  abbrev lives : Cases KnowsTheLive IsQuietOf
  lives = live_cases calls restarts

  abbrev writers : Cases KnowsWriters IsWrittenSo
  writers = writer_cases calls

  noted : (t : Story) (m : Machine) (journal : List Entry) → IsMoment t m journal → KnowsEach t m journal → (e : Entry) → granted_in e ≡ None → ((id : MirrorId) (c : Copy) → copy_after id c e ≡ c) → ((f : FileId) → IsUserless f e) → KnowsFreed t m (journal ++ e ∷ [])
  noted t m journal at p e none copies users = record {
    alike = noted_alike t m journal at p.0.0.0.0 p.0.0.0.1 p.0.0.1 p.0.1 p.1.alike e none copies users;
    unused = unused_behind m.files journal (e ∷ []) (λ k. (users (file_id k), tt)) p.1.unused;
  }

  pub freed_cases : Cases KnowsEach IsFreedOf
  freed_cases = record {
    later = λ t uid name then more before e on up q. q;
    steps = λ t m journal at p n f input then by. (
      (
        (lives.steps t m journal at p.0 n f input then by).0,
        record {
          alike = stepped_alike t m journal at p.0.0.0.0 p.0.0.0.1 p.0.0.1 p.1.alike n f input then by;
          unused = unused_stepped m.files n f (phase (file_id n) f input (fresh_of m)).file journal (phase (file_id n) f input (fresh_of m)).entries by.there (λ k other. others_kind n (fresh_of m) input k other (its_kind t m journal at p.0.0.0.0 p.0.0.0.1 n f input then by)) p.1.unused;
        },
      ),
      stepped_freed t m journal at p.0.0.0.0 p.0.0.0.1 p.0.0.1 p.1.alike n f input then by,
    );
    calls = λ t m journal at p n xid f c there is less h. (lives.calls t m journal at p.0 n xid f c there is less h, record { alike = called_alike t m journal p.1.alike n xid f c there is; unused = record { none = λ k none. p.1.unused.none k (called_none m n f c.file there k none) } });
    serves = λ t m journal at p place from n xid uid gid call s sent there h.
        let each = (writers.serves t m journal at p.0.0.0.0 place from n xid uid gid call s sent there h).1 in (
          (
            (lives.serves t m journal at p.0 place from n xid uid gid call s sent there h).0,
            record {
              alike = served_alike t m journal at p.0.0.0.0 p.0.0.0.1 p.0.0.1 p.0.1 p.1.alike calls place from n xid uid gid call s sent there each h;
              unused = unused_behind m.files journal (ds_step s (caller_by uid gid) call).entries (λ k. all_more IsOfNoFile (IsUserless (file_id k)) (ds_step s (caller_by uid gid) call).entries (λ e z. z.users (file_id k)) (server_fileless s uid (ds_plan s (caller_by uid gid) call).effect)) p.1.unused;
            },
          ),
          served_freed t m journal at p.0.0.0.0 p.0.0.0.1 p.0.0.1 p.0.1 p.1.alike calls place from n xid uid gid call s sent there each h,
        );
    restarts = λ t m journal at p n pieces s new there is h. (((lives.restarts t m journal at p.0 n pieces s new there is h).0, record { alike = restarted_alike t m journal at p.0.0.0.0 p.0.0.0.1 p.0.0.1 p.0.1 p.1.alike n pieces; unused = unused_behind m.files journal (entry.Restarted n pieces ∷ []) (λ k. (λ us. refl, tt)) p.1.unused }), (tt, tt));
    again = λ t m journal at p place x there. (lives.again t m journal at p.0 place x there, record { alike = p.1.alike; unused = p.1.unused });
    uses = λ t m journal at p node n xid uid gid call may new bound. (lives.uses t m journal at p.0 node n xid uid gid call may new bound, record { alike = p.1.alike; unused = p.1.unused });
    takes = λ t m journal at p file uid pos bytes bound. (((lives.takes t m journal at p.0 file uid pos bytes bound).0, noted t m journal at p (entry.Sent file (a_uid uid) pos bytes) refl (λ id c. refl) (λ f us. refl)), (tt, tt));
    strays = λ t m journal at p file uid pos bytes bound. (((lives.strays t m journal at p.0 file uid pos bytes bound).0, noted t m journal at p (entry.Rogue file (a_uid uid) pos bytes) refl (λ id c. refl) (λ f us. refl)), (tt, tt));
    tells = λ t m journal at p file uid pos bytes bound. (((lives.tells t m journal at p.0 file uid pos bytes bound).0, noted t m journal at p (entry.Told file (a_uid uid) pos bytes) refl (λ id c. refl) (λ f us. refl)), (tt, tt));
    creates = λ t m journal at p servers may h. (
      lives.creates t m journal at p.0 servers may h,
      record {
        alike = created_alike t m journal at p.0.0.0.0 p.0.0.0.1 p.0.0.1 p.0.1 p.1.alike servers (p.1.unused.none (length m.files + 1) (past_last m.files));
        unused = record { none = λ k none. p.1.unused.none k (longer t m journal p.0.1 m.files (new_mds_file (fresh_of m) servers) k none) };
      },
    );
  }

  module _ (new : (number boot : ℕ) → IsInOrder (new_server number boot) × IsTold (new_server number boot) []) (boots : List ℕ) where
    abbrev begin : Machine
    begin = new_machine (new_servers 1 boots)

    freed_run : (moves : List Move) → AreBound boots moves → RunDone KnowsEach IsFreedOf freed_cases calls restarts first_story begin [] moves
    freed_run moves bound =
        run_done KnowsEach IsFreedOf freed_cases calls restarts moves first_story begin [] (first_moment new calls restarts boots)
        ((first_all calls restarts new boots, first_live calls restarts new boots), record { alike = record { files = λ n f is. absurd (no_files n f is) }; unused = record { none = λ n none. refl } }) bound

    pub frees_alike : (moves : List Move) → AreBound boots moves → FreesAlike (journal_of begin moves)
    frees_alike moves bound before behind f mirrors uid is dirty =
        let run = freed_run moves bound in
        each_at IsFreedAlike [] before (entry.Free f mirrors) behind (subst (AreEach IsFreedAlike []) is run.each) uid dirty
