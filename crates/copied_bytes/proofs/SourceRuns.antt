-- In a bound run the source of a copy is stable at each swap.
use Rattle.std.proofs.Common.{◌≡◌, ℕ, arith, List, [], Some, refl, sym, ap, subst, ◌∙◌}
use Rattle.cluster_model.specs.declared.piece.Piece.{Piece}
use Rattle.cluster_model.specs.declared.ids.FileId.{FileId}
use Rattle.cluster_model.specs.declared.ids.NodeId.TheVariants.{Mds}
use Rattle.cluster_model.specs.declared.entry.Entry.{Entry}
use Rattle.cluster_model.specs.declared.entry.Entry.TheVariants as entry
use Rattle.cluster_model.specs.Journal.{content_of}
use Rattle.cluster_model.specs.Server.{ServerState, Caller, new_server, restart_of}
use Rattle.cluster_model.specs.DsCalls.{DsCallValue, ds_plan, ds_step}
use Rattle.cluster_model.specs.GuardLaws.{IsInOrder, IsTold, CallLaws, RestartLaws}
use Rattle.cluster_model.specs.Phases.{ids_of}
use Rattle.file_rule.specs.MdsFiles.{Activity, Idle, Makes, Fences, Settles, Copies, MdsFile, a_uid}
use Rattle.file_rule.specs.FilePhases.{FileInput, phase}
use Rattle.cluster_laws.specs.Machine.{Machine, Move, caller_by, file_id, fresh_of, journal_of, new_machine}
use Rattle.cluster_laws.specs.FenceLaw.{new_servers}
use Rattle.cluster_laws.specs.Agreement.{shown_at, bytes_of, Has}
use Rattle.cluster_laws.specs.Holders.{AreBound}
use Rattle.copied_bytes.specs.CopiedBytes.{HasStableSource, SwapsFromStable}
use Rattle.cluster_laws.proofs.Invariant.{live_of, IsFile, net_of}
use Rattle.machine_walk.proofs.Stories.{Story, AreEach, each_at, IsMoment}
use Rattle.machine_walk.proofs.MoveCases.{IsStepBy, Cases}
use Rattle.machine_walk.proofs.MoveRuns.{RunDone, run_done}
use Rattle.machine_walk.proofs.WriterFacts.{KnowsWriters, IsWrittenSo}
use Rattle.machine_walk.proofs.WriterCases.{writer_cases}
use Rattle.machine_walk.proofs.WriterRuns.{first_story, first_moment, first_writers, no_files}
use Rattle.copied_bytes.proofs.Wholes.{whole_has, whole_shown}
use Rattle.copied_bytes.proofs.Sources.{IsBusySo}
use Rattle.copied_bytes.proofs.SourceCarry.{KnowsSources}
use Rattle.copied_bytes.proofs.SourceServed.{served_sources, restarted_sources}
use Rattle.copied_bytes.proofs.SourceSteps.{now, more, busy_now, content_now, its_kind, stepped_sources}
use Rattle.copied_bytes.proofs.SwapKinds.{HasSource, IsSwapSo, no_swaps_each, server_no_swap, CopiesAt, swap_kind}
use Rattle.copied_bytes.proofs.SourceCases.{again_sources, used_sources, noted_sources, called_sources, created_sources}

abbrev pub KnowsBoth : Story → Machine → List Entry → Type 0
KnowsBoth t m journal = KnowsWriters t m journal × KnowsSources t m journal

abbrev pub IsSwapOf : Story → ℕ → List Entry → Entry → Type 0
IsSwapOf t uid before e = IsSwapSo before e

module _ (t : Story) (m : Machine) (journal : List Entry) (at : IsMoment t m journal) (w : KnowsWriters t m journal) (p : KnowsSources t m journal) (n : ℕ) (f : MdsFile) (input : FileInput) (then : Story) (by : IsStepBy t m journal n f input then) where
  copies_by : (a : Activity) → f.activity ≡ a → CopiesAt n (fresh_of m) input then (more t m journal at w p n f input then by) m.packets (m.last_xid Mds) (now t m journal at w p n f input then by) by.heard journal f.layout a
  copies_by Idle is = tt
  copies_by (Makes all) is = tt
  copies_by (Fences fence) is = tt
  copies_by (Settles stage) is = tt
  copies_by (Copies c) is =
      let h = subst (λ (a : Activity). IsFile (net_of m t.drawn) journal n (record { layout = f.layout; activity = a })) is (at.holds.files n f by.there) in (
        busy_now t m journal at w p n f input then by (Copies c) is (subst (λ (a : Activity). IsBusySo t m.next_uid m.packets (m.last_xid Mds) journal n f.layout a) is (p.files n f by.there).busy),
        h.live ∙ ap (λ q. live_of q (ids_of f.layout.live)) h.busy.phase,
      )

  pub stepped_swaps : AreEach IsSwapSo journal (phase (file_id n) f input (fresh_of m)).entries
  stepped_swaps =
      swap_kind n (fresh_of m) input then (more t m journal at w p n f input then by) m.packets (m.last_xid Mds) (now t m journal at w p n f input then by) by.heard (its_kind t m journal at w p n f input then by) journal
      (λ id. sym (content_now t m journal at w p n f input then by id)) (copies_by f.activity refl)

-- ---- all moves

module _ (calls : (s : ServerState) (caller : Caller) (call : DsCallValue) → IsInOrder s → CallLaws s caller call (ds_step s caller call).server (ds_step s caller call).reply (ds_step s caller call).entries)
    (restarts : (s : ServerState) (pieces : List Piece) (next : ServerState) → restart_of s pieces ≡ Some next → IsInOrder s → RestartLaws s pieces next) where
  abbrev writers : Cases KnowsWriters IsWrittenSo
  writers = writer_cases calls

  pub source_cases : Cases KnowsBoth IsSwapOf
  source_cases = record {
    later = λ t uid name then more before e on up q. q;
    steps = λ t m journal at p n f input then by. (((writers.steps t m journal at p.0 n f input then by).0, stepped_sources t m journal at p.0 p.1 n f input then by), stepped_swaps t m journal at p.0 p.1 n f input then by);
    calls = λ t m journal at p n xid f c there is less h. (writers.calls t m journal at p.0 n xid f c there is less h, called_sources t m journal at p.0 p.1 n xid f c there is less);
    serves = λ t m journal at p place from n xid uid gid call s sent there h.
        let done = writers.serves t m journal at p.0 place from n xid uid gid call s sent there h in
        ((done.0, served_sources t m journal at p.0 p.1 calls place from n xid uid gid call s sent there done.1 h), no_swaps_each journal (ds_step s (caller_by uid gid) call).entries (server_no_swap s uid (ds_plan s (caller_by uid gid) call).effect));
    restarts = λ t m journal at p n pieces s new there is h. (((writers.restarts t m journal at p.0 n pieces s new there is h).0, restarted_sources t m journal at p.0 p.1 restarts n pieces s new there is), (tt, tt));
    again = λ t m journal at p place x there. (writers.again t m journal at p.0 place x there, again_sources t m journal at p.0 p.1 place x there);
    uses = λ t m journal at p node n xid uid gid call may new bound. (writers.uses t m journal at p.0 node n xid uid gid call may new bound, used_sources t m journal at p.0 p.1 node n xid uid gid call may new);
    takes = λ t m journal at p file uid pos bytes bound. (((writers.takes t m journal at p.0 file uid pos bytes bound).0, noted_sources t m journal at p.0 p.1 (entry.Sent file (a_uid uid) pos bytes) refl (λ id c. refl)), (tt, tt));
    strays = λ t m journal at p file uid pos bytes bound. (((writers.strays t m journal at p.0 file uid pos bytes bound).0, noted_sources t m journal at p.0 p.1 (entry.Rogue file (a_uid uid) pos bytes) refl (λ id c. refl)), (tt, tt));
    tells = λ t m journal at p file uid pos bytes bound. (((writers.tells t m journal at p.0 file uid pos bytes bound).0, noted_sources t m journal at p.0 p.1 (entry.Told file (a_uid uid) pos bytes) refl (λ id c. refl)), (tt, tt));
    creates = λ t m journal at p servers may h. (writers.creates t m journal at p.0 servers may h, created_sources t m journal at p.0 p.1 servers h);
  }

  module _ (new : (number boot : ℕ) → IsInOrder (new_server number boot) × IsTold (new_server number boot) []) (boots : List ℕ) where
    abbrev begin : Machine
    begin = new_machine (new_servers 1 boots)

    pub first_sources : KnowsSources first_story begin []
    first_sources = record {
      lows = λ k less. record { mine = refl; drawn = omega arith };
      owners = λ n s index file k there found named less. let owner = ((first_moment new calls restarts boots).holds.servers n s there).owners index file k found named less in record { mine = refl; drawn = omega (arith, owner.1) };
      known = λ u less. omega arith;
      packets = tt;
      files = λ n f is. absurd (no_files n f is);
    }

    pub sources_run : (moves : List Move) → AreBound boots moves → RunDone KnowsBoth IsSwapOf source_cases calls restarts first_story begin [] moves
    sources_run moves bound = run_done KnowsBoth IsSwapOf source_cases calls restarts moves first_story begin [] (first_moment new calls restarts boots) (first_writers new calls restarts boots, first_sources) bound

    stable : (before : List Entry) (f : FileId) → HasSource before f → HasStableSource before f
    stable before f h =
        let shown : bytes_of before f ≡ h.bytes = ap (shown_at before) h.live ∙ whole_shown h.bytes (content_of before h.first).content h.whole in
        record { first = h.first; rest = h.rest; live = h.live; has = subst (λ (b : List ℕ). Has b (content_of before h.first).content) (sym shown) (whole_has h.bytes (content_of before h.first).content h.whole) }

    pub swaps_from_stable : (moves : List Move) → AreBound boots moves → SwapsFromStable (journal_of begin moves)
    swaps_from_stable moves bound before behind f old new_one is =
        let run = sources_run moves bound in
        stable before f (each_at IsSwapSo [] before (entry.Swapped f old new_one) behind (subst (AreEach IsSwapSo []) is run.each))
