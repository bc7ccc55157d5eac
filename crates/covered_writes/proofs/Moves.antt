-- Every move keeps what the packets show, and so does a run.
use Rattle.std.proofs.Common.{true, ◌≡◌, ℕ, zero, suc, ◌+◌, ◌-◌, ◌<◌, List, [], ◌∷◌, ◌++◌, length, Option, Some, None, refl, sym, ap, subst, ◌∙◌, arith, append_assoc, append-nil}
use Rattle.std.specs.Prelude.{slice_get, ◌&&◌, ◌==◌}
use Rattle.std.proofs.lemmas.Bool.{cond_both}
use Rattle.std.proofs.lemmas.Option.{same_Some}
use Rattle.cluster_model.specs.declared.tick.Tick.{Tick}
use Rattle.cluster_model.specs.declared.piece.Piece.{Piece}
use Rattle.cluster_model.specs.declared.ids.NodeId.{NodeId}
use Rattle.cluster_model.specs.declared.ids.NodeId.TheVariants.{Mds, Server, Client}
use Rattle.cluster_model.specs.declared.ids.MirrorId.{MirrorId}
use Rattle.cluster_model.specs.declared.entry.Entry.{Entry}
use Rattle.cluster_model.specs.Content.{Pending}
use Rattle.cluster_model.specs.Server.{ServerState, new_server, restart_of}
use Rattle.cluster_model.specs.declared.entry.Entry.TheVariants as entry
use Rattle.cluster_model.specs.DsCalls.{DsCallValue, DsReplyValue}
use Rattle.file_rule.specs.MdsFiles.{MdsFile, FileStep}
use Rattle.file_rule.specs.FilePhases.{FileInput, Answers, TimesOut, Sees, CallOut, phase, call_out, is_outstanding}
use Rattle.cluster_laws.specs.Machine.{PacketValue, Call, Reply, Machine, MachineStep, Move, Deliver, Creates, Happens, CallsOut, SendsAgain, GivesUpWaiting, Hears, Uses, Learns, Takes, Strays, Tells, Restarts, no_move, new_machine, file_id, fresh_of, can_draw, file_takes, numbered_at, caller_by, arrives_at, file_of, answers_at, comes_to, delivered, comes_by_itself, may_create, is_new_number, goes_out, call_out_from, sent_again, may_use, may_number, heard_at, heard, ctime_in, learns_tick, was_write_to, learns_from, learnt, started_again, restarts_at, moved, machine_after, journal_of}
use Rattle.cluster_laws.specs.FenceLaw.{new_servers}
use Rattle.cluster_laws.specs.Holders.{IsPacketAt, IsCovered, IsIn}
use Rattle.sound_journals.specs.Marks.{marks_of}
use Rattle.covered_writes.specs.CoveredWrites.{AreAnswered, AreWritesCalled}
use Rattle.cluster_laws.proofs.Lists.{place_of}
use Rattle.machine_walk.proofs.PhaseEntries.{IsPhaseEntry, phase_all}
use Rattle.covered_writes.proofs.ServerSteps.{next_boot}
use Rattle.covered_writes.proofs.Standing.{is_of_file, AreOfFiles, IsWritten, IsCommitted, Covers, covers_files, covers_sent}
use Rattle.covered_writes.proofs.Arrivals.{covers_restarted, covers_served}

-- what an input of a file enters
of_file : (input : FileInput) (e : Entry) → IsPhaseEntry input e → is_of_file e ≡ true
of_file input (entry.Applied mirror cred at bytes) its = absurd its
of_file input (entry.Restarted server pieces) its = absurd its
of_file input _ its = refl

module _ (m : Machine) (journal : List Entry) (c : Covers m.servers m.packets journal) where
  abbrev Ok : MachineStep → Type 0
  Ok s = Covers s.machine.servers s.machine.packets (journal ++ s.entries)

  -- entries of files, and nothing else
  only : (entries : List Entry) → AreOfFiles entries → Covers m.servers m.packets (journal ++ entries)
  only entries of_files = covers_files m.servers m.packets journal entries of_files c

  none : Ok (no_move m)
  none = only [] tt

  -- a packet goes out
  sends : (p : PacketValue) → ((place n : ℕ) (to : NodeId) (xid : ℕ) (reply : DsReplyValue) → p ≡ Reply place n to xid reply → (at : ℕ) × IsPacketAt m.packets at (Reply place n to xid reply)) → Covers m.servers (m.packets ++ p ∷ []) (journal ++ [])
  sends p origin = subst (λ (j : List Entry). Covers m.servers (m.packets ++ p ∷ []) j) (sym (append-nil journal)) (covers_sent m.servers m.packets journal c p origin)

  calls : (from : NodeId) (server xid uid gid : ℕ) (call : DsCallValue) → Covers m.servers (m.packets ++ Call from server xid uid gid call ∷ []) (journal ++ [])
  calls from server xid uid gid call = sends (Call from server xid uid gid call) (λ place n to zid reply e. absurd cc)

  takes : (n : ℕ) (input : FileInput) (f : Option MdsFile) → Ok (file_takes m n input f)
  takes n input None = none
  takes n input (Some f) =
      let s : FileStep = phase (file_id n) f input (fresh_of m) in
      cond_both (can_draw m s.uids s.names) _ (no_move m) Ok (λ e. only s.entries (phase_all (λ e. is_of_file e ≡ true) (file_id n) (fresh_of m) f input (of_file input))) (λ e. none)

  answers : (xid : ℕ) (reply : DsReplyValue) (place : Option ℕ) → Ok (answers_at m xid reply place)
  answers xid reply None = none
  answers xid reply (Some place) = takes (place + 1) (Answers xid reply) (slice_get m.files place)

  comes : (server xid : ℕ) (reply : DsReplyValue) (to : NodeId) → Ok (comes_to m server xid reply to)
  comes server xid reply Mds = answers xid reply (file_of m.files server xid)
  comes server xid reply (Server n) = none
  comes server xid reply (Client n) = none

  arrives : (place : ℕ) (from : NodeId) (n xid uid gid : ℕ) (call : DsCallValue) → slice_get m.packets place ≡ Some (Call from n xid uid gid call) → (s : Option ServerState) → numbered_at m.servers n ≡ s → Ok (arrives_at m place from n xid (caller_by uid gid) call s)
  arrives place from n xid uid gid call sent None there = none
  arrives place from n xid uid gid call sent (Some s) there = covers_served m.servers m.packets journal c n s there place from xid uid gid call sent

  delivers : (place : ℕ) (p : Option PacketValue) → slice_get m.packets place ≡ p → Ok (delivered m place p)
  delivers place None there = none
  delivers place (Some (Call from server xid uid gid call)) there = arrives place from server xid uid gid call there (numbered_at m.servers server) refl
  delivers place (Some (Reply call server to xid reply)) there = comes server xid reply to

  heard_by : (n server xid : ℕ) (reply : DsReplyValue) (to : NodeId) (f : Option MdsFile) → Ok (heard_at m n server xid reply to f)
  heard_by n server xid reply to None = none
  heard_by n server xid reply Mds (Some f) = cond_both (is_outstanding f server xid) (file_takes m n (Answers xid reply) (Some f)) (no_move m) Ok (λ e. takes n (Answers xid reply) (Some f)) (λ e. none)
  heard_by n server xid reply (Server k) (Some f) = none
  heard_by n server xid reply (Client k) (Some f) = none

  hears : (n : ℕ) (p : Option PacketValue) → Ok (heard m n p)
  hears n None = none
  hears n (Some (Call from server xid uid gid call)) = none
  hears n (Some (Reply call server to xid reply)) = heard_by n server xid reply to (numbered_at m.files n)

  out : (n xid : ℕ) (o : Option CallOut) → Ok (goes_out m n xid o)
  out n xid None = none
  out n xid (Some o) = calls Mds o.server xid o.uid o.uid o.call

  calls_out : (n xid : ℕ) (f : Option MdsFile) → Ok (call_out_from m n xid f)
  calls_out n xid None = none
  calls_out n xid (Some f) = cond_both (is_new_number m Mds xid) (goes_out m n xid (call_out f xid)) (no_move m) Ok (λ e. out n xid (call_out f xid)) (λ e. none)

  again : (place : ℕ) (p : Option PacketValue) → slice_get m.packets place ≡ p → Ok (sent_again m p)
  again place None there = none
  again place (Some p) there = sends p (λ called n to xid reply e. (place, there ∙ ap (λ (x : PacketValue). Some x) e))

  tick : (n : ℕ) (id : MirrorId) (f : Option MdsFile) (t : Option Tick) → Ok (learns_tick m n id f t)
  tick n id f None = none
  tick n id f (Some t) = takes n (Sees id t) f

  from_reply : (n : ℕ) (id : MirrorId) (f : Option MdsFile) (call server : ℕ) (to : NodeId) (reply : DsReplyValue) → Ok (learns_from m n id f call server to reply)
  from_reply n id f call server Mds reply =
      cond_both (server == id.server && was_write_to id.fileid (slice_get m.packets call)) (learns_tick m n id f (ctime_in reply)) (no_move m) Ok (λ e. tick n id f (ctime_in reply)) (λ e. none)
  from_reply n id f call server (Server k) reply = none
  from_reply n id f call server (Client k) reply = none

  learns : (n : ℕ) (id : MirrorId) (f : Option MdsFile) (p : Option PacketValue) → Ok (learnt m n id f p)
  learns n id f None = none
  learns n id f (Some (Call from server xid uid gid call)) = none
  learns n id f (Some (Reply call server to xid reply)) = from_reply n id f call server to reply

  started : (n : ℕ) (pieces : List Piece) (s : ServerState) → numbered_at m.servers n ≡ Some s → (new : Option ServerState) → restart_of s pieces ≡ new → Ok (started_again m n pieces new)
  started n pieces s there None is = none
  started n pieces s there (Some new) is = let next = next_boot s pieces new is in covers_restarted m.servers m.packets journal c n s there new next.number next.boot pieces

  restarts : (n : ℕ) (pieces : List Piece) (s : Option ServerState) → numbered_at m.servers n ≡ s → Ok (restarts_at m n pieces s)
  restarts n pieces None there = none
  restarts n pieces (Some s) there = started n pieces s there (restart_of s pieces) refl

  move_covers : (move : Move) → Ok (moved m move)
  move_covers (Deliver place) = delivers place (slice_get m.packets place) refl
  move_covers (Creates at_servers) = cond_both (may_create m at_servers) _ (no_move m) Ok (λ e. none) (λ e. none)
  move_covers (Happens n input) = cond_both (comes_by_itself input) (file_takes m n input (numbered_at m.files n)) (no_move m) Ok (λ e. takes n input (numbered_at m.files n)) (λ e. none)
  move_covers (CallsOut n xid) = calls_out n xid (numbered_at m.files n)
  move_covers (SendsAgain place) = again place (slice_get m.packets place) refl
  move_covers (GivesUpWaiting n xid) = takes n (TimesOut xid) (numbered_at m.files n)
  move_covers (Hears n place) = hears n (slice_get m.packets place)
  move_covers (Uses node server xid uid gid call) = cond_both (may_use call && may_number m node xid) _ (no_move m) Ok (λ e. calls node server xid uid gid call) (λ e. none)
  move_covers (Learns n place id) = learns n id (numbered_at m.files n) (slice_get m.packets place)
  move_covers (Takes file uid at bytes) = only _ (refl, tt)
  move_covers (Strays file uid at bytes) = only _ (refl, tt)
  move_covers (Tells file uid at bytes) = only _ (refl, tt)
  move_covers (Restarts n pieces) = restarts n pieces (numbered_at m.servers n) refl

-- ---- a run

run_covers : (moves : List Move) (m : Machine) (journal : List Entry) → Covers m.servers m.packets journal → Covers (machine_after m moves).servers (machine_after m moves).packets (journal ++ journal_of m moves)
run_covers [] m journal c = none m journal c
run_covers (move ∷ moves) m journal c =
    subst (λ (j : List Entry). Covers (machine_after m (move ∷ moves)).servers (machine_after m (move ∷ moves)).packets j) (append_assoc journal (moved m move).entries (journal_of (moved m move).machine moves))
    (run_covers moves (moved m move).machine (journal ++ (moved m move).entries) (move_covers m journal c move))

-- ---- the start

-- the number of the server at a place
new_number : (k : ℕ) (boots : List ℕ) (i : ℕ) (s : ServerState) → slice_get (new_servers k boots) i ≡ Some s → s.number ≡ k + i
new_number k [] i s e = absurd cc
new_number k (boot ∷ boots) zero s e = let same : k ≡ k + 0 = omega arith in ap (λ (x : ServerState). x.number) (sym (same_Some (new_server k boot) s e)) ∙ same
new_number k (boot ∷ boots) (suc i) s e = let rest = new_number (k + 1) boots i s e in omega (arith, rest)

module _ (boots : List ℕ) (moves : List Move) where
  abbrev start : Machine
  start = new_machine (new_servers 1 boots)

  begins : Covers start.servers start.packets []
  begins = record {
    numbers = λ n s is.
        let p = place_of start.servers n s is in
        let ne = p.0 in
        let number = new_number 1 boots (n - 1) s p.1 in
        omega (arith, ne, number);
    answered = λ at place n to xid reply is. absurd cc;
    written = λ at n verifier uid fileid w h. absurd (no_packet at _ h.reply);
    committed = λ at place n verifier uid fileid w h k less. absurd (no_packet at _ h.reply);
    applied = tt;
  }
    where
      no_packet : (at : ℕ) (p : PacketValue) → IsPacketAt [] at p → ⊥
      no_packet at p is = cc

  whole : Covers (machine_after start moves).servers (machine_after start moves).packets (journal_of start moves)
  whole = run_covers moves start [] begins

  pub run_answered : AreAnswered (machine_after start moves).packets
  run_answered = whole.answered

  pub run_applied : AreWritesCalled (machine_after start moves).packets (journal_of start moves)
  run_applied = whole.applied

  pub run_covered : (uid : ℕ) (id : MirrorId) (w : Pending) → 0 < length w.bytes → IsCovered (machine_after start moves).packets uid id w → IsIn w (marks_of (journal_of start moves) uid id).covered
  run_covered uid id w some h =
      let written : IsWritten (machine_after start moves).packets h.written_place id.server h.verifier uid id.fileid w = record {
        place = h.write_place;
        to = h.writer;
        xid = h.write_xid;
        gid = h.write_gid;
        synced = h.synced;
        shown = h.write_shown;
        call = h.write;
        reply = h.written;
        some = some;
      } in
      let committed : IsCommitted (machine_after start moves).packets h.commit_place id.server h.verifier id.fileid = record {
        at = h.committed_place;
        to = h.committer;
        xid = h.commit_xid;
        uid = h.commit_uid;
        gid = h.commit_gid;
        shown = h.commit_shown;
        call = h.commit;
        reply = h.committed;
      } in
      whole.committed h.written_place h.commit_place id.server h.verifier uid id.fileid w written committed h.behind
