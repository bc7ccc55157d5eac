-- Behind every move each file has few mirrors, and the uids have not come to their end.
use Rattle.std.proofs.Common.{◌≡◌, ℕ, ◌+◌, ◌-◌, ◌<◌, ◌≤◌, true, eqb, ltb, List, [], ◌∷◌, length, Option, Some, None, refl, subst, arith}
use Rattle.std.specs.Prelude.{slice_get, ◌&&◌, not}
use Rattle.std.specs.List.{AllByRecursion}
use Rattle.std.proofs.lemmas.Bool.{cond_both, and_parts, ltb-true}
use Rattle.std.proofs.lemmas.List.{length-map}
use Rattle.cluster_model.specs.declared.tick.Tick.{Tick}
use Rattle.cluster_model.specs.declared.ids.NodeId.{NodeId}
use Rattle.cluster_model.specs.declared.ids.NodeId.TheVariants.{Mds, Server, Client}
use Rattle.cluster_model.specs.declared.ids.MirrorId.{MirrorId}
use Rattle.cluster_model.specs.declared.piece.Piece.{Piece}
use Rattle.cluster_model.specs.Server.{ServerState, Caller, restart_of}
use Rattle.cluster_model.specs.DsCalls.{DsCallValue, DsReplyValue}
use Rattle.file_rule.specs.declared.creation.Creation.{Creation}
use Rattle.cluster_model.specs.declared.call_stage.CallStage.TheVariants.{Waits}
use Rattle.file_rule.specs.MdsFiles.{MdsFile, FileStep}
use Rattle.file_rule.specs.FilePhases.{FileInput, Answers, TimesOut, Sees, creations_at, new_mds_file, end_of_uids, are_spent, phase, CallOut, call_out, is_outstanding}
use Rattle.cluster_laws.specs.Machine.{PacketValue, Call, Reply, Machine, MachineStep, no_move, new_machine, Move, Deliver, Creates, Happens, CallsOut, SendsAgain, GivesUpWaiting, Hears, Uses, Learns, Takes, Strays, Tells, Restarts, numbered_at, with_file, fresh_of, held_by, file_id, can_draw, file_stepped, file_takes, caller_by, arrives_at, file_of, answers_at, comes_to, delivered, comes_by_itself, are_servers, may_create, created, is_new_number, goes_out, call_out_from, sent_again, may_use, may_number, puts_out, used, heard_at, heard, ctime_in, learns_tick, was_write_to, learns_from, learnt, started_again, restarts_at, moved, machine_after}
use Rattle.cluster_laws.specs.FenceLaw.{new_servers}
use Rattle.cluster_laws.specs.RunBounds.{StepsDrawFew, UidsEnd}
use Rattle.cluster_laws.proofs.Lists.{all_append, all_at, all_set, place_of}
use Rattle.cluster_laws.proofs.FewMirrors.{FileHasFew}
use Rattle.cluster_laws.proofs.FewSteps.{phase_few, OutFew, out_few}

pub record IsBounded (files : List MdsFile) (next_uid : ℕ) : Type 0 where
  pub files_few : AllByRecursion FileHasFew files
  pub uids_end : next_uid ≤ end_of_uids

abbrev pub Bounded : Machine → Type 0
Bounded m = IsBounded m.files m.next_uid

module _ (m : Machine) (h : Bounded m) where
  abbrev After : MachineStep → Type 0
  After x = Bounded x.machine

  numbered_few : (n : ℕ) (f : MdsFile) → numbered_at m.files n ≡ Some f → FileHasFew f
  numbered_few n f there = all_at FileHasFew m.files (n - 1) f h.files_few (place_of m.files n f there).1

  -- ---- a file takes an input

  room_by : (uids names : ℕ) → can_draw m uids names ≡ true → m.next_uid + uids ≤ end_of_uids
  room_by uids names is =
      let less : m.next_uid + uids < end_of_uids + 1 = ltb-true (m.next_uid + uids) (end_of_uids + 1) (and_parts (ltb (m.next_uid + uids) (end_of_uids + 1)) (ltb (m.next_name + names) 18446744073709551616) is).0 in
      omega (arith, less)

  stepped : (n : ℕ) (s : FileStep) → FileHasFew s.file → After (file_stepped m n s)
  stepped n s few =
      cond_both (can_draw m s.uids s.names) (record { machine = with_file m n s (held_by _ s.entries); entries = s.entries }) (no_move m) After
      (λ e. record { files_few = all_set FileHasFew m.files (n - 1) s.file h.files_few few; uids_end = room_by s.uids s.names e }) (λ e. h)

  takes : (n : ℕ) (input : FileInput) (o : Option MdsFile) → ((f : MdsFile) → o ≡ Some f → FileHasFew f) → After (file_takes m n input o)
  takes n input None all = h
  takes n input (Some f) all = stepped n (phase (file_id n) f input (fresh_of m)) (phase_few (file_id n) (fresh_of m) f input (all f refl)).file

  takes_at : (n : ℕ) (input : FileInput) → After (file_takes m n input (numbered_at m.files n))
  takes_at n input = takes n input (numbered_at m.files n) (numbered_few n)

  -- ---- packets

  arrives : (place : ℕ) (from : NodeId) (n xid : ℕ) (caller : Caller) (call : DsCallValue) (s : Option ServerState) → After (arrives_at m place from n xid caller call s)
  arrives place from n xid caller call None = h
  arrives place from n xid caller call (Some s) = h

  answers : (xid : ℕ) (reply : DsReplyValue) (place : Option ℕ) → After (answers_at m xid reply place)
  answers xid reply None = h
  answers xid reply (Some place) = takes (place + 1) (Answers xid reply) (slice_get m.files place) (λ f there. all_at FileHasFew m.files place f h.files_few there)

  comes : (server xid : ℕ) (reply : DsReplyValue) (to : NodeId) → After (comes_to m server xid reply to)
  comes server xid reply Mds = answers xid reply (file_of m.files server xid)
  comes server xid reply (Server n) = h
  comes server xid reply (Client n) = h

  delivers : (place : ℕ) (p : Option PacketValue) → After (delivered m place p)
  delivers place None = h
  delivers place (Some (Call from server xid uid gid call)) = arrives place from server xid (caller_by uid gid) call (numbered_at m.servers server)
  delivers place (Some (Reply call server to xid reply)) = comes server xid reply to

  hears_at : (n server xid : ℕ) (reply : DsReplyValue) (to : NodeId) (o : Option MdsFile) → ((f : MdsFile) → o ≡ Some f → FileHasFew f) → After (heard_at m n server xid reply to o)
  hears_at n server xid reply to None all = h
  hears_at n server xid reply Mds (Some f) all =
      cond_both (is_outstanding f server xid) (file_takes m n (Answers xid reply) (Some f)) (no_move m) After (λ e. takes n (Answers xid reply) (Some f) all) (λ e. h)
  hears_at n server xid reply (Server k) (Some f) all = h
  hears_at n server xid reply (Client k) (Some f) all = h

  hears : (n : ℕ) (p : Option PacketValue) → After (heard m n p)
  hears n None = h
  hears n (Some (Call from server xid uid gid call)) = h
  hears n (Some (Reply call server to xid reply)) = hears_at n server xid reply to (numbered_at m.files n) (numbered_few n)

  learns_tick_at : (n : ℕ) (id : MirrorId) (o : Option Tick) → After (learns_tick m n id (numbered_at m.files n) o)
  learns_tick_at n id None = h
  learns_tick_at n id (Some tick) = takes_at n (Sees id tick)

  learns_at : (n : ℕ) (id : MirrorId) (call server : ℕ) (to : NodeId) (reply : DsReplyValue) → After (learns_from m n id (numbered_at m.files n) call server to reply)
  learns_at n id call server Mds reply =
      cond_both (eqb server id.server && was_write_to id.fileid (slice_get m.packets call)) (learns_tick m n id (numbered_at m.files n) (ctime_in reply)) (no_move m) After
      (λ e. learns_tick_at n id (ctime_in reply)) (λ e. h)
  learns_at n id call server (Server k) reply = h
  learns_at n id call server (Client k) reply = h

  learns : (n : ℕ) (id : MirrorId) (p : Option PacketValue) → After (learnt m n id (numbered_at m.files n) p)
  learns n id None = h
  learns n id (Some (Call from server xid uid gid call)) = h
  learns n id (Some (Reply call server to xid reply)) = learns_at n id call server to reply

  again : (p : Option PacketValue) → After (sent_again m p)
  again None = h
  again (Some p) = h

  uses : (node : NodeId) (server xid uid gid : ℕ) (call : DsCallValue) → After (used m node server xid uid gid call)
  uses node server xid uid gid call =
      cond_both (may_use call && may_number m node xid) (record { machine = puts_out m node xid (Call node server xid uid gid call); entries = [] }) (no_move m) After (λ e. h) (λ e. h)

  -- ---- a new file

  creates : (servers : List ℕ) → After (created m servers)
  creates servers =
      cond_both (may_create m servers) _ (no_move m) After
      (λ e.
      let draw = and_parts (ltb 0 (length servers) && ltb (length servers) 5 && are_servers (length m.servers) servers && not (are_spent (fresh_of m))) (can_draw m 1 1) e in
      let left = and_parts (ltb 0 (length servers) && ltb (length servers) 5 && are_servers (length m.servers) servers) (not (are_spent (fresh_of m))) draw.0 in
      let apart = and_parts (ltb 0 (length servers) && ltb (length servers) 5) (are_servers (length m.servers) servers) left.0 in
      let less = ltb-true (length servers) 5 (and_parts (ltb 0 (length servers)) (ltb (length servers) 5) apart.0).1 in
      let size : length (creations_at m.next_name servers) ≡ length servers = length-map {B = Creation} servers (λ n. record { server = n; name = m.next_name; stage = Waits; made = None }) in
      record {
        files_few = all_append FileHasFew m.files (new_mds_file (fresh_of m) servers ∷ []) h.files_few (record { mirrors = record { few_wanted = omega (arith, less); few_live = omega arith }; room = omega (arith, less, size) }, tt);
        uids_end = room_by 1 1 draw.1;
      })
      (λ e. h)

  -- ---- a call goes out

  out_at : (n xid : ℕ) (o : Option CallOut) → ((c : CallOut) → o ≡ Some c → FileHasFew c.file) → After (goes_out m n xid o)
  out_at n xid None all = h
  out_at n xid (Some c) all = record { files_few = all_set FileHasFew m.files (n - 1) c.file h.files_few (all c refl); uids_end = h.uids_end }

  calls_out : (n xid : ℕ) (o : Option MdsFile) → ((f : MdsFile) → o ≡ Some f → FileHasFew f) → After (call_out_from m n xid o)
  calls_out n xid None all = h
  calls_out n xid (Some f) all =
      cond_both (is_new_number m Mds xid) (goes_out m n xid (call_out f xid)) (no_move m) After
      (λ e. out_at n xid (call_out f xid) (λ c is. subst (OutFew f (all f refl)) is (out_few f (all f refl) xid f.activity (all f refl).room))) (λ e. h)

  -- ---- restarts

  started : (n : ℕ) (pieces : List Piece) (o : Option ServerState) → After (started_again m n pieces o)
  started n pieces None = h
  started n pieces (Some s) = h

  restarts : (n : ℕ) (pieces : List Piece) (o : Option ServerState) → After (restarts_at m n pieces o)
  restarts n pieces None = h
  restarts n pieces (Some s) = started n pieces (restart_of s pieces)

  -- ---- every move

  move_bounded : (move : Move) → After (moved m move)
  move_bounded (Deliver place) = delivers place (slice_get m.packets place)
  move_bounded (Creates at_servers) = creates at_servers
  move_bounded (Happens n input) = cond_both (comes_by_itself input) (file_takes m n input (numbered_at m.files n)) (no_move m) After (λ e. takes_at n input) (λ e. h)
  move_bounded (CallsOut n xid) = calls_out n xid (numbered_at m.files n) (numbered_few n)
  move_bounded (SendsAgain place) = again (slice_get m.packets place)
  move_bounded (GivesUpWaiting n xid) = takes_at n (TimesOut xid)
  move_bounded (Hears n place) = hears n (slice_get m.packets place)
  move_bounded (Uses node server xid uid gid call) = uses node server xid uid gid call
  move_bounded (Learns n place id) = learns n id (slice_get m.packets place)
  move_bounded (Takes file uid at bytes) = h
  move_bounded (Strays file uid at bytes) = h
  move_bounded (Tells file uid at bytes) = h
  move_bounded (Restarts n pieces) = restarts n pieces (numbered_at m.servers n)

run_bounded : (moves : List Move) (m : Machine) → Bounded m → Bounded (machine_after m moves)
run_bounded [] m h = h
run_bounded (move ∷ moves) m h = run_bounded moves (moved m move).machine (move_bounded m h move)

module _ (boots : List ℕ) (moves : List Move) where
  behind_run : Bounded (machine_after (new_machine (new_servers 1 boots)) moves)
  behind_run = run_bounded moves (new_machine (new_servers 1 boots)) (record { files_few = tt; uids_end = omega arith })

  pub draws_few : StepsDrawFew boots moves
  draws_few n f input there =
      let m : Machine = machine_after (new_machine (new_servers 1 boots)) moves in
      let step = phase_few (file_id n) (fresh_of m) f input (numbered_few m behind_run n f there) in
      record { uids = step.few_uids; names = step.few_names }

  pub uids_end : UidsEnd boots moves
  uids_end = behind_run.uids_end
