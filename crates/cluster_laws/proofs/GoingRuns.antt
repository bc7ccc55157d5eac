-- Behind every move a copy that a file has under way has no outcome.
use Rattle.std.proofs.Common.{◌≡◌, ℕ, ◌+◌, ◌-◌, Bool, cond, eqb, ltb, List, [], ◌∷◌, length, Option, Some, None, refl, sym, ap, subst, length-set}
use Rattle.std.specs.Prelude.{slice_get, slice_set, ◌&&◌, not}
use Rattle.std.specs.List.{AllByRecursion}
use Rattle.std.proofs.lemmas.Bool.{cond_both, and_parts}
use Rattle.cluster_model.specs.declared.tick.Tick.{Tick}
use Rattle.cluster_model.specs.declared.ids.NodeId.{NodeId}
use Rattle.cluster_model.specs.declared.ids.NodeId.TheVariants.{Mds, Server, Client}
use Rattle.cluster_model.specs.declared.ids.MirrorId.{MirrorId}
use Rattle.cluster_model.specs.declared.piece.Piece.{Piece}
use Rattle.cluster_model.specs.Server.{ServerState, Caller, restart_of}
use Rattle.cluster_model.specs.declared.targets.SwappedIn.{SwappedIn}
use Rattle.cluster_model.specs.DsCalls.{DsCallValue, DsReplyValue}
use Rattle.copy_rule.specs.Copies.{swaps_of}
use Rattle.file_rule.specs.MdsFiles.{Copies, MdsFile, FileStep}
use Rattle.file_rule.specs.FilePhases.{FileInput, Answers, TimesOut, Sees, new_mds_file, are_spent, phase, CallOut, call_out, is_outstanding}
use Rattle.cluster_laws.specs.Machine.{PacketValue, Call, Reply, Machine, MachineStep, no_move, new_machine, Move, Deliver, Creates, Happens, CallsOut, SendsAgain, GivesUpWaiting, Hears, Uses, Learns, Takes, Strays, Tells, Restarts, numbered_at, with_file, fresh_of, held_by, file_id, can_draw, file_stepped, file_takes, caller_by, arrives_at, file_of, answers_at, comes_to, delivered, comes_by_itself, are_servers, may_create, created, is_new_number, goes_out, call_out_from, sent_again, may_use, may_number, puts_out, used, heard_at, heard, ctime_in, learns_tick, was_write_to, learns_from, learnt, started_again, restarts_at, moved, machine_after}
use Rattle.cluster_laws.specs.FenceLaw.{new_servers}
use Rattle.cluster_laws.specs.GoingCopies.{CopiesGoOn}
use Rattle.cluster_laws.proofs.Lists.{all_append, all_at, all_set, place_of}
use Rattle.cluster_laws.proofs.GoingPlans.{servers_few}
use Rattle.cluster_laws.proofs.GoingSteps.{OpenIn, FileGoes, phase_goes, OutGoes, out_goes}

abbrev pub Going : Machine → Type 0
Going m = AllByRecursion (FileGoes (length m.servers)) m.files

module _ (m : Machine) (h : Going m) where
  abbrev After : MachineStep → Type 0
  After x = Going x.machine

  -- ---- a file takes an input

  numbered_goes : (n : ℕ) (f : MdsFile) → numbered_at m.files n ≡ Some f → FileGoes (length m.servers) f
  numbered_goes n f there = all_at (FileGoes (length m.servers)) m.files (n - 1) f h (place_of m.files n f there).1

  stepped : (n : ℕ) (s : FileStep) → FileGoes (length m.servers) s.file → After (file_stepped m n s)
  stepped n s goes =
      cond_both (can_draw m s.uids s.names) (record { machine = with_file m n s (held_by _ s.entries); entries = s.entries }) (no_move m) After
      (λ e. all_set (FileGoes (length m.servers)) m.files (n - 1) s.file h goes) (λ e. h)

  takes : (n : ℕ) (input : FileInput) (o : Option MdsFile) → ((f : MdsFile) → o ≡ Some f → FileGoes (length m.servers) f) → After (file_takes m n input o)
  takes n input None all = h
  takes n input (Some f) all = stepped n (phase (file_id n) f input (fresh_of m)) (phase_goes (file_id n) (fresh_of m) f input (all f refl))

  takes_at : (n : ℕ) (input : FileInput) → After (file_takes m n input (numbered_at m.files n))
  takes_at n input = takes n input (numbered_at m.files n) (numbered_goes n)

  -- one server takes another's place
  as_many : (n : ℕ) (s : ServerState) → AllByRecursion (FileGoes (length (slice_set m.servers (n - 1) s))) m.files
  as_many n s = subst (λ (k : ℕ). AllByRecursion (FileGoes k) m.files) (sym (length-set m.servers (n - 1) s)) h

  -- ---- packets

  arrives : (place : ℕ) (from : NodeId) (n xid : ℕ) (caller : Caller) (call : DsCallValue) (s : Option ServerState) → After (arrives_at m place from n xid caller call s)
  arrives place from n xid caller call None = h
  arrives place from n xid caller call (Some s) = as_many n _

  answers : (xid : ℕ) (reply : DsReplyValue) (place : Option ℕ) → After (answers_at m xid reply place)
  answers xid reply None = h
  answers xid reply (Some place) = takes (place + 1) (Answers xid reply) (slice_get m.files place) (λ f there. all_at (FileGoes (length m.servers)) m.files place f h there)

  comes : (server xid : ℕ) (reply : DsReplyValue) (to : NodeId) → After (comes_to m server xid reply to)
  comes server xid reply Mds = answers xid reply (file_of m.files server xid)
  comes server xid reply (Server n) = h
  comes server xid reply (Client n) = h

  delivers : (place : ℕ) (p : Option PacketValue) → After (delivered m place p)
  delivers place None = h
  delivers place (Some (Call from server xid uid gid call)) = arrives place from server xid (caller_by uid gid) call (numbered_at m.servers server)
  delivers place (Some (Reply call server to xid reply)) = comes server xid reply to

  hears_at : (n server xid : ℕ) (reply : DsReplyValue) (to : NodeId) (o : Option MdsFile) → ((f : MdsFile) → o ≡ Some f → FileGoes (length m.servers) f) → After (heard_at m n server xid reply to o)
  hears_at n server xid reply to None all = h
  hears_at n server xid reply Mds (Some f) all =
      cond_both (is_outstanding f server xid) (file_takes m n (Answers xid reply) (Some f)) (no_move m) After (λ e. takes n (Answers xid reply) (Some f) all) (λ e. h)
  hears_at n server xid reply (Server k) (Some f) all = h
  hears_at n server xid reply (Client k) (Some f) all = h

  hears : (n : ℕ) (p : Option PacketValue) → After (heard m n p)
  hears n None = h
  hears n (Some (Call from server xid uid gid call)) = h
  hears n (Some (Reply call server to xid reply)) = hears_at n server xid reply to (numbered_at m.files n) (numbered_goes n)

  learns_tick_at : (n : ℕ) (id : MirrorId) (o : Option Tick) → After (learns_tick m n id (numbered_at m.files n) o)
  learns_tick_at n id None = h
  learns_tick_at n id (Some tick) = takes_at n (Sees id tick)

  learns_at : (n : ℕ) (id : MirrorId) (call server : ℕ) (to : NodeId) (reply : DsReplyValue) → After (learns_from m n id (numbered_at m.files n) call server to reply)
  learns_at n id call server Mds reply =
      cond_both (eqb server id.server && was_write_to id.fileid (slice_get m.packets call)) (learns_tick m n id (numbered_at m.files n) (ctime_in reply)) (no_move m) After
      (λ e. learns_tick_at n id (ctime_in reply)) (λ e. h)
  learns_at n id call server (Server k) reply = h
  learns_at n id call server (Client k) reply = h

  learns : (n : ℕ) (id : MirrorId) (p : Option PacketValue) → After (learnt m n id (numbered_at m.files n) p)
  learns n id None = h
  learns n id (Some (Call from server xid uid gid call)) = h
  learns n id (Some (Reply call server to xid reply)) = learns_at n id call server to reply

  again : (p : Option PacketValue) → After (sent_again m p)
  again None = h
  again (Some p) = h

  uses : (node : NodeId) (server xid uid gid : ℕ) (call : DsCallValue) → After (used m node server xid uid gid call)
  uses node server xid uid gid call =
      cond_both (may_use call && may_number m node xid) (record { machine = puts_out m node xid (Call node server xid uid gid call); entries = [] }) (no_move m) After (λ e. h) (λ e. h)

  -- ---- a new file

  creates : (servers : List ℕ) → After (created m servers)
  creates servers =
      cond_both (may_create m servers) _ (no_move m) After
      (λ e.
      let draw = and_parts (ltb 0 (length servers) && ltb (length servers) 5 && are_servers (length m.servers) servers && not (are_spent (fresh_of m))) (can_draw m 1 1) e in
      let left = and_parts (ltb 0 (length servers) && ltb (length servers) 5 && are_servers (length m.servers) servers) (not (are_spent (fresh_of m))) draw.0 in
      let apart = and_parts (ltb 0 (length servers) && ltb (length servers) 5) (are_servers (length m.servers) servers) left.0 in
      all_append (FileGoes (length m.servers)) m.files (new_mds_file (fresh_of m) servers ∷ []) h (record { fits = servers_few (length m.servers) servers apart.1; goes = tt }, tt))
      (λ e. h)

  -- ---- a call goes out

  out_at : (n xid : ℕ) (o : Option CallOut) → ((c : CallOut) → o ≡ Some c → FileGoes (length m.servers) c.file) → After (goes_out m n xid o)
  out_at n xid None all = h
  out_at n xid (Some c) all = all_set (FileGoes (length m.servers)) m.files (n - 1) c.file h (all c refl)

  calls_out : (n xid : ℕ) (o : Option MdsFile) → ((f : MdsFile) → o ≡ Some f → FileGoes (length m.servers) f) → After (call_out_from m n xid o)
  calls_out n xid None all = h
  calls_out n xid (Some f) all =
      cond_both (is_new_number m Mds xid) (goes_out m n xid (call_out f xid)) (no_move m) After
      (λ e. out_at n xid (call_out f xid) (λ c is. subst (OutGoes (length m.servers) f (all f refl)) is (out_goes (length m.servers) f (all f refl) xid f.activity (all f refl).goes))) (λ e. h)

  -- ---- restarts

  started : (n : ℕ) (pieces : List Piece) (o : Option ServerState) → After (started_again m n pieces o)
  started n pieces None = h
  started n pieces (Some s) = as_many n s

  restarts : (n : ℕ) (pieces : List Piece) (o : Option ServerState) → After (restarts_at m n pieces o)
  restarts n pieces None = h
  restarts n pieces (Some s) = started n pieces (restart_of s pieces)

  -- ---- every move

  move_going : (move : Move) → After (moved m move)
  move_going (Deliver place) = delivers place (slice_get m.packets place)
  move_going (Creates at_servers) = creates at_servers
  move_going (Happens n input) = cond_both (comes_by_itself input) (file_takes m n input (numbered_at m.files n)) (no_move m) After (λ e. takes_at n input) (λ e. h)
  move_going (CallsOut n xid) = calls_out n xid (numbered_at m.files n) (numbered_goes n)
  move_going (SendsAgain place) = again (slice_get m.packets place)
  move_going (GivesUpWaiting n xid) = takes_at n (TimesOut xid)
  move_going (Hears n place) = hears n (slice_get m.packets place)
  move_going (Uses node server xid uid gid call) = uses node server xid uid gid call
  move_going (Learns n place id) = learns n id (slice_get m.packets place)
  move_going (Takes file uid at bytes) = h
  move_going (Strays file uid at bytes) = h
  move_going (Tells file uid at bytes) = h
  move_going (Restarts n pieces) = restarts n pieces (numbered_at m.servers n)

run_going : (moves : List Move) (m : Machine) → Going m → Going (machine_after m moves)
run_going [] m h = h
run_going (move ∷ moves) m h = run_going moves (moved m move).machine (move_going m h move)

module _ (boots : List ℕ) (moves : List Move) where
  behind_run : Going (machine_after (new_machine (new_servers 1 boots)) moves)
  behind_run = run_going moves (new_machine (new_servers 1 boots)) tt

  pub going : CopiesGoOn boots moves
  going n f c there is =
      let open' : OpenIn (Copies c) = subst OpenIn is (numbered_goes (machine_after (new_machine (new_servers 1 boots)) moves) behind_run n f there).goes in
      ap (λ (b : Bool). cond {A = Option (List SwappedIn)} b (Some (swaps_of c)) None) open'
