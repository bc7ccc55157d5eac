-- What was sent stays among the packets, whatever moves come.
use Rattle.std.proofs.Common.{◌≡◌, ℕ, zero, suc, List, [], ◌∷◌, ◌++◌, Option, Some, None, subst}
use Rattle.std.specs.Prelude.{slice_get, ◌&&◌, ◌==◌}
use Rattle.std.proofs.lemmas.Bool.{cond_both}
use Rattle.cluster_model.specs.declared.tick.Tick.{Tick}
use Rattle.cluster_model.specs.declared.piece.Piece.{Piece}
use Rattle.cluster_model.specs.declared.ids.NodeId.{NodeId}
use Rattle.cluster_model.specs.declared.ids.NodeId.TheVariants.{Mds, Server, Client}
use Rattle.cluster_model.specs.declared.ids.MirrorId.{MirrorId}
use Rattle.cluster_model.specs.Server.{ServerState, Caller, restart_of}
use Rattle.cluster_model.specs.DsCalls.{DsCallValue, DsReplyValue}
use Rattle.file_rule.specs.MdsFiles.{MdsFile, FileStep}
use Rattle.file_rule.specs.FilePhases.{FileInput, Answers, TimesOut, Sees, CallOut, phase, call_out, is_outstanding}
use Rattle.cluster_laws.specs.Machine.{PacketValue, Call, Reply, Machine, MachineStep, Move, Deliver, Creates, Happens, CallsOut, SendsAgain, GivesUpWaiting, Hears, Uses, Learns, Takes, Strays, Tells, Restarts, no_move, file_id, fresh_of, can_draw, file_takes, numbered_at, caller_by, arrives_at, file_of, answers_at, comes_to, delivered, comes_by_itself, may_create, is_new_number, goes_out, call_out_from, sent_again, may_use, may_number, heard_at, heard, ctime_in, learns_tick, was_write_to, learns_from, learnt, started_again, restarts_at, moved, machine_after}
use Rattle.machine_moves.specs.MachineGoesOn.{MachineGoesOn, HasCalled, HasServerAnswered}
use Rattle.machine_moves.specs.MachineMoves.{KeepsPackets}

push_old : {A : Type 0} (all more : List A) (place : ℕ) (x : A) → slice_get all place ≡ Some x → slice_get (all ++ more) place ≡ Some x
push_old [] more place x is = absurd cc
push_old (a ∷ all) more zero x is = is
push_old (a ∷ all) more (suc n) x is = push_old all more n x is

pub keeps_same : (m : Machine) → KeepsPackets m m
keeps_same m place packet is = is

pub keeps_then : (m n o : Machine) → KeepsPackets m n → KeepsPackets n o → KeepsPackets m o
keeps_then m n o first second place packet is = second place packet (first place packet is)

abbrev Keeps : Machine → MachineStep → Type 0
Keeps m s = KeepsPackets m s.machine

pushes : (m : Machine) (more : List PacketValue) (place : ℕ) (packet : PacketValue) → slice_get m.packets place ≡ Some packet → slice_get (m.packets ++ more) place ≡ Some packet
pushes m more place packet is = push_old m.packets more place packet is

takes : (m : Machine) (n : ℕ) (input : FileInput) (f : Option MdsFile) → Keeps m (file_takes m n input f)
takes m n input None = keeps_same m
takes m n input (Some f) =
    let s : FileStep = phase (file_id n) f input (fresh_of m) in
    cond_both (can_draw m s.uids s.names) _ (no_move m) (Keeps m) (λ e. λ place packet is. is) (λ e. keeps_same m)

answers : (m : Machine) (xid : ℕ) (reply : DsReplyValue) (place : Option ℕ) → Keeps m (answers_at m xid reply place)
answers m xid reply None = keeps_same m
answers m xid reply (Some place) = takes m _ (Answers xid reply) (slice_get m.files place)

comes : (m : Machine) (server xid : ℕ) (reply : DsReplyValue) (to : NodeId) → Keeps m (comes_to m server xid reply to)
comes m server xid reply Mds = answers m xid reply (file_of m.files server xid)
comes m server xid reply (Server n) = keeps_same m
comes m server xid reply (Client n) = keeps_same m

arrives : (m : Machine) (place : ℕ) (from : NodeId) (n xid : ℕ) (caller : Caller) (call : DsCallValue) (s : Option ServerState) → Keeps m (arrives_at m place from n xid caller call s)
arrives m place from n xid caller call None = keeps_same m
arrives m place from n xid caller call (Some s) = pushes m _

delivers : (m : Machine) (place : ℕ) (p : Option PacketValue) → Keeps m (delivered m place p)
delivers m place None = keeps_same m
delivers m place (Some (Call from server xid uid gid call)) = arrives m place from server xid (caller_by uid gid) call (numbered_at m.servers server)
delivers m place (Some (Reply call server to xid reply)) = comes m server xid reply to

heard_by : (m : Machine) (n server xid : ℕ) (reply : DsReplyValue) (to : NodeId) (f : Option MdsFile) → Keeps m (heard_at m n server xid reply to f)
heard_by m n server xid reply to None = keeps_same m
heard_by m n server xid reply Mds (Some f) =
    cond_both (is_outstanding f server xid) (file_takes m n (Answers xid reply) (Some f)) (no_move m) (Keeps m) (λ e. takes m n (Answers xid reply) (Some f)) (λ e. keeps_same m)
heard_by m n server xid reply (Server k) (Some f) = keeps_same m
heard_by m n server xid reply (Client k) (Some f) = keeps_same m

hears : (m : Machine) (n : ℕ) (p : Option PacketValue) → Keeps m (heard m n p)
hears m n None = keeps_same m
hears m n (Some (Call from server xid uid gid call)) = keeps_same m
hears m n (Some (Reply call server to xid reply)) = heard_by m n server xid reply to (numbered_at m.files n)

out : (m : Machine) (n xid : ℕ) (c : Option CallOut) → Keeps m (goes_out m n xid c)
out m n xid None = keeps_same m
out m n xid (Some c) = pushes m _

calls_out : (m : Machine) (n xid : ℕ) (f : Option MdsFile) → Keeps m (call_out_from m n xid f)
calls_out m n xid None = keeps_same m
calls_out m n xid (Some f) = cond_both (is_new_number m Mds xid) (goes_out m n xid (call_out f xid)) (no_move m) (Keeps m) (λ e. out m n xid (call_out f xid)) (λ e. keeps_same m)

again : (m : Machine) (p : Option PacketValue) → Keeps m (sent_again m p)
again m None = keeps_same m
again m (Some p) = pushes m _

tick : (m : Machine) (n : ℕ) (id : MirrorId) (f : Option MdsFile) (t : Option Tick) → Keeps m (learns_tick m n id f t)
tick m n id f None = keeps_same m
tick m n id f (Some t) = takes m n (Sees id t) f

from : (m : Machine) (n : ℕ) (id : MirrorId) (f : Option MdsFile) (call server : ℕ) (to : NodeId) (reply : DsReplyValue) → Keeps m (learns_from m n id f call server to reply)
from m n id f call server Mds reply = cond_both (server == id.server && was_write_to id.fileid (slice_get m.packets call)) (learns_tick m n id f (ctime_in reply)) (no_move m) (Keeps m) (λ e. tick m n id f (ctime_in reply)) (λ e. keeps_same m)
from m n id f call server (Server k) reply = keeps_same m
from m n id f call server (Client k) reply = keeps_same m

learns : (m : Machine) (n : ℕ) (id : MirrorId) (f : Option MdsFile) (p : Option PacketValue) → Keeps m (learnt m n id f p)
learns m n id f None = keeps_same m
learns m n id f (Some (Call a b c d e g)) = keeps_same m
learns m n id f (Some (Reply call server to xid reply)) = from m n id f call server to reply

started : (m : Machine) (n : ℕ) (pieces : List Piece) (s : Option ServerState) → Keeps m (started_again m n pieces s)
started m n pieces None = keeps_same m
started m n pieces (Some s) = keeps_same m

restarts : (m : Machine) (n : ℕ) (pieces : List Piece) (s : Option ServerState) → Keeps m (restarts_at m n pieces s)
restarts m n pieces None = keeps_same m
restarts m n pieces (Some s) = started m n pieces (restart_of s pieces)

pub move_keeps : (m : Machine) (move : Move) → Keeps m (moved m move)
move_keeps m (Deliver place) = delivers m place (slice_get m.packets place)
move_keeps m (Creates at_servers) = cond_both (may_create m at_servers) _ (no_move m) (Keeps m) (λ e. λ place packet is. is) (λ e. keeps_same m)
move_keeps m (Happens n input) = cond_both (comes_by_itself input) (file_takes m n input (numbered_at m.files n)) (no_move m) (Keeps m) (λ e. takes m n input (numbered_at m.files n)) (λ e. keeps_same m)
move_keeps m (CallsOut n xid) = calls_out m n xid (numbered_at m.files n)
move_keeps m (SendsAgain place) = again m (slice_get m.packets place)
move_keeps m (GivesUpWaiting n xid) = takes m n (TimesOut xid) (numbered_at m.files n)
move_keeps m (Hears n place) = hears m n (slice_get m.packets place)
move_keeps m (Uses node server xid uid gid call) = cond_both (may_use call && may_number m node xid) _ (no_move m) (Keeps m) (λ e. pushes m _) (λ e. keeps_same m)
move_keeps m (Learns n place id) = learns m n id (numbered_at m.files n) (slice_get m.packets place)
move_keeps m (Takes file uid at bytes) = keeps_same m
move_keeps m (Strays file uid at bytes) = keeps_same m
move_keeps m (Tells file uid at bytes) = keeps_same m
move_keeps m (Restarts n pieces) = restarts m n pieces (numbered_at m.servers n)

pub moves_keep : (m : Machine) (moves : List Move) → KeepsPackets m (machine_after m moves)
moves_keep m [] = keeps_same m
moves_keep m (move ∷ moves) = keeps_then m (moved m move).machine (machine_after (moved m move).machine moves) (move_keeps m move) (moves_keep (moved m move).machine moves)

pub goes_keep : (m n : Machine) (entries : List _) → MachineGoesOn m entries n → KeepsPackets m n
goes_keep m n entries g = subst (λ (x : Machine). KeepsPackets m x) g.machine (moves_keep m g.moves)

pub still_called : (m n : Machine) (server xid uid : ℕ) (call : DsCallValue) → KeepsPackets m n → HasCalled m server xid uid call → HasCalled n server xid uid call
still_called m n server xid uid call keeps h = record { place = h.place; there = keeps h.place _ h.there }

pub still_answered : (m n : Machine) (server xid : ℕ) (call : DsCallValue) (reply : DsReplyValue) → KeepsPackets m n → HasServerAnswered m server xid call reply → HasServerAnswered n server xid call reply
still_answered m n server xid call reply keeps h = record { uid = h.uid; called = h.called; call_there = keeps h.called _ h.call_there; place = h.place; there = keeps h.place _ h.there }
