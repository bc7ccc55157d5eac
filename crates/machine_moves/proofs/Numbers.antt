-- Each new call of the metadata server has a number above those of all calls before it, so its calls of one number are one call, sent once
-- or again (RFC 5531, section 9).
use Rattle.std.proofs.Common.{◌≡◌, ◌≤◌, ◌<◌, ◌⊎◌, ℕ, zero, suc, true, List, [], ◌∷◌, ◌++◌, Option, Some, None, refl, sym, subst, ◌∙◌, inl, inr, arith}
use Rattle.std.specs.Prelude.{slice_get, ◌&&◌, ◌==◌}
use Rattle.std.proofs.lemmas.Bool.{cond_both, and_parts, ltb-true}
use Rattle.cluster_model.specs.declared.tick.Tick.{Tick}
use Rattle.cluster_model.specs.declared.piece.Piece.{Piece}
use Rattle.cluster_model.specs.declared.ids.NodeId.{NodeId}
use Rattle.cluster_model.specs.declared.ids.NodeId.TheVariants.{Mds, Server, Client}
use Rattle.cluster_model.specs.declared.ids.MirrorId.{MirrorId}
use Rattle.cluster_model.specs.Server.{ServerState, Caller, restart_of}
use Rattle.cluster_model.specs.DsCalls.{DsCallValue, DsReplyValue, DsStep, ds_step}
use Rattle.file_rule.specs.MdsFiles.{MdsFile, FileStep}
use Rattle.file_rule.specs.FilePhases.{FileInput, Answers, TimesOut, Sees, CallOut, phase, call_out, is_outstanding}
use Rattle.cluster_laws.specs.Machine.{PacketValue, Call, Reply, Machine, MachineStep, Move, Deliver, Creates, Happens, CallsOut, SendsAgain, GivesUpWaiting, Hears, Uses, Learns, Takes, Strays, Tells, Restarts, new_machine, no_move, file_id, fresh_of, can_draw, file_takes, numbered_at, caller_by, arrives_at, file_of, answers_at, comes_to, delivered, comes_by_itself, may_create, is_new_number, goes_out, call_out_from, sent_again, may_use, may_number, heard_at, heard, ctime_in, learns_tick, was_write_to, learns_from, learnt, started_again, restarts_at, used, moved, machine_after}

-- a call of the metadata server with this number
pub record IsCallNumbered (xid : ℕ) (packet : PacketValue) : Type 0 where
  pub server : ℕ
  pub uid : ℕ
  pub gid : ℕ
  pub call : DsCallValue
  pub is : packet ≡ Call Mds server xid uid gid call

pub record CallsOnce (packets : List PacketValue) (last : ℕ) : Type 0 where
  pub used : (place xid : ℕ) (packet : PacketValue) → slice_get packets place ≡ Some packet → IsCallNumbered xid packet → xid ≤ last
  pub once : (i j xid : ℕ) (a b : PacketValue) → slice_get packets i ≡ Some a → slice_get packets j ≡ Some b → IsCallNumbered xid a → IsCallNumbered xid b → a ≡ b

abbrev pub AreCallsOnce : Machine → Type 0
AreCallsOnce m = CallsOnce m.packets (m.last_xid Mds)

-- ---- one packet more

pub old_or_last : {A : Type 0} (xs : List A) (x : A) (place : ℕ) (y : A) → slice_get (xs ++ x ∷ []) place ≡ Some y → (slice_get xs place ≡ Some y) ⊎ (x ≡ y)
old_or_last [] x zero y is = inr (cc (is))
old_or_last [] x (suc place) y is = absurd cc
old_or_last (z ∷ zs) x zero y is = inl is
old_or_last (z ∷ zs) x (suc place) y is = old_or_last zs x place y is

module _ (packets : List PacketValue) (last next : ℕ) (p : PacketValue) (k : CallsOnce packets last) (less : last ≤ next) (fits : (xid : ℕ) → IsCallNumbered xid p → xid ≤ next)
    (one : (i xid : ℕ) (a : PacketValue) → slice_get packets i ≡ Some a → IsCallNumbered xid a → IsCallNumbered xid p → a ≡ p) where
  pub with_packet : CallsOnce (packets ++ p ∷ []) next
  with_packet = record {
    used = λ place xid packet at its. by_place place xid packet its (old_or_last packets p place packet at);
    once = λ i j xid a b i_at j_at a_is b_is. by_both i j xid a b a_is b_is (old_or_last packets p i a i_at) (old_or_last packets p j b j_at);
  }
    where
      by_place : (place xid : ℕ) (packet : PacketValue) → IsCallNumbered xid packet → (slice_get packets place ≡ Some packet) ⊎ (p ≡ packet) → xid ≤ next
      by_place place xid packet its (inl old) = let few : xid ≤ last = k.used place xid packet old its in omega (arith, few, less)
      by_place place xid packet its (inr new) = fits xid (subst (IsCallNumbered xid) (sym new) its)

      by_both : (i j xid : ℕ) (a b : PacketValue) → IsCallNumbered xid a → IsCallNumbered xid b → (slice_get packets i ≡ Some a) ⊎ (p ≡ a) → (slice_get packets j ≡ Some b) ⊎ (p ≡ b) → a ≡ b
      by_both i j xid a b a_is b_is (inl old) (inl also) = k.once i j xid a b old also a_is b_is
      by_both i j xid a b a_is b_is (inl old) (inr new) = one i xid a old a_is (subst (IsCallNumbered xid) (sym new) b_is) ∙ new
      by_both i j xid a b a_is b_is (inr new) (inl old) = sym (one j xid b old b_is (subst (IsCallNumbered xid) (sym new) a_is) ∙ new)
      by_both i j xid a b a_is b_is (inr new) (inr also) = sym new ∙ also

no_reply : (place server xid other : ℕ) (to : NodeId) (reply : DsReplyValue) → IsCallNumbered other (Reply place server to xid reply) → ⊥
no_reply place server xid other to reply i = let is = i.is in absurd cc

no_server : (n server xid uid gid other : ℕ) (call : DsCallValue) → IsCallNumbered other (Call (Server n) server xid uid gid call) → ⊥
no_server n server xid uid gid other call i = let is = i.is in absurd cc

no_client : (n server xid uid gid other : ℕ) (call : DsCallValue) → IsCallNumbered other (Call (Client n) server xid uid gid call) → ⊥
no_client n server xid uid gid other call i = let is = i.is in absurd cc

its_number : (server xid uid gid other : ℕ) (call : DsCallValue) → IsCallNumbered other (Call Mds server xid uid gid call) → xid ≡ other
its_number server xid uid gid other call i = let is = i.is in cc (is)

-- ---- moves

abbrev Keeps : Machine → MachineStep → Type 0
Keeps m s = AreCallsOnce m → AreCallsOnce s.machine

-- a packet that is no call of the metadata server
other : (m : Machine) (p : PacketValue) → ((xid : ℕ) → IsCallNumbered xid p → ⊥) → AreCallsOnce m → CallsOnce (m.packets ++ p ∷ []) (m.last_xid Mds)
other m p none k = with_packet m.packets (m.last_xid Mds) (m.last_xid Mds) p k (omega arith) (λ xid its. absurd (none xid its)) (λ i xid a at a_is its. absurd (none xid its))

-- a new one of it
new_call : (m : Machine) (server xid uid gid : ℕ) (call : DsCallValue) → is_new_number m Mds xid ≡ true → AreCallsOnce m → CallsOnce (m.packets ++ Call Mds server xid uid gid call ∷ []) xid
new_call m server xid uid gid call new k =
    let more : m.last_xid Mds < xid = ltb-true (m.last_xid Mds) xid new in
    with_packet m.packets (m.last_xid Mds) xid (Call Mds server xid uid gid call) k (omega (arith, more)) (λ other its. (let same = its_number server xid uid gid other call its in omega (arith, same)))
    (λ i other a at a_is its. absurd (too_high i other a at a_is (its_number server xid uid gid other call its)))
  where
    too_high : (i other : ℕ) (a : PacketValue) → slice_get m.packets i ≡ Some a → IsCallNumbered other a → xid ≡ other → ⊥
    too_high i other a at a_is same =
        let few : other ≤ m.last_xid Mds = k.used i other a at a_is in
        let more : m.last_xid Mds < xid = ltb-true (m.last_xid Mds) xid new in
        omega (arith, few, more, same)

takes : (m : Machine) (n : ℕ) (input : FileInput) (f : Option MdsFile) → Keeps m (file_takes m n input f)
takes m n input None = λ k. k
takes m n input (Some f) =
    let s : FileStep = phase (file_id n) f input (fresh_of m) in
    cond_both (can_draw m s.uids s.names) _ (no_move m) (Keeps m) (λ e. λ k. k) (λ e. λ k. k)

answers : (m : Machine) (xid : ℕ) (reply : DsReplyValue) (place : Option ℕ) → Keeps m (answers_at m xid reply place)
answers m xid reply None = λ k. k
answers m xid reply (Some place) = takes m _ (Answers xid reply) (slice_get m.files place)

comes : (m : Machine) (server xid : ℕ) (reply : DsReplyValue) (to : NodeId) → Keeps m (comes_to m server xid reply to)
comes m server xid reply Mds = answers m xid reply (file_of m.files server xid)
comes m server xid reply (Server n) = λ k. k
comes m server xid reply (Client n) = λ k. k

arrives : (m : Machine) (place : ℕ) (from : NodeId) (n xid : ℕ) (caller : Caller) (call : DsCallValue) (s : Option ServerState) → Keeps m (arrives_at m place from n xid caller call s)
arrives m place from n xid caller call None = λ k. k
arrives m place from n xid caller call (Some s) =
    let step : DsStep = ds_step s caller call in
    λ k. other m (Reply place n from xid step.reply) (λ x its. no_reply place n xid x from step.reply its) k

delivers : (m : Machine) (place : ℕ) (p : Option PacketValue) → Keeps m (delivered m place p)
delivers m place None = λ k. k
delivers m place (Some (Call from server xid uid gid call)) = arrives m place from server xid (caller_by uid gid) call (numbered_at m.servers server)
delivers m place (Some (Reply call server to xid reply)) = comes m server xid reply to

heard_by : (m : Machine) (n server xid : ℕ) (reply : DsReplyValue) (to : NodeId) (f : Option MdsFile) → Keeps m (heard_at m n server xid reply to f)
heard_by m n server xid reply to None = λ k. k
heard_by m n server xid reply Mds (Some f) =
    cond_both (is_outstanding f server xid) (file_takes m n (Answers xid reply) (Some f)) (no_move m) (Keeps m) (λ e. takes m n (Answers xid reply) (Some f)) (λ e. λ k. k)
heard_by m n server xid reply (Server k) (Some f) = λ k. k
heard_by m n server xid reply (Client k) (Some f) = λ k. k

hears : (m : Machine) (n : ℕ) (p : Option PacketValue) → Keeps m (heard m n p)
hears m n None = λ k. k
hears m n (Some (Call from server xid uid gid call)) = λ k. k
hears m n (Some (Reply call server to xid reply)) = heard_by m n server xid reply to (numbered_at m.files n)

out : (m : Machine) (n xid : ℕ) (c : Option CallOut) → is_new_number m Mds xid ≡ true → Keeps m (goes_out m n xid c)
out m n xid None new = λ k. k
out m n xid (Some c) new = λ k. new_call m c.server xid c.uid c.uid c.call new k

calls_out : (m : Machine) (n xid : ℕ) (f : Option MdsFile) → Keeps m (call_out_from m n xid f)
calls_out m n xid None = λ k. k
calls_out m n xid (Some f) = cond_both (is_new_number m Mds xid) (goes_out m n xid (call_out f xid)) (no_move m) (Keeps m) (λ e. out m n xid (call_out f xid) e) (λ e. λ k. k)

again : (m : Machine) (place : ℕ) (p : Option PacketValue) → slice_get m.packets place ≡ p → Keeps m (sent_again m p)
again m place None at = λ k. k
again m place (Some p) at =
    λ k. with_packet m.packets (m.last_xid Mds) (m.last_xid Mds) p k (omega arith) (λ xid its. k.used place xid p at its) (λ i xid a a_at a_is its. k.once i place xid a p a_at at a_is its)

uses : (m : Machine) (node : NodeId) (server xid uid gid : ℕ) (call : DsCallValue) → Keeps m (used m node server xid uid gid call)
uses m Mds server xid uid gid call =
    cond_both (may_use call && may_number m Mds xid) _ (no_move m) (Keeps m) (λ e. λ k. new_call m server xid uid gid call (and_parts (may_use call) (may_number m Mds xid) e).1 k) (λ e. λ k. k)
uses m (Server n) server xid uid gid call =
    cond_both (may_use call && may_number m (Server n) xid) _ (no_move m) (Keeps m) (λ e. λ k. other m (Call (Server n) server xid uid gid call) (λ x its. no_server n server xid uid gid x call its) k) (λ e. λ k. k)
uses m (Client n) server xid uid gid call =
    cond_both (may_use call && may_number m (Client n) xid) _ (no_move m) (Keeps m) (λ e. λ k. other m (Call (Client n) server xid uid gid call) (λ x its. no_client n server xid uid gid x call its) k) (λ e. λ k. k)

tick : (m : Machine) (n : ℕ) (id : MirrorId) (f : Option MdsFile) (t : Option Tick) → Keeps m (learns_tick m n id f t)
tick m n id f None = λ k. k
tick m n id f (Some t) = takes m n (Sees id t) f

from : (m : Machine) (n : ℕ) (id : MirrorId) (f : Option MdsFile) (call server : ℕ) (to : NodeId) (reply : DsReplyValue) → Keeps m (learns_from m n id f call server to reply)
from m n id f call server Mds reply = cond_both (server == id.server && was_write_to id.fileid (slice_get m.packets call)) (learns_tick m n id f (ctime_in reply)) (no_move m) (Keeps m) (λ e. tick m n id f (ctime_in reply)) (λ e. λ k. k)
from m n id f call server (Server k) reply = λ k. k
from m n id f call server (Client k) reply = λ k. k

learns : (m : Machine) (n : ℕ) (id : MirrorId) (f : Option MdsFile) (p : Option PacketValue) → Keeps m (learnt m n id f p)
learns m n id f None = λ k. k
learns m n id f (Some (Call a b c d e g)) = λ k. k
learns m n id f (Some (Reply call server to xid reply)) = from m n id f call server to reply

started : (m : Machine) (n : ℕ) (pieces : List Piece) (s : Option ServerState) → Keeps m (started_again m n pieces s)
started m n pieces None = λ k. k
started m n pieces (Some s) = λ k. k

restarts : (m : Machine) (n : ℕ) (pieces : List Piece) (s : Option ServerState) → Keeps m (restarts_at m n pieces s)
restarts m n pieces None = λ k. k
restarts m n pieces (Some s) = started m n pieces (restart_of s pieces)

move_once : (m : Machine) (move : Move) → Keeps m (moved m move)
move_once m (Deliver place) = delivers m place (slice_get m.packets place)
move_once m (Creates at_servers) = cond_both (may_create m at_servers) _ (no_move m) (Keeps m) (λ e. λ k. k) (λ e. λ k. k)
move_once m (Happens n input) = cond_both (comes_by_itself input) (file_takes m n input (numbered_at m.files n)) (no_move m) (Keeps m) (λ e. takes m n input (numbered_at m.files n)) (λ e. λ k. k)
move_once m (CallsOut n xid) = calls_out m n xid (numbered_at m.files n)
move_once m (SendsAgain place) = again m place (slice_get m.packets place) refl
move_once m (GivesUpWaiting n xid) = takes m n (TimesOut xid) (numbered_at m.files n)
move_once m (Hears n place) = hears m n (slice_get m.packets place)
move_once m (Uses node server xid uid gid call) = uses m node server xid uid gid call
move_once m (Learns n place id) = learns m n id (numbered_at m.files n) (slice_get m.packets place)
move_once m (Takes file uid at bytes) = λ k. k
move_once m (Strays file uid at bytes) = λ k. k
move_once m (Tells file uid at bytes) = λ k. k
move_once m (Restarts n pieces) = restarts m n pieces (numbered_at m.servers n)

pub moves_once : (m : Machine) (moves : List Move) → AreCallsOnce m → AreCallsOnce (machine_after m moves)
moves_once m [] k = k
moves_once m (move ∷ moves) k = moves_once (moved m move).machine moves (move_once m move k)

abbrev no_packets : List PacketValue
no_packets = []

none_there : (place : ℕ) (packet : PacketValue) → slice_get no_packets place ≡ Some packet → ⊥
none_there place packet at = cc

pub new_once : (servers : List ServerState) → AreCallsOnce (new_machine servers)
new_once servers = record { used = λ place xid packet at its. absurd (none_there place packet at); once = λ i j xid a b i_at j_at a_is b_is. absurd (none_there i a i_at) }
