-- Each kind of move keeps what holds.
use Rattle.std.proofs.Common.{◌≡◌, ℕ, ◌+◌, ◌-◌, ◌<◌, Bool, true, eqb, ltb, cond, List, [], ◌∷◌, ◌++◌, set, Option, Some, None, refl, sym, ap, subst, ◌∙◌, arith, append-nil}
use Rattle.std.specs.Prelude.{slice_get, ◌&&◌}
use Rattle.std.proofs.lemmas.Bool.{cond_both, and_parts, ltb-true, eqb-true, ne_eqb}
use Rattle.std.proofs.lemmas.Option.{same_Some}
use Rattle.cluster_model.specs.declared.tick.Tick.{Tick}
use Rattle.cluster_model.specs.declared.piece.Piece.{Piece}
use Rattle.cluster_model.specs.declared.ids.NodeId.{NodeId}
use Rattle.cluster_model.specs.declared.ids.NodeId.TheVariants.{Mds, Server, Client}
use Rattle.cluster_model.specs.declared.ids.MirrorId.{MirrorId}
use Rattle.cluster_model.specs.declared.entry.Entry.{Entry}
use Rattle.cluster_model.specs.declared.entry.Entry.TheVariants as entry
use Rattle.cluster_model.specs.declared.ds_call.Shown.{Shown}
use Rattle.cluster_model.specs.Server.{ServerState, Caller, restart_of}
use Rattle.cluster_model.specs.DsCalls.{DsCallValue, DsReplyValue, Created, Set, Written, Committed, Bytes, NotSync, Failed, ds_step}
use Rattle.cluster_model.specs.GuardLaws.{IsInOrder, CallLaws, RestartLaws}
use Rattle.file_rule.specs.MdsFiles.{MdsFile, a_uid}
use Rattle.file_rule.specs.FilePhases.{FileInput, Answers, TimesOut, Sees, CallOut, call_out, is_outstanding}
use Rattle.cluster_laws.specs.Machine.{PacketValue, Call, Reply, Machine, MachineStep, Move, Deliver, Creates, Happens, CallsOut, SendsAgain, GivesUpWaiting, Hears, Uses, Learns, Takes, Strays, Tells, Restarts, no_move, numbered_at, with_number, file_takes, caller_by, arrives_at, file_of, answers_at, comes_to, delivered, comes_by_itself, goes_out, call_out_from, heard_at, heard, ctime_of, ctime_in, learns_tick, was_write_to, learns_from, learnt, started_again, restarts_at, moved}
use Rattle.cluster_laws.proofs.Facts.{HasGiven}
use Rattle.cluster_laws.proofs.Lists.{all_append, all_more, all_at, found_at}
use Rattle.cluster_laws.proofs.Invariant.{Drawn, Net, IsGiven, IsReplyTo, IsAnswer, IsPacket, IsFile, net_of, Holds}
use Rattle.cluster_laws.proofs.Onward.{packet_on}
use Rattle.cluster_laws.proofs.Served.{served_holds}
use Rattle.cluster_laws.proofs.Restarted.{restarted_holds}
use Rattle.cluster_laws.proofs.Moved.{moved_holds}
use Rattle.cluster_laws.proofs.PhaseOk.{IsInput}
use Rattle.cluster_laws.proofs.CallsOut.{sent_net, mds_call, later_sent, call_out_ok}
use Rattle.cluster_laws.proofs.Bounded.{bounded_now}
use Rattle.cluster_laws.proofs.KnownNow.{all_stand}
use Rattle.cluster_laws.proofs.Stepped.{HoldsAfter, no_step, takes_ok}
use Rattle.cluster_laws.proofs.SentPackets.{IsQuiet, again_ok, uses_ok, noted_ok}
use Rattle.cluster_laws.proofs.NewFiles.{creates_ok}

-- the number of a place
pub next_number : {A : Type 0} (all : List A) (i : ℕ) → numbered_at all (i + 1) ≡ slice_get all i
next_number all i =
    let back : i + 1 - 1 ≡ i = omega arith in
    ap (λ (b : Bool). cond b None (slice_get all (i + 1 - 1))) (ne_eqb (i + 1) 0 (λ z. absurd (omega (arith, z)))) ∙ ap (slice_get all) back

-- ---- the ctime that a reply shows was given

shown_if : (servers : List ServerState) (n : ℕ) (shown : Option Shown) (tick : Tick) → IsGiven servers n shown → ctime_of shown ≡ Some tick → HasGiven servers n tick
shown_if servers n None tick given is = absurd cc
shown_if servers n (Some shown) tick given is = subst (λ (t : Tick). HasGiven servers n t) (same_Some shown.seen tick is) given

shown_given : (servers : List ServerState) (n : ℕ) (call : DsCallValue) (reply : DsReplyValue) (tick : Tick) → IsReplyTo servers n call reply → ctime_in reply ≡ Some tick → HasGiven servers n tick
shown_given servers n call (Created fileid shown) tick shows is = subst (λ (t : Tick). HasGiven servers n t) (same_Some shown.seen tick is) shows.given
shown_given servers n call (Set shown) tick shows is = shown_if servers n shown tick shows.1 is
shown_given servers n call (Written shown verifier) tick shows is = shown_if servers n shown tick shows is
shown_given servers n call (Committed shown verifier) tick shows is = shown_if servers n shown tick shows is
shown_given servers n call (Bytes shown eof bytes) tick shows is = absurd cc
shown_given servers n call (NotSync shown) tick shows is = subst (λ (t : Tick). HasGiven servers n t) (same_Some shown.seen tick is) shows.1
shown_given servers n call (Failed status shown) tick shows is = shown_if servers n shown tick shows is

module _ (m : Machine) (journal : List Entry) (d : Drawn) (h : Holds m journal d) where
  abbrev net : Net
  net = net_of m d

  abbrev Ok : MachineStep → Type 0
  Ok x = HoldsAfter m journal d h x

  none : Ok (no_move m)
  none = no_step m journal d h

  -- ---- inputs of the table of phases

  pub brought : (input : FileInput) → comes_by_itself input ≡ true → (f : MdsFile) → IsInput net f input
  brought (Answers xid reply) e f = absurd cc
  brought (Sees id seen) e f = absurd cc
  brought _ e f = tt

  happens_ok : (n : ℕ) (input : FileInput) → Ok (moved m (Happens n input))
  happens_ok n input =
      cond_both (comes_by_itself input) (file_takes m n input (numbered_at m.files n)) (no_move m) Ok
      (λ e. takes_ok m journal d h n input (λ f there. brought input e f) (numbered_at m.files n) refl) (λ e. none)

  -- the file whose call an answer answers
  pub answers_input : (server xid : ℕ) (reply : DsReplyValue) → IsAnswer m.packets m.servers server Mds xid reply → (place : ℕ) → file_of m.files server xid ≡ Some place → (f : MdsFile) → numbered_at m.files (place + 1) ≡ Some f → IsInput net f (Answers xid reply)
  answers_input server xid reply answer place is f there =
      let found = found_at (λ (x : MdsFile). is_outstanding x server xid) m.files place is in
      record { server = server; outstanding = ap (λ (x : MdsFile). is_outstanding x server xid) (same_Some f found.0 (sym there ∙ next_number m.files place ∙ found.1)) ∙ found.2; answer = answer }

  answers_ok : (server xid : ℕ) (reply : DsReplyValue) → IsAnswer m.packets m.servers server Mds xid reply → (place : Option ℕ) → file_of m.files server xid ≡ place → Ok (answers_at m xid reply place)
  answers_ok server xid reply answer None is = none
  answers_ok server xid reply answer (Some place) is = takes_ok m journal d h (place + 1) (Answers xid reply) (answers_input server xid reply answer place is) (slice_get m.files place) (next_number m.files place)

  -- it is taken by a file whose call is outstanding
  pub heard_input : (server xid : ℕ) (reply : DsReplyValue) → IsAnswer m.packets m.servers server Mds xid reply → (f : MdsFile) → is_outstanding f server xid ≡ true → IsInput net f (Answers xid reply)
  heard_input server xid reply answer f out = record { server = server; outstanding = out; answer = answer }

  heard_file_ok : (n server xid : ℕ) (reply : DsReplyValue) (to : NodeId) → IsAnswer m.packets m.servers server to xid reply → (f : Option MdsFile) → numbered_at m.files n ≡ f → Ok (heard_at m n server xid reply to f)
  heard_file_ok n server xid reply to answer None there = none
  heard_file_ok n server xid reply Mds answer (Some f) there =
      cond_both (is_outstanding f server xid) (file_takes m n (Answers xid reply) (Some f)) (no_move m) Ok
      (λ out. takes_ok m journal d h n (Answers xid reply) (λ g is. heard_input server xid reply answer g (subst (λ (x : MdsFile). is_outstanding x server xid ≡ true) (same_Some f g (sym there ∙ is)) out)) (Some f) there) (λ off. none)
  heard_file_ok n server xid reply (Server k) answer (Some f) there = none
  heard_file_ok n server xid reply (Client k) answer (Some f) there = none

  heard_ok : (n place : ℕ) (p : Option PacketValue) → slice_get m.packets place ≡ p → Ok (heard m n p)
  heard_ok n place None there = none
  heard_ok n place (Some (Call from server xid uid gid call)) there = none
  heard_ok n place (Some (Reply call server to xid reply)) there =
      heard_file_ok n server xid reply to (all_at (IsPacket net) m.packets place (Reply call server to xid reply) h.packets there).answer (numbered_at m.files n) refl

  comes_ok : (server xid : ℕ) (reply : DsReplyValue) (to : NodeId) → IsAnswer m.packets m.servers server to xid reply → Ok (comes_to m server xid reply to)
  comes_ok server xid reply Mds answer = answers_ok server xid reply answer (file_of m.files server xid) refl
  comes_ok server xid reply (Server k) answer = none
  comes_ok server xid reply (Client k) answer = none

  -- ---- a ctime is learnt

  pub tick_input : (id : MirrorId) (server xid : ℕ) (reply : DsReplyValue) → IsAnswer m.packets m.servers server Mds xid reply → eqb server id.server ≡ true → (t : Tick) → ctime_in reply ≡ Some t → HasGiven m.servers id.server t
  tick_input id server xid reply answer e t is = subst (λ (k : ℕ). HasGiven m.servers k t) (eqb-true server id.server e) (shown_given m.servers server answer.call reply t answer.shows is)

  tick_ok : (n : ℕ) (id : MirrorId) (tick : Option Tick) → ((t : Tick) → tick ≡ Some t → HasGiven m.servers id.server t) → Ok (learns_tick m n id (numbered_at m.files n) tick)
  tick_ok n id None given = none
  tick_ok n id (Some tick) given = takes_ok m journal d h n (Sees id tick) (λ f there. given tick refl) (numbered_at m.files n) refl

  learns_ok : (n : ℕ) (id : MirrorId) (place server : ℕ) (to : NodeId) (xid : ℕ) (reply : DsReplyValue) → IsAnswer m.packets m.servers server to xid reply → Ok (learns_from m n id (numbered_at m.files n) place server to reply)
  learns_ok n id place server Mds xid reply answer =
      cond_both (eqb server id.server && was_write_to id.fileid (slice_get m.packets place)) (learns_tick m n id (numbered_at m.files n) (ctime_in reply)) (no_move m) Ok
      (λ e. tick_ok n id (ctime_in reply) (tick_input id server xid reply answer (and_parts _ _ e).0)) (λ e. none)
  learns_ok n id place server (Server k) xid reply answer = none
  learns_ok n id place server (Client k) xid reply answer = none

  learnt_ok : (n place : ℕ) (id : MirrorId) (p : Option PacketValue) → slice_get m.packets place ≡ p → Ok (learnt m n id (numbered_at m.files n) p)
  learnt_ok n place id None there = none
  learnt_ok n place id (Some (Call from server xid uid gid call)) there = none
  learnt_ok n place id (Some (Reply call server to xid reply)) there = learns_ok n id call server to xid reply (all_at (IsPacket net) m.packets place (Reply call server to xid reply) h.packets there).answer

  -- ---- a call goes out

  out_ok : (n xid : ℕ) (f : MdsFile) → numbered_at m.files n ≡ Some f → m.last_xid Mds < xid → (c : Option CallOut) → call_out f xid ≡ c → Ok (goes_out m n xid c)
  out_ok n xid f there new None is = none
  out_ok n xid f there new (Some c) is =
      let same = all_stand m journal d h in
      let later = later_sent net c.server xid c.uid c.uid c.call same new in
      let after : Net = sent_net net xid (mds_call xid c) in
      let ok = call_out_ok net n xid journal same h.packets new (bounded_now m journal d h) f c (h.files n f there) is in (
        d,
        moved_holds m journal d h (set m.files (n - 1) c.file) m.next_uid m.next_name (with_number m.last_xid Mds xid) (m.packets ++ mds_call xid c ∷ []) m.holdings d h.few_names later [] tt
            n f c.file there refl tt tt (subst (λ (j : List Entry). IsFile after j n c.file) (sym (append-nil journal)) ok.1)
            (all_append (IsPacket after) m.packets (mds_call xid c ∷ []) (all_more (IsPacket net) (IsPacket after) m.packets (packet_on net after later) h.packets) ((omega arith, ok.0), tt))
            (λ k other. refl) h.tops h.lows (omega arith),
      )

  calls_out_ok : (n xid : ℕ) (f : Option MdsFile) → numbered_at m.files n ≡ f → Ok (call_out_from m n xid f)
  calls_out_ok n xid None there = none
  calls_out_ok n xid (Some f) there =
      cond_both (ltb (m.last_xid Mds) xid) (goes_out m n xid (call_out f xid)) (no_move m) Ok (λ e. out_ok n xid f there (ltb-true (m.last_xid Mds) xid e) (call_out f xid) refl) (λ e. none)

  -- ---- data servers

  module _ (calls : (s : ServerState) (caller : Caller) (call : DsCallValue) → IsInOrder s → CallLaws s caller call (ds_step s caller call).server (ds_step s caller call).reply (ds_step s caller call).entries) where
    arrives_ok : (place : ℕ) (from : NodeId) (n xid uid gid : ℕ) (call : DsCallValue) → slice_get m.packets place ≡ Some (Call from n xid uid gid call) → (s : Option ServerState) → numbered_at m.servers n ≡ s → Ok (arrives_at m place from n xid (caller_by uid gid) call s)
    arrives_ok place from n xid uid gid call sent None there = none
    arrives_ok place from n xid uid gid call sent (Some s) there = (d, served_holds calls m journal d h n s there from xid uid gid call (record { place = place; uid = uid; gid = gid; there = sent }))

    delivered_ok : (place : ℕ) (p : Option PacketValue) → slice_get m.packets place ≡ p → Ok (delivered m place p)
    delivered_ok place None there = none
    delivered_ok place (Some (Call from server xid uid gid call)) there = arrives_ok place from server xid uid gid call there (numbered_at m.servers server) refl
    delivered_ok place (Some (Reply call server to xid reply)) there = comes_ok server xid reply to (all_at (IsPacket net) m.packets place (Reply call server to xid reply) h.packets there).answer

  module _ (restarts : (s : ServerState) (pieces : List Piece) (new : ServerState) → restart_of s pieces ≡ Some new → IsInOrder s → RestartLaws s pieces new) where
    started_ok : (n : ℕ) (pieces : List Piece) (s : ServerState) → numbered_at m.servers n ≡ Some s → (new : Option ServerState) → restart_of s pieces ≡ new → Ok (started_again m n pieces new)
    started_ok n pieces s there None is = none
    started_ok n pieces s there (Some new) is = (d, restarted_holds restarts m journal d h n s there pieces new is)

    restarts_ok : (n : ℕ) (pieces : List Piece) (s : Option ServerState) → numbered_at m.servers n ≡ s → Ok (restarts_at m n pieces s)
    restarts_ok n pieces None there = none
    restarts_ok n pieces (Some s) there = started_ok n pieces s there (restart_of s pieces) refl

  -- ---- entries of holders

  sent_quiet : (file : _) (uid at : ℕ) (bytes : List ℕ) → IsQuiet m journal d h (entry.Sent file (a_uid uid) at bytes)
  sent_quiet file uid at bytes = record { copies = λ id c. refl; live = λ f x. refl; fence = refl; freed = refl; right = tt }

  rogue_quiet : (file : _) (uid at : ℕ) (bytes : List ℕ) → IsQuiet m journal d h (entry.Rogue file (a_uid uid) at bytes)
  rogue_quiet file uid at bytes = record { copies = λ id c. refl; live = λ f x. refl; fence = refl; freed = refl; right = tt }

  told_quiet : (file : _) (uid at : ℕ) (bytes : List ℕ) → IsQuiet m journal d h (entry.Told file (a_uid uid) at bytes)
  told_quiet file uid at bytes = record { copies = λ id c. refl; live = λ f x. refl; fence = refl; freed = refl; right = tt }

-- ---- every move

module _ (calls : (s : ServerState) (caller : Caller) (call : DsCallValue) → IsInOrder s → CallLaws s caller call (ds_step s caller call).server (ds_step s caller call).reply (ds_step s caller call).entries)
    (restarts : (s : ServerState) (pieces : List Piece) (new : ServerState) → restart_of s pieces ≡ Some new → IsInOrder s → RestartLaws s pieces new) where
  pub move_ok : (m : Machine) (journal : List Entry) (d : Drawn) (h : Holds m journal d) (move : Move) → HoldsAfter m journal d h (moved m move)
  move_ok m journal d h (Deliver place) = delivered_ok m journal d h calls place (slice_get m.packets place) refl
  move_ok m journal d h (Creates at_servers) = creates_ok m journal d h at_servers
  move_ok m journal d h (Happens n input) = happens_ok m journal d h n input
  move_ok m journal d h (CallsOut n xid) = calls_out_ok m journal d h n xid (numbered_at m.files n) refl
  move_ok m journal d h (SendsAgain place) = again_ok m journal d h place (slice_get m.packets place) refl
  move_ok m journal d h (GivesUpWaiting n xid) = takes_ok m journal d h n (TimesOut xid) (λ f there. tt) (numbered_at m.files n) refl
  move_ok m journal d h (Hears n place) = heard_ok m journal d h n place (slice_get m.packets place) refl
  move_ok m journal d h (Uses node server xid uid gid call) = uses_ok m journal d h node server xid uid gid call
  move_ok m journal d h (Learns n place id) = learnt_ok m journal d h n place id (slice_get m.packets place) refl
  move_ok m journal d h (Takes file uid at bytes) = noted_ok m journal d h (entry.Sent file (a_uid uid) at bytes) (sent_quiet m journal d h file uid at bytes)
  move_ok m journal d h (Strays file uid at bytes) = noted_ok m journal d h (entry.Rogue file (a_uid uid) at bytes) (rogue_quiet m journal d h file uid at bytes)
  move_ok m journal d h (Tells file uid at bytes) = noted_ok m journal d h (entry.Told file (a_uid uid) at bytes) (told_quiet m journal d h file uid at bytes)
  move_ok m journal d h (Restarts n pieces) = restarts_ok m journal d h restarts n pieces (numbered_at m.servers n) refl
