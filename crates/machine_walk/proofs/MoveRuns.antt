-- A predicate of moments that each kind of move keeps holds behind every bound run, and so do its entries.
use Rattle.std.proofs.Common.{◌≡◌, ◌≢◌, ℕ, ◌+◌, ◌-◌, ◌<◌, ◌≤◌, true, eqb, ltb, ◌&&◌, not, List, [], ◌∷◌, ◌++◌, length, set, Option, Some, None, refl, sym, subst, ◌∙◌, arith, append_assoc, append-nil}
use Rattle.std.specs.Prelude.{slice_get}
use Rattle.std.specs.List.{AllByRecursion}
use Rattle.std.proofs.lemmas.Bool.{cond_both, and_parts, ltb-true}
use Rattle.std.proofs.lemmas.Option.{same_Some}
use Rattle.cluster_model.specs.declared.tick.Tick.{Tick}
use Rattle.cluster_model.specs.declared.piece.Piece.{Piece}
use Rattle.cluster_model.specs.declared.ids.NodeId.{NodeId}
use Rattle.cluster_model.specs.declared.ids.NodeId.TheVariants.{Mds, Server, Client}
use Rattle.cluster_model.specs.declared.ids.MirrorId.{MirrorId}
use Rattle.cluster_model.specs.declared.entry.Entry.{Entry}
use Rattle.cluster_model.specs.declared.entry.Entry.TheVariants as entry
use Rattle.cluster_model.specs.Journal.{Copy, copy_after}
use Rattle.cluster_model.specs.Server.{ServerState, Caller, restart_of}
use Rattle.cluster_model.specs.DsCalls.{DsCallValue, DsReplyValue, ds_step}
use Rattle.cluster_model.specs.GuardLaws.{IsInOrder, CallLaws, RestartLaws}
use Rattle.cluster_model.specs.Phases.{ids_of}
use Rattle.file_rule.specs.MdsFiles.{MdsFile, FileStep, a_uid}
use Rattle.file_rule.specs.FilePhases.{FileInput, Answers, TimesOut, Sees, CallOut, call_out, is_outstanding, phase, are_spent}
use Rattle.cluster_laws.specs.Machine.{PacketValue, Call, Reply, Machine, MachineStep, Holding, Move, Deliver, Creates, Happens, CallsOut, SendsAgain, GivesUpWaiting, Hears, Uses, Learns, Takes, Strays, Tells, Restarts, no_move, numbered_at, with_number, with_packets, puts_out, held_by, file_id, fresh_of, can_draw, file_takes, caller_by, arrives_at, file_of, answers_at, comes_to, delivered, comes_by_itself, are_servers, may_create, created, goes_out, call_out_from, sent_again, used, may_use, may_number, heard_at, heard, ctime_in, learns_tick, was_write_to, learnt, noted, started_again, restarts_at, moved, machine_after, journal_of}
use Rattle.cluster_laws.specs.Holders.{IsBoundCall, IsBoundInput, IsBound, AreBoundFrom}
use Rattle.cluster_laws.proofs.Lists.{all_append, all_more, all_at}
use Rattle.cluster_laws.proofs.Invariant.{Drawn, Net, IsAnswer, IsThisCall, IsCallOf, IsPacket, IsFile, AreRight, net_of, Holds}
use Rattle.cluster_laws.proofs.Facts.{HasGiven}
use Rattle.cluster_laws.proofs.Onward.{packet_on}
use Rattle.cluster_laws.proofs.Served.{served_holds}
use Rattle.cluster_laws.proofs.Restarted.{restarted_holds}
use Rattle.cluster_laws.specs.FenceLaw.{live_after}
use Rattle.cluster_laws.proofs.Moved.{IsNote, moved_holds}
use Rattle.cluster_laws.proofs.PhaseOk.{IsInput, phase_ok}
use Rattle.cluster_laws.proofs.CopySteps.{StepOk, Plain, Draws}
use Rattle.cluster_laws.proofs.CallsOut.{sent_net, mds_call, later_sent, call_out_ok}
use Rattle.cluster_laws.proofs.Bounded.{bounded_now}
use Rattle.cluster_laws.proofs.KnownNow.{all_stand, known_now}
use Rattle.cluster_laws.proofs.Stepped.{note_copies, plain_holds, drawn_holds, few_by, none_more, one_more}
use Rattle.cluster_laws.proofs.SentPackets.{IsQuiet, with_packet, later_with, sent_holds, free_call, noted_holds}
use Rattle.cluster_laws.proofs.NewFiles.{created_holds}
use Rattle.cluster_laws.proofs.Moves.{brought, answers_input, heard_input, tick_input, next_number}
use Rattle.cluster_laws.proofs.PeriodMoves.{move_periods}
use Rattle.cluster_laws.proofs.PeriodFacts.{AreInPlace}
use Rattle.cluster_laws.proofs.PeriodStates.{PeriodOk, Plain as PlainPeriod, Draws as DrawsPeriod}
use Rattle.cluster_laws.proofs.PeriodPhases.{phase_row}
use Rattle.machine_walk.proofs.Stories.{reached_on, Story, begun_copy, drawn_story, IsOnward, onward_same, onward_drawn, onward_then, AreEach, each_more, each_weaker, IsMoment, Done}
use Rattle.machine_walk.proofs.MoveCases.{Drew, DrewNone, DrewOne, after_step, after_call, created_machine, HasReply, IsHeard, Cases}

-- the entries of a file say nothing of the live list of another
note_others : (n next_uid : ℕ) (entries : List Entry) → AllByRecursion (IsNote n next_uid) entries → AllByRecursion (λ e. (k : ℕ) → k ≢ n → (x : Option (List MirrorId)) → live_after (file_id k) x e ≡ x) entries
note_others n next_uid entries h = all_more (IsNote n next_uid) (λ e. (k : ℕ) → k ≢ n → (x : Option (List MirrorId)) → live_after (file_id k) x e ≡ x) entries (λ e k. k.others) h

module _ (P : Story → Machine → List Entry → Type 0) (Q : Story → ℕ → List Entry → Entry → Type 0) (cases : Cases P Q)
    (calls : (s : ServerState) (caller : Caller) (call : DsCallValue) → IsInOrder s → CallLaws s caller call (ds_step s caller call).server (ds_step s caller call).reply (ds_step s caller call).entries)
    (restarts : (s : ServerState) (pieces : List Piece) (new : ServerState) → restart_of s pieces ≡ Some new → IsInOrder s → RestartLaws s pieces new) where
  module _ (t : Story) (m : Machine) (journal : List Entry) (at : IsMoment t m journal) (p : P t m journal) where
    abbrev Ok : MachineStep → Type 0
    Ok x = Done P Q t m journal x

    abbrev net : Net
    net = net_of m t.drawn

    -- with no entry
    quietly : (n : Machine) → Holds n (journal ++ []) t.drawn → m.next_uid ≤ n.next_uid → m.next_name ≤ n.next_name → P t n journal → Ok (record { machine = n; entries = [] })
    quietly n h uids names k = record { then = t; holds = h; on = onward_same t m.next_uid m.next_name; uids = uids; names = names; kept = subst (λ (j : List Entry). P t n j) (sym (append-nil journal)) k; each = tt }

    none : Ok (no_move m)
    none = quietly m (subst (λ (j : List Entry). Holds m j t.drawn) (sym (append-nil journal)) at.holds) (omega arith) (omega arith) p

    shorter : (n : Machine) (e : Drawn) → Holds n (journal ++ []) e → Holds n journal e
    shorter n e h = subst (λ (j : List Entry). Holds n j e) (append-nil journal) h

    -- ---- a file takes a step

    module _ (n : ℕ) (f : MdsFile) (there : numbered_at m.files n ≡ Some f) (input : FileInput) (brings : IsInput (net_of m t.drawn) f input) (bound : IsBoundInput m.packets journal input (Some f)) (heard : IsHeard m.packets input) where
      abbrev s : FileStep
      s = phase (file_id n) f input (fresh_of m)

      place_by : PeriodOk at.fenced m.next_uid journal n s → AreInPlace journal s.entries
      place_by (PlainPeriod uids row) = row.place
      place_by (DrawsPeriod uids row) = row.place

      its_place : AreInPlace journal s.entries
      its_place = place_by (phase_row net at.fenced n m.next_uid (length m.files) (length m.servers) journal (known_now m journal t.drawn at.holds) at.periods.below f (at.holds.files n f there) (at.periods.files n f there) input brings)

      stepped : (then : Story) → Drew t m journal n s then → AreRight journal s.entries → AllByRecursion (λ e. (id : MirrorId) (c : Copy) → copy_after id c e ≡ c) s.entries → AllByRecursion (λ e. (k : ℕ) → k ≢ n → (x : Option (List MirrorId)) → live_after (file_id k) x e ≡ x) s.entries → IsOnward t m.next_uid m.next_name then → Holds (after_step m n s) (journal ++ s.entries) then.drawn → Ok (record { machine = after_step m n s; entries = s.entries })
      stepped then drew right copies others on h =
          let done = cases.steps t m journal at p n f input then (record { there = there; brought = brings; bound = bound; drew = drew; heard = heard; right = right; place = its_place; copies = copies; others = others; holds = h }) in
          record { then = then; holds = h; on = on; uids = omega arith; names = omega arith; kept = done.0; each = done.1 }

      abbrev held : List Holding
      held = m.holdings ++ held_by (ids_of s.file.layout.live) s.entries

      abbrev shaped : ℕ → ℕ → Machine
      shaped uid name = record { servers = m.servers; files = set m.files (n - 1) s.file; next_uid = uid; next_name = name; last_xid = m.last_xid; packets = m.packets; holdings = held }

      turned : m.next_name + s.names ≤ 18446744073709551616 → StepOk net journal n m.next_uid s → Ok (record { machine = after_step m n s; entries = s.entries })
      turned few (Plain uids names row) =
          stepped t (DrewNone uids names) row.right (note_copies n m.next_uid s.entries row.notes) (note_others n m.next_uid s.entries row.notes) (onward_same t m.next_uid m.next_name)
          (subst (λ (uid : ℕ). Holds (shaped uid (m.next_name + s.names)) (journal ++ s.entries) t.drawn) (none_more m journal t.drawn at.holds m.next_uid s.uids uids)
          (subst (λ (name : ℕ). Holds (shaped m.next_uid name) (journal ++ s.entries) t.drawn) (none_more m journal t.drawn at.holds m.next_name s.names names)
          (plain_holds m journal t.drawn at.holds n f there s.file s.entries held row)))
      turned few (Draws uids row) =
          stepped (drawn_story t m.next_name n m.next_uid (begun_copy journal n s.file.activity)) (DrewOne uids) row.right (note_copies n (m.next_uid + 1) s.entries row.notes) (note_others n (m.next_uid + 1) s.entries row.notes) (onward_drawn t m.next_uid m.next_name n (begun_copy journal n s.file.activity))
          (subst (λ (uid : ℕ). Holds (shaped uid (m.next_name + s.names)) (journal ++ s.entries) (drawn_story t m.next_name n m.next_uid (begun_copy journal n s.file.activity)).drawn) (one_more m journal t.drawn at.holds m.next_uid s.uids uids)
          (drawn_holds m journal t.drawn at.holds n f there s.file s.entries held s.names few row))

      its_step : Ok (file_takes m n input (Some f))
      its_step =
          cond_both (can_draw m s.uids s.names) (record { machine = after_step m n s; entries = s.entries }) (no_move m) Ok
          (λ e. turned (few_by m journal t.drawn at.holds s.uids s.names e) (phase_ok net n m.next_uid (length m.files) (length m.servers) journal (known_now m journal t.drawn at.holds) f (at.holds.files n f there) input brings))
          (λ e. none)

    takes : (n : ℕ) (input : FileInput) → ((f : MdsFile) → numbered_at m.files n ≡ Some f → IsInput net f input) → ((f : MdsFile) → numbered_at m.files n ≡ Some f → IsBoundInput m.packets journal input (Some f)) → IsHeard m.packets input
        → (f : Option MdsFile) → numbered_at m.files n ≡ f → Ok (file_takes m n input f)
    takes n input given bound heard None there = none
    takes n input given bound heard (Some f) there = its_step n f there input (given f there) (bound f there) heard

    -- ---- answers

    answers : (server xid : ℕ) (reply : DsReplyValue) → HasReply m.packets xid reply → IsAnswer m.packets m.servers server Mds xid reply → (place : Option ℕ) → file_of m.files server xid ≡ place → Ok (answers_at m xid reply place)
    answers server xid reply heard answer None is = none
    answers server xid reply heard answer (Some place) is = takes (place + 1) (Answers xid reply) (answers_input m journal t.drawn at.holds server xid reply answer place is) (λ f k. tt) heard (slice_get m.files place) (next_number m.files place)

    hears_at : (k place call server xid : ℕ) (reply : DsReplyValue) (to : NodeId) → slice_get m.packets place ≡ Some (Reply call server to xid reply) → IsAnswer m.packets m.servers server to xid reply → (f : Option MdsFile) → numbered_at m.files k ≡ f → Ok (heard_at m k server xid reply to f)
    hears_at k place call server xid reply to sent answer None there = none
    hears_at k place call server xid reply Mds sent answer (Some f) there =
        cond_both (is_outstanding f server xid) (file_takes m k (Answers xid reply) (Some f)) (no_move m) Ok
        (λ out. takes k (Answers xid reply) (λ g is. heard_input m journal t.drawn at.holds server xid reply answer g (subst (λ (x : MdsFile). is_outstanding x server xid ≡ true) (same_Some f g (sym there ∙ is)) out)) (λ g is. tt) (record { place = place; call = call; server = server; there = sent }) (Some f) there) (λ off. none)
    hears_at k place call server xid reply (Server n) sent answer (Some f) there = none
    hears_at k place call server xid reply (Client n) sent answer (Some f) there = none

    answer_at : (place call server : ℕ) (to : NodeId) (xid : ℕ) (reply : DsReplyValue) → slice_get m.packets place ≡ Some (Reply call server to xid reply) → IsAnswer m.packets m.servers server to xid reply
    answer_at place call server to xid reply there = (all_at (IsPacket net) m.packets place (Reply call server to xid reply) at.holds.packets there).answer

    hears : (k place : ℕ) (x : Option PacketValue) → slice_get m.packets place ≡ x → Ok (heard m k x)
    hears k place None there = none
    hears k place (Some (Call from server xid uid gid call)) there = none
    hears k place (Some (Reply call server to xid reply)) there = hears_at k place call server xid reply to there (answer_at place call server to xid reply there) (numbered_at m.files k) refl

    comes : (place call server xid : ℕ) (reply : DsReplyValue) (to : NodeId) → slice_get m.packets place ≡ Some (Reply call server to xid reply) → IsAnswer m.packets m.servers server to xid reply → Ok (comes_to m server xid reply to)
    comes place call server xid reply Mds sent answer = answers server xid reply (record { place = place; call = call; server = server; there = sent }) answer (file_of m.files server xid) refl
    comes place call server xid reply (Server k) sent answer = none
    comes place call server xid reply (Client k) sent answer = none

    -- ---- data servers

    arrives : (place : ℕ) (from : NodeId) (n xid uid gid : ℕ) (call : DsCallValue) → slice_get m.packets place ≡ Some (Call from n xid uid gid call) → (s : Option ServerState) → numbered_at m.servers n ≡ s → Ok (arrives_at m place from n xid (caller_by uid gid) call s)
    arrives place from n xid uid gid call sent None there = none
    arrives place from n xid uid gid call sent (Some s) there =
        let h = served_holds calls m journal t.drawn at.holds n s there from xid uid gid call (record { place = place; uid = uid; gid = gid; there = sent }) in
        let done = cases.serves t m journal at p place from n xid uid gid call s sent there h in
        record { then = t; holds = h; on = onward_same t m.next_uid m.next_name; uids = omega arith; names = omega arith; kept = done.0; each = done.1 }

    delivers : (place : ℕ) (x : Option PacketValue) → slice_get m.packets place ≡ x → Ok (delivered m place x)
    delivers place None there = none
    delivers place (Some (Call from server xid uid gid call)) there = arrives place from server xid uid gid call there (numbered_at m.servers server) refl
    delivers place (Some (Reply call server to xid reply)) there = comes place call server xid reply to there (answer_at place call server to xid reply there)

    started : (n : ℕ) (pieces : List Piece) (s : ServerState) → numbered_at m.servers n ≡ Some s → (new : Option ServerState) → restart_of s pieces ≡ new → Ok (started_again m n pieces new)
    started n pieces s there None is = none
    started n pieces s there (Some new) is =
        let h = restarted_holds restarts m journal t.drawn at.holds n s there pieces new is in
        let done = cases.restarts t m journal at p n pieces s new there is h in
        record { then = t; holds = h; on = onward_same t m.next_uid m.next_name; uids = omega arith; names = omega arith; kept = done.0; each = done.1 }

    starts : (n : ℕ) (pieces : List Piece) (s : Option ServerState) → numbered_at m.servers n ≡ s → Ok (restarts_at m n pieces s)
    starts n pieces None there = none
    starts n pieces (Some s) there = started n pieces s there (restart_of s pieces) refl

    -- ---- calls that go out

    out : (n xid : ℕ) (f : MdsFile) → numbered_at m.files n ≡ Some f → m.last_xid Mds < xid → (c : Option CallOut) → call_out f xid ≡ c → Ok (goes_out m n xid c)
    out n xid f there new None is = none
    out n xid f there new (Some c) is =
        let same = all_stand m journal t.drawn at.holds in
        let later = later_sent net c.server xid c.uid c.uid c.call same new in
        let then : Net = sent_net net xid (mds_call xid c) in
        let ok = call_out_ok net n xid journal same at.holds.packets new (bounded_now m journal t.drawn at.holds) f c (at.holds.files n f there) is in
        let h = moved_holds m journal t.drawn at.holds (set m.files (n - 1) c.file) m.next_uid m.next_name (with_number m.last_xid Mds xid) (m.packets ++ mds_call xid c ∷ []) m.holdings t.drawn at.holds.few_names later [] tt
        n f c.file there refl tt tt (subst (λ (j : List Entry). IsFile then j n c.file) (sym (append-nil journal)) ok.1)
        (all_append (IsPacket then) m.packets (mds_call xid c ∷ []) (all_more (IsPacket net) (IsPacket then) m.packets (packet_on net then later) at.holds.packets) ((omega arith, ok.0), tt))
        (λ k other. refl) at.holds.tops at.holds.lows (omega arith) in
        quietly (after_call m n xid c) h (omega arith) (omega arith) (cases.calls t m journal at p n xid f c there is new (shorter (after_call m n xid c) t.drawn h))

    calls_out : (n xid : ℕ) (f : Option MdsFile) → numbered_at m.files n ≡ f → Ok (call_out_from m n xid f)
    calls_out n xid None there = none
    calls_out n xid (Some f) there = cond_both (ltb (m.last_xid Mds) xid) (goes_out m n xid (call_out f xid)) (no_move m) Ok (λ e. out n xid f there (ltb-true (m.last_xid Mds) xid e) (call_out f xid) refl) (λ e. none)

    again : (place : ℕ) (x : Option PacketValue) → slice_get m.packets place ≡ x → Ok (sent_again m x)
    again place None there = none
    again place (Some x) there =
        let same : (xid server : ℕ) (call : DsCallValue) → AllByRecursion (IsThisCall xid server call) m.packets → IsThisCall xid server call x =
        λ xid server call all. all_at (IsThisCall xid server call) m.packets place x all there in
        let then : Machine = with_packets m (m.packets ++ x ∷ []) in
        let h = with_packet m journal t.drawn at.holds m.last_xid refl x same (packet_on net (net_of then t.drawn) (later_with m journal t.drawn at.holds m.last_xid refl x same) x (all_at (IsPacket net) m.packets place x at.holds.packets there)) in
        quietly then h (omega arith) (omega arith) (cases.again t m journal at p place x there)

    sent_by : (node : NodeId) (n xid uid gid : ℕ) (call : DsCallValue) → IsCallOf t.drawn m.servers m.next_name n call → may_number m node xid ≡ true → Holds (puts_out m node xid (Call node n xid uid gid call)) (journal ++ []) t.drawn
    sent_by Mds n xid uid gid call is new =
        let later = later_sent net n xid uid gid call (all_stand m journal t.drawn at.holds) (ltb-true (m.last_xid Mds) xid new) in
        let last : Net = net_of (puts_out m Mds xid (Call Mds n xid uid gid call)) t.drawn in
        sent_holds m journal t.drawn at.holds (m.packets ++ Call Mds n xid uid gid call ∷ []) (with_number m.last_xid Mds xid) later
        (all_append (IsPacket last) m.packets (Call Mds n xid uid gid call ∷ []) (all_more (IsPacket net) (IsPacket last) m.packets (packet_on net last later) at.holds.packets) ((omega arith, is), tt))
    sent_by (Server k) n xid uid gid call is new = with_packet m journal t.drawn at.holds (with_number m.last_xid (Server k) xid) refl (Call (Server k) n xid uid gid call) (λ x server c all. tt) (tt, is)
    sent_by (Client k) n xid uid gid call is new = with_packet m journal t.drawn at.holds (with_number m.last_xid (Client k) xid) refl (Call (Client k) n xid uid gid call) (λ x server c all. tt) (tt, is)

    uses : (node : NodeId) (n xid uid gid : ℕ) (call : DsCallValue) → IsBoundCall journal uid call → Ok (used m node n xid uid gid call)
    uses node n xid uid gid call bound =
        cond_both (may_use call && may_number m node xid) (record { machine = puts_out m node xid (Call node n xid uid gid call); entries = [] }) (no_move m) Ok
        (λ e.
        let parts = and_parts (may_use call) (may_number m node xid) e in
        quietly (puts_out m node xid (Call node n xid uid gid call)) (sent_by node n xid uid gid call (free_call m journal t.drawn at.holds n call parts.0) parts.1) (omega arith) (omega arith)
        (cases.uses t m journal at p node n xid uid gid call parts.0 parts.1 bound))
        (λ e. none)

    ticks : (n : ℕ) (id : MirrorId) (tick : Option Tick) → ((k : Tick) → tick ≡ Some k → HasGiven m.servers id.server k) → Ok (learns_tick m n id (numbered_at m.files n) tick)
    ticks n id None given = none
    ticks n id (Some tick) given = takes n (Sees id tick) (λ f there. given tick refl) (λ f there. tt) tt (numbered_at m.files n) refl

    learns : (n place : ℕ) (id : MirrorId) (x : Option PacketValue) → slice_get m.packets place ≡ x → Ok (learnt m n id (numbered_at m.files n) x)
    learns n place id None there = none
    learns n place id (Some (Call from server xid uid gid call)) there = none
    learns n place id (Some (Reply call server Mds xid reply)) there =
        cond_both (eqb server id.server && was_write_to id.fileid (slice_get m.packets call)) (learns_tick m n id (numbered_at m.files n) (ctime_in reply)) (no_move m) Ok
        (λ e. ticks n id (ctime_in reply) (tick_input m journal t.drawn at.holds id server xid reply (answer_at place call server Mds xid reply there) (and_parts _ _ e).0)) (λ e. none)
    learns n place id (Some (Reply call server (Server k) xid reply)) there = none
    learns n place id (Some (Reply call server (Client k) xid reply)) there = none

    not_heard : (input : FileInput) → comes_by_itself input ≡ true → IsHeard m.packets input
    not_heard (Answers xid reply) e = absurd cc
    not_heard _ e = tt

    happens : (n : ℕ) (input : FileInput) → ((f : MdsFile) → numbered_at m.files n ≡ Some f → IsBoundInput m.packets journal input (Some f)) → Ok (moved m (Happens n input))
    happens n input bound = cond_both (comes_by_itself input) (file_takes m n input (numbered_at m.files n)) (no_move m) Ok (λ e. takes n input (λ f there. brought m journal t.drawn at.holds input e f) bound (not_heard input e) (numbered_at m.files n) refl) (λ e. none)

    notes : (e : Entry) → IsQuiet m journal t.drawn at.holds e → P t m (journal ++ e ∷ []) × AreEach (Q t m.next_uid) journal (e ∷ []) → Ok (noted m e)
    notes e quiet done = record { then = t; holds = noted_holds m journal t.drawn at.holds e quiet; on = onward_same t m.next_uid m.next_name; uids = omega arith; names = omega arith; kept = done.0; each = done.1 }

    -- ---- a new file

    creates : (servers : List ℕ) → Ok (created m servers)
    creates servers =
        cond_both (may_create m servers) (record { machine = created_machine m servers; entries = [] }) (no_move m) Ok
        (λ e.
        let draw = and_parts (ltb 0 (length servers) && ltb (length servers) 5 && are_servers (length m.servers) servers && not (are_spent (fresh_of m))) (can_draw m 1 1) e in
        let left = and_parts (ltb 0 (length servers) && ltb (length servers) 5 && are_servers (length m.servers) servers) (not (are_spent (fresh_of m))) draw.0 in
        let apart = and_parts (ltb 0 (length servers) && ltb (length servers) 5) (are_servers (length m.servers) servers) left.0 in
        let h = created_holds m journal t.drawn at.holds servers apart.1 (few_by m journal t.drawn at.holds 1 1 draw.1) in
        let then : Story = drawn_story t m.next_name (length m.files + 1) m.next_uid None in
        record {
          then = then;
          holds = h;
          on = onward_drawn t m.next_uid m.next_name (length m.files + 1) None;
          uids = omega arith;
          names = omega arith;
          kept = subst (λ (j : List Entry). P then (created_machine m servers) j) (sym (append-nil journal)) (cases.creates t m journal at p servers e (shorter (created_machine m servers) then.drawn h));
          each = tt;
        })
        (λ e. none)

    -- ---- every move

    input_bound : (input : FileInput) (f : Option MdsFile) → IsBoundInput m.packets journal input f → (g : MdsFile) → f ≡ Some g → IsBoundInput m.packets journal input (Some g)
    input_bound input f bound g is = subst (λ (x : Option MdsFile). IsBoundInput m.packets journal input x) is bound

    pub move_done : (move : Move) → IsBound m journal move → Ok (moved m move)
    move_done (Deliver place) bound = delivers place (slice_get m.packets place) refl
    move_done (Creates at_servers) bound = creates at_servers
    move_done (Happens k input) bound = happens k input (input_bound input (numbered_at m.files k) bound)
    move_done (CallsOut k xid) bound = calls_out k xid (numbered_at m.files k) refl
    move_done (SendsAgain place) bound = again place (slice_get m.packets place) refl
    move_done (GivesUpWaiting k xid) bound = takes k (TimesOut xid) (λ f there. tt) (λ f there. tt) tt (numbered_at m.files k) refl
    move_done (Hears k place) bound = hears k place (slice_get m.packets place) refl
    move_done (Uses node server xid uid gid call) bound = uses node server xid uid gid call bound
    move_done (Learns k place id) bound = learns k place id (slice_get m.packets place) refl
    move_done (Takes file uid pos bytes) bound = notes (entry.Sent file (a_uid uid) pos bytes) (record { copies = λ id c. refl; live = λ f x. refl; fence = refl; freed = refl; right = tt }) (cases.takes t m journal at p file uid pos bytes bound)
    move_done (Strays file uid pos bytes) bound = notes (entry.Rogue file (a_uid uid) pos bytes) (record { copies = λ id c. refl; live = λ f x. refl; fence = refl; freed = refl; right = tt }) (cases.strays t m journal at p file uid pos bytes bound)
    move_done (Tells file uid pos bytes) bound = notes (entry.Told file (a_uid uid) pos bytes) (record { copies = λ id c. refl; live = λ f x. refl; fence = refl; freed = refl; right = tt }) (cases.tells t m journal at p file uid pos bytes bound)
    move_done (Restarts k pieces) bound = starts k pieces (numbered_at m.servers k) refl

  -- ---- a run

  pub record RunDone (t : Story) (m : Machine) (journal : List Entry) (moves : List Move) : Type 0 where
    pub last : Story
    pub moment : IsMoment last (machine_after m moves) (journal ++ journal_of m moves)
    pub kept : P last (machine_after m moves) (journal ++ journal_of m moves)
    pub on : IsOnward t m.next_uid m.next_name last
    pub uids : m.next_uid ≤ (machine_after m moves).next_uid
    pub each : AreEach (Q last (machine_after m moves).next_uid) journal (journal_of m moves)

  pub run_done : (moves : List Move) (t : Story) (m : Machine) (journal : List Entry) → IsMoment t m journal → P t m journal → AreBoundFrom m journal moves → RunDone t m journal moves
  run_done [] t m journal at p bound = record {
    last = t;
    moment = subst (λ (j : List Entry). IsMoment t m j) (sym (append-nil journal)) at;
    kept = subst (λ (j : List Entry). P t m j) (sym (append-nil journal)) p;
    on = onward_same t m.next_uid m.next_name;
    uids = omega arith;
    each = tt;
  }
  run_done (move ∷ moves) t m journal at p bound =
      let one = move_done t m journal at p move bound.0 in
      let next = move_periods m journal t.drawn at.holds at.fenced at.periods move in
      let x : MachineStep = moved m move in
      let rest = run_done moves one.then x.machine (journal ++ x.entries) (record { came = reached_on m journal move at.came; holds = one.holds; fenced = next.0; periods = next.1 }) one.kept bound.1 in
      let whole : (journal ++ x.entries) ++ journal_of x.machine moves ≡ journal ++ journal_of m (move ∷ moves) = append_assoc journal x.entries (journal_of x.machine moves) in
      let up = one.uids in
      let ups = rest.uids in
      record {
        last = rest.last;
        moment = subst (λ (j : List Entry). IsMoment rest.last (machine_after m (move ∷ moves)) j) whole rest.moment;
        kept = subst (λ (j : List Entry). P rest.last (machine_after m (move ∷ moves)) j) whole rest.kept;
        on = onward_then t m.next_uid m.next_name one.then x.machine.next_uid x.machine.next_name rest.last one.uids one.names one.on rest.on;
        uids = omega (arith, up, ups);
        each = each_more (Q rest.last (machine_after m (move ∷ moves)).next_uid) journal x.entries (journal_of x.machine moves)
            (each_weaker (Q one.then x.machine.next_uid) (Q rest.last (machine_after m (move ∷ moves)).next_uid) journal x.entries (λ b e q. cases.later one.then x.machine.next_uid x.machine.next_name rest.last (machine_after m (move ∷ moves)).next_uid b e rest.on rest.uids q) one.each) rest.each;
      }
