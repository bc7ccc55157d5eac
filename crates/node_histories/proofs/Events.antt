-- Each event of a world is told by its nodes.
use Rattle.std.proofs.Common.{◌≡◌, ◌≤◌, ℕ, suc, zero, ◌+◌, ◌-◌, Bool, true, false, cond, List, [], ◌∷◌, ◌++◌, length, Option, Some, None, refl, sym, ap, subst, ◌∙◌, arith}
use Rattle.std.specs.Prelude.{map, not, replicate, slice_set}
use Rattle.std.specs.List.{range_with_len, AllByRecursion}
use Rattle.std.proofs.lemmas.List.{append_assoc, append-nil}
use Rattle.cluster_model.specs.declared.ids.NodeId.{NodeId}
use Rattle.cluster_model.specs.declared.ids.NodeId.TheVariants.{Mds, Server, Client}
use Rattle.cluster_model.specs.declared.ids.FileId.{FileId}
use Rattle.cluster_model.specs.declared.piece.Piece.{Piece}
use Rattle.cluster_model.specs.declared.entry.Entry.{Entry}
use Rattle.cluster_model.specs.declared.entry.Entry.TheVariants as entry
use Rattle.cluster_model.specs.declared.limits.TheConstants.{PIECE_SIZE}
use Rattle.cluster_model.specs.Event.{EventValue, Deliver, DeliverPacket, DeliverBetween, Flow, Hold, Pass, Timeout, Tick, Open, Write, Through, Fill, Commit, Read, Return, Rogue, Stray, Reboot, Recall, Resilver, Audit, Restart}
use Rattle.cluster_model.specs.GuardLaws.{IsTold as IsToldAt}
use Rattle.cluster_model.specs.Server.{ServerState, restart_of}
use Rattle.ds_files.specs.Receive.{outcome_of}
use Rattle.ds_files.specs.Records.{sent_to}
use Rattle.client_state.specs.declared.request.UserRequest.{UserRequest}
use Rattle.client_state.specs.declared.request.UserRequest.TheVariants as request
use Rattle.client_state.specs.ClientStates.{ClientValue, fresh_client}
use Rattle.client_state.specs.ClientSends.{ClientStep, spelled_send}
use Rattle.client_state.specs.ClientSends as client
use Rattle.mirror_client.specs.ClientRule.{client_requested, client_recorded, client_timed_out, client_ticked, turned, strays}
use Rattle.client_laws.specs.ClientHistory.{ClientInput, Requested, Recorded, TimeoutOf, Ticked, LeftProtocol, Strayed, Hears as HearsInput, input_step}
use Rattle.mds_rule.specs.MdsStates.{MdsStep, served, numbered}
use Rattle.mds_rule.specs.Spelled as mds
use Rattle.mds_rule.specs.Events.{takes_record}
use Rattle.mds_walk.specs.MdsRuns.{MdsEvent, Hears, IsTimedOut, Ticks, RecallsFile, Resilvers, after_event}
use Rattle.mds_histories.specs.MdsHistory.{Comes}
use Rattle.packet_table.specs.declared.note.PacketNote.{PacketNote}
use Rattle.packet_table.specs.Packets.{packet_numbered, number_between}
use Rattle.world_journal.specs.SentPackets.{packets_of}
use Rattle.world_rule.specs.Machines.{Act, does_nothing, nth, mds_acts, client_at, client_acts, server_at, receives, times_out, leaves, goes_astray, starts_anew, started, restarts_at, restarts, audits_of, audits}
use Rattle.world_rule.specs.Sent.{bytes_at_place}
use Rattle.world_rule.specs.ClusterWorlds.{ClusterState, entering, packets, acting, packet_comes, delivering, delivering_some, client_ticks, clients_tick, ticking, asking, verifier_after, may_start, with_verifier, rebooting, behind}
use Rattle.node_histories.specs.Weaves.{IsUnseen, HasPacket}
use Rattle.proper_servers.specs.ProperServers.{IsProper}
use Rattle.node_histories.specs.ClientLives.{StraysIfLeft}
use Rattle.node_histories.specs.NodeHistories.{is_client_entry, is_server_entry, mds_shown, MdsStory, ClientStory, EnteredByServer, SentByServer, IsRequestOfScript, IsInputOfScript, IsEventInRange, TellsTruth}
use Rattle.node_histories.proofs.MdsKinds.{IsMdsEntry}
use Rattle.node_histories.proofs.MdsEntries.{mds_kinds}
use Rattle.node_histories.proofs.ClientEntries.{input_enters}
use Rattle.node_histories.proofs.ServerEntries.{AreServerEntries, server_kinds}
use Rattle.node_histories.proofs.EntryKinds.{AreWorldEntries, clients_none, all_mds_none, all_mds, servers_none, worlds_none, audits_are}
use Rattle.node_histories.proofs.Parts.{Part, joins, comes_unseen, comes_by, world_enters, acts, all_there}
use Rattle.node_histories.proofs.Lives.{client_shower}
use Rattle.node_histories.proofs.Stories.{set_there, at_number}
use Rattle.node_histories.proofs.Origins.{HaveOrigins, both_origins, mds_shower}
use Rattle.node_histories.proofs.Numbering.{IsNoPacket, numbered_none, numbered_act, has_packet}
use Rattle.node_histories.proofs.ElseEvents.{EventElse}
use Rattle.node_histories.proofs.Apart.{AreApart, apart_join, nones_apart, packets_apart, event_apart, packet_else}
use Rattle.node_histories.proofs.Together.{acts_together}
use Rattle.node_histories.proofs.Told.{ToldBy, IsTold, world_origins, others, mds_takes, client_takes, client_starts}

-- what a machine adds has no packet from the metadata server to itself
act_apart : (node : NodeId) (sent : ℕ) (front entries : List Entry) (sends : List (NodeId × List ℕ)) → AllByRecursion IsNoPacket front → AllByRecursion IsNoPacket entries → AreApart (packets_of node sent sends)
    → AreApart (front ++ (entries ++ packets_of node sent sends))
act_apart node sent front entries sends first second third =
    apart_join front (entries ++ packets_of node sent sends) (nones_apart front first) (apart_join entries (packets_of node sent sends) (nones_apart entries second) third)

-- ---- an act of a machine, behind entries of the world

module _ (w : ClusterState) (i : IsTold w) where
  -- of the world alone
  enters : (more : List Entry) → AreWorldEntries more → ToldBy w.machines.clients w.verifiers w.machines.mds w.sent (w.journal ++ more)
  enters more all =
      others w.machines.clients w.verifiers w.machines.mds w.sent w.journal i w.sent more (λ stories mds. world_origins stories mds w.journal more all) (numbered_none w.sent more (worlds_none more all))
      (nones_apart more (worlds_none more all))

  -- the same where the number of packets is a sum
  enters_none : (more : List Entry) → AreWorldEntries more → ToldBy w.machines.clients w.verifiers w.machines.mds (w.sent + 0) (w.journal ++ more)
  enters_none more all = let same : w.sent ≡ w.sent + 0 = omega arith in subst (λ (k : ℕ). ToldBy w.machines.clients w.verifiers w.machines.mds k (w.journal ++ more)) same (enters more all)

  -- ---- clients

  abbrev pub DidTold : List Entry → ℕ → ClientStep → Type 0
  DidTold front n s =
      ToldBy (slice_set w.machines.clients (n - 1) s.client) w.verifiers w.machines.mds (w.sent + length (map spelled_send s.sends)) (w.journal ++ (front ++ (s.entries ++ packets_of (Client n) w.sent (map spelled_send s.sends))))

  module _ (n : ℕ) (c : ClientValue) (at : nth w.machines.clients n ≡ Some c) where
    -- an input
    takes_input : (input : ClientInput) (front : List Entry) → IsInputOfScript input → StraysIfLeft c input → AreWorldEntries front → Part (client_shower n) w.journal (HearsInput input ∷ []) front → DidTold front n (input_step input c)
    takes_input input front of_script left world came =
        let s : ClientStep = input_step input c in
        let kinds : AllByRecursion (λ e. is_client_entry e ≡ true) (input_step input c).entries = (input_enters input c).entries in
        client_takes w.machines.clients w.verifiers w.machines.mds w.sent w.journal i n c at input (w.sent + length (map spelled_send s.sends)) (front ++ (s.entries ++ packets_of (Client n) w.sent (map spelled_send s.sends)))
        of_script left (acts (client_shower n) w.journal (HearsInput input) front s.entries w.sent s.sends came kinds)
        (numbered_act (Client n) w.sent front s.entries (map spelled_send s.sends) (worlds_none front world) (clients_none s.entries kinds))
        (act_apart (Client n) w.sent front s.entries (map spelled_send s.sends) (worlds_none front world) (clients_none s.entries kinds) (packets_apart (Client n) w.sent (map spelled_send s.sends) tt))

    -- one that has no entry
    takes_unseen : (input : ClientInput) → IsInputOfScript input → StraysIfLeft c input → Part (client_shower n) w.journal (HearsInput input ∷ []) [] → DidTold [] n (input_step input c)
    takes_unseen input of_script left came = takes_input input [] of_script left tt came

    -- nothing
    does_none : DidTold [] n (client.sends_none c)
    does_none = subst (λ (l : List ClientValue). ToldBy l w.verifiers w.machines.mds (w.sent + 0) (w.journal ++ [])) (sym (set_there w.machines.clients (n - 1) c (at_number w.machines.clients n c at).there)) (enters_none [] tt)

    -- it leaves the protocol
    leaves_told : (b : Bool) → DidTold [] n (cond {A = ClientStep} b (client.sends_none c) (record { client = turned c; entries = entry.Turned n ∷ []; sends = [] }))
    leaves_told true = does_none
    leaves_told false =
        let same : w.sent ≡ w.sent + 0 = omega arith in
        subst (λ (k : ℕ). ToldBy (slice_set w.machines.clients (n - 1) (turned c)) w.verifiers w.machines.mds k (w.journal ++ entry.Turned n ∷ [])) same
        (client_takes w.machines.clients w.verifiers w.machines.mds w.sent w.journal i n c at LeftProtocol w.sent (entry.Turned n ∷ []) tt tt
        (joins (client_shower n) w.journal (HearsInput LeftProtocol ∷ []) [] [] (entry.Turned n ∷ []) (comes_unseen (client_shower n) w.journal (HearsInput LeftProtocol) refl)
        (world_enters (client_shower n) (w.journal ++ []) (entry.Turned n) refl)) refl (tt, tt))

    astray_told : (place at : ℕ) (bytes : List ℕ) → IsInputOfScript (Strayed place at bytes) → (b : Bool) → c.has_left ≡ b → DidTold [] n (cond {A = ClientStep} b (strays c.file c.layout place at bytes c) (client.sends_none c))
    astray_told place at bytes of_script true left = takes_unseen (Strayed place at bytes) of_script left (comes_unseen (client_shower n) w.journal (HearsInput (Strayed place at bytes)) refl)
    astray_told place at bytes of_script false left = does_none

  -- whoever is there
  abbrev pub ActTold : List Entry → ℕ → (ClientValue → ClientStep) → Option ClientValue → Type 0
  ActTold front n rule o =
      ToldBy (client_at w.machines n rule o).machines.clients w.verifiers (client_at w.machines n rule o).machines.mds (w.sent + length (client_at w.machines n rule o).sends)
      (w.journal ++ (front ++ ((client_at w.machines n rule o).entries ++ packets_of (Client n) w.sent (client_at w.machines n rule o).sends)))

  by_client : (front : List Entry) → AreWorldEntries front → (n : ℕ) (rule : ClientValue → ClientStep) → ((c : ClientValue) → nth w.machines.clients n ≡ Some c → DidTold front n (rule c)) → (o : Option ClientValue)
      → nth w.machines.clients n ≡ o → ActTold front n rule o
  by_client front world n rule does None is = enters_none (front ++ []) (subst AreWorldEntries (sym (append-nil front)) world)
  by_client front world n rule does (Some c) is = does c is

  client_acts_so : (n : ℕ) (rule : ClientValue → ClientStep) → ((c : ClientValue) → nth w.machines.clients n ≡ Some c → DidTold [] n (rule c)) → IsTold (acting (Client n) (client_acts n rule w.machines) w)
  client_acts_so n rule does = by_client [] tt n rule does (nth w.machines.clients n) refl

  pub asks_so : (n : ℕ) (asked : UserRequest) → IsRequestOfScript asked → IsTold (asking n asked w)
  asks_so n asked of_script =
      client_acts_so n (client_requested asked) (λ c at. takes_unseen n c at (Requested asked) of_script tt (comes_unseen (client_shower n) w.journal (HearsInput (Requested asked)) refl))

  pub leaves_so : (n : ℕ) → IsTold (acting (Client n) (client_acts n (leaves n) w.machines) w)
  leaves_so n = client_acts_so n (leaves n) (λ c at. leaves_told n c at c.has_left)

  pub astray_so : (n place at : ℕ) (bytes : List ℕ) → IsInputOfScript (Strayed place at bytes) → IsTold (acting (Client n) (client_acts n (goes_astray place at bytes) w.machines) w)
  astray_so n place at bytes of_script = client_acts_so n (goes_astray place at bytes) (λ c there. astray_told n c there place at bytes of_script c.has_left refl)

  pub client_late_so : (n : ℕ) (to : NodeId) → IsTold (acting (Client n) (client_acts n (client_timed_out to) w.machines) w)
  client_late_so n to = client_acts_so n (client_timed_out to) (λ c at. takes_unseen n c at (TimeoutOf to) tt tt (comes_unseen (client_shower n) w.journal (HearsInput (TimeoutOf to)) refl))

  pub client_ticks_so : (n : ℕ) → IsTold (client_ticks n w)
  client_ticks_so n = client_acts_so n (client_ticked w.now) (λ c at. takes_unseen n c at (Ticked w.now) tt tt (comes_unseen (client_shower n) w.journal (HearsInput (Ticked w.now)) refl))

  -- ---- a new start

  abbrev anew : ℕ → ClientValue → Bool → ClientStep
  anew n c b = cond {A = ClientStep} b (client.sends_none c) (record { client = fresh_client n (verifier_after (nth w.verifiers n)) c.next_xid; entries = entry.Rebooted n ∷ []; sends = [] })

  abbrev StartTold : ℕ → ClientValue → Bool → Type 0
  StartTold n c b =
      ToldBy (slice_set w.machines.clients (n - 1) (anew n c b).client) (with_verifier n (verifier_after (nth w.verifiers n)) (not b) w.verifiers) w.machines.mds (w.sent + length (map spelled_send (anew n c b).sends))
      (w.journal ++ ((anew n c b).entries ++ packets_of (Client n) w.sent (map spelled_send (anew n c b).sends)))

  by_left : (n : ℕ) (c : ClientValue) → nth w.machines.clients n ≡ Some c → (b : Bool) → c.has_left ≡ b → StartTold n c b
  by_left n c at true left = does_none n c at
  by_left n c at false left =
      let same : w.sent ≡ w.sent + 0 = omega arith in
      subst
      (λ (k : ℕ).
      ToldBy (slice_set w.machines.clients (n - 1) (fresh_client n (verifier_after (nth w.verifiers n)) c.next_xid)) (slice_set w.verifiers (n - 1) (verifier_after (nth w.verifiers n))) w.machines.mds k (w.journal ++ entry.Rebooted n ∷ []))
      same (client_starts w.machines.clients w.verifiers w.machines.mds w.sent w.journal i n c at left)

  abbrev AnewTold : ℕ → Option ClientValue → Type 0
  AnewTold n o =
      let a : Act = client_at w.machines n (starts_anew n (verifier_after (nth w.verifiers n))) o in
      ToldBy a.machines.clients (with_verifier n (verifier_after (nth w.verifiers n)) (may_start o) w.verifiers) a.machines.mds (w.sent + length a.sends) (w.journal ++ (a.entries ++ packets_of (Client n) w.sent a.sends))

  by_start : (n : ℕ) (o : Option ClientValue) → nth w.machines.clients n ≡ o → AnewTold n o
  by_start n None is = enters_none [] tt
  by_start n (Some c) is = by_left n c is c.has_left refl

  pub reboots_so : (n : ℕ) → IsTold (rebooting n w)
  reboots_so n = by_start n (nth w.machines.clients n) refl

  -- ---- the metadata server

  abbrev MdsTold : List Entry → MdsEvent → Type 0
  MdsTold front e =
      ToldBy w.machines.clients w.verifiers (after_event e w.machines.mds).mds (w.sent + length (map mds.spelled_send (after_event e w.machines.mds).sends))
      (w.journal ++ (front ++ ((after_event e w.machines.mds).entries ++ packets_of Mds w.sent (map mds.spelled_send (after_event e w.machines.mds).sends))))

  mds_event : (e : MdsEvent) (front : List Entry) → AreWorldEntries front → EventElse e → Part mds_shower w.journal (Comes e ∷ []) front → MdsTold front e
  mds_event e front world its came =
      let s : MdsStep = after_event e w.machines.mds in
      let kinds : AllByRecursion IsMdsEntry s.entries = mds_kinds w.machines.mds e in
      mds_takes w.machines.clients w.verifiers w.machines.mds w.sent w.journal i e (w.sent + length (map mds.spelled_send s.sends)) (front ++ (s.entries ++ packets_of Mds w.sent (map mds.spelled_send s.sends)))
      (acts mds_shower w.journal (Comes e) front s.entries w.sent s.sends came (all_mds s.entries kinds))
      (acts_together w.journal e front s.entries w.sent s.sends came (all_mds s.entries kinds))
      (numbered_act Mds w.sent front s.entries (map mds.spelled_send s.sends) (worlds_none front world) (all_mds_none s.entries kinds))
      (act_apart Mds w.sent front s.entries (map mds.spelled_send s.sends) (worlds_none front world) (all_mds_none s.entries kinds) (event_apart i.mds w.machines.mds w.journal i.mds_is i.apart e its w.sent))

  pub mds_so : (e : MdsEvent) → mds_shown (Comes e) ≡ IsUnseen → EventElse e → IsTold (acting Mds (mds_acts (after_event e) w.machines) w)
  mds_so e is its = mds_event e [] tt its (comes_unseen mds_shower w.journal (Comes e) is)

  -- ---- entries of the world

  pub nothing_so : (node : NodeId) → IsTold (acting node (does_nothing w.machines) w)
  nothing_so node = enters_none [] tt

  pub audits_so : (file : FileId) → IsTold (acting Mds (audits file w.machines) w)
  audits_so file =
      let all : AreWorldEntries (audits_of w.machines file (served w.machines.mds file)) = audits_are w.machines file (served w.machines.mds file) in
      subst (λ (l : List Entry). ToldBy w.machines.clients w.verifiers w.machines.mds (w.sent + 0) (w.journal ++ l)) (sym (append-nil (audits_of w.machines file (served w.machines.mds file))))
      (enters_none (audits_of w.machines file (served w.machines.mds file)) all)

  pub restarts_so : (n : ℕ) (pieces : List Piece) → IsTold (acting (Server n) (restarts n pieces w.machines) w)
  restarts_so n pieces = by_server (nth w.machines.servers n)
    where
      by_new : (o : Option ServerState) → IsTold (acting (Server n) (started w.machines n pieces o) w)
      by_new None = enters_none [] tt
      by_new (Some s) = enters_none (entry.Restarted n pieces ∷ []) (refl, tt)

      by_server : (o : Option ServerState) → IsTold (acting (Server n) (restarts_at w.machines n pieces o) w)
      by_server None = enters_none [] tt
      by_server (Some s) = by_new (restart_of s pieces)

  pub times_so : (node to : NodeId) → IsTold (acting node (times_out w.now node to w.machines) w)
  times_so Mds to = mds_so (record { now = w.now; input = IsTimedOut to None }) refl tt
  times_so (Server n) to = nothing_so (Server n)
  times_so (Client n) to = client_late_so n to

  -- ---- a packet comes

  module _ (number : ℕ) (from : NodeId) (bytes : List ℕ) where
    abbrev CameTold : NodeId → Act → Type 0
    CameTold node a =
        ToldBy a.machines.clients w.verifiers a.machines.mds (w.sent + length a.sends) (w.journal ++ (entry.Delivered number ∷ (a.entries ++ packets_of node w.sent a.sends)))

    -- to a client
    client_hears : (n : ℕ) → HasPacket w.journal number from (Client n) bytes → CameTold (Client n) (client_acts n (client_recorded from bytes w.now) w.machines)
    client_hears n has =
        by_client (entry.Delivered number ∷ []) (refl, tt) n (client_recorded from bytes w.now)
        (λ c at.
        takes_input n c at (Recorded from bytes w.now) (entry.Delivered number ∷ []) tt tt (refl, tt) (comes_by (client_shower n) w.journal (HearsInput (Recorded from bytes w.now)) number from bytes refl has))
        (nth w.machines.clients n) refl

    -- to the metadata server
    mds_hears : HasPacket w.journal number from Mds bytes → CameTold Mds (mds_acts (λ s. takes_record w.now s from bytes) w.machines)
    mds_hears has =
        let e : MdsEvent = record { now = w.now; input = Hears from bytes } in
        mds_event (record { now = w.now; input = Hears from bytes }) (entry.Delivered number ∷ []) (refl, tt) (packet_else w.journal number from bytes i.apart has) (comes_by mds_shower w.journal (Comes (record { now = w.now; input = Hears from bytes })) number from bytes refl has)

    -- to a data server
    module _ (n : ℕ) (has : HasPacket w.journal number from (Server n) bytes) (truth : TellsTruth w) where
      abbrev Past : ServerState → List Entry
      Past s = (w.journal ++ entry.Delivered number ∷ []) ++ (outcome_of s bytes).entries

      replies_so : (s : ServerState) → nth w.machines.servers n ≡ Some s → (stories : List ClientStory) (mds : MdsStory) (o : Option (List ℕ)) → (outcome_of s bytes).reply ≡ o
          → HaveOrigins stories mds (Past s) (packets_of (Server n) w.sent (sent_to from o))
      replies_so s at stories mds None none [] behind e is = absurd cc
      replies_so s at stories mds None none (p ∷ past) behind e is = absurd cc
      replies_so s at stories mds (Some reply) some (p ∷ []) behind e is = absurd cc
      replies_so s at stories mds (Some reply) some (p ∷ q ∷ past) behind e is = absurd cc
      replies_so s at stories mds (Some reply) some [] behind e is =
          let same : e ≡ entry.Packet (w.sent + 1) (Server n) from reply = cc is in
          let t : (s.number ≡ n) × IsToldAt s w.journal × IsProper s = truth n s at in
          SentByServer n (w.sent + 1) from reply same
          (record {
            before = w.journal;
            number = number;
            asked = bytes;
            came = has;
            server = s;
            its_number = t.0;
            truth = t.1;
            proper = t.2;
            reply = some;
            split = append-nil (Past s) ∙ append_assoc w.journal (entry.Delivered number ∷ []) (outcome_of s bytes).entries;
          })

      serves_so : (o : Option ServerState) → nth w.machines.servers n ≡ o → CameTold (Server n) (server_at w.machines n from bytes o)
      serves_so None is = enters_none (entry.Delivered number ∷ []) (refl, tt)
      serves_so (Some s) is =
          let entries : List Entry = (outcome_of s bytes).entries in
          let sends : List (NodeId × List ℕ) = sent_to from (outcome_of s bytes).reply in
          let kinds : AreServerEntries (outcome_of s bytes).entries = server_kinds s bytes in
          others w.machines.clients w.verifiers w.machines.mds w.sent w.journal i (w.sent + length sends) (entry.Delivered number ∷ (entries ++ packets_of (Server n) w.sent sends))
          (λ stories mds.
          both_origins stories mds w.journal (entry.Delivered number ∷ []) (entries ++ packets_of (Server n) w.sent sends)
          (world_origins stories mds w.journal (entry.Delivered number ∷ []) (refl, tt))
          (both_origins stories mds (w.journal ++ entry.Delivered number ∷ []) entries (packets_of (Server n) w.sent sends)
          (λ past behind e split.
          EnteredByServer (all_there (λ x. is_server_entry x ≡ true) past behind e (subst AreServerEntries split kinds)))
          (replies_so s is stories mds (outcome_of s bytes).reply refl)))
          (numbered_act (Server n) w.sent (entry.Delivered number ∷ []) entries sends (tt, tt) (servers_none entries kinds))
          (act_apart (Server n) w.sent (entry.Delivered number ∷ []) entries sends (tt, tt) (servers_none entries kinds) (packets_apart (Server n) w.sent sends tt))

    hears : TellsTruth w → (to : NodeId) → HasPacket w.journal number from to bytes → CameTold to (receives w.now from to bytes w.machines)
    hears truth Mds has = mds_hears has
    hears truth (Server n) has = serves_so n has truth (nth w.machines.servers n) refl
    hears truth (Client n) has = client_hears n has

  comes_so : TellsTruth w → (number : ℕ) (o : Option PacketNote) → packet_numbered (packets w) number ≡ o → IsTold (packet_comes number o w)
  comes_so truth number None is = i
  comes_so truth number (Some note) is =
      let a : Act = receives w.now note.from note.to (bytes_at_place w.journal note.place) w.machines in
      subst (λ (l : List Entry). ToldBy a.machines.clients w.verifiers a.machines.mds (w.sent + length a.sends) l)
      (sym (append_assoc w.journal (entry.Delivered number ∷ []) (a.entries ++ packets_of note.to w.sent a.sends)))
      (hears number note.from (bytes_at_place w.journal note.place) truth note.to (has_packet w.journal w.held w.sent number note i.numbers is))

  pub delivers_so : TellsTruth w → (number : ℕ) → IsTold (delivering number w)
  delivers_so truth number = comes_so truth number (packet_numbered (packets w) number) refl

  some_so : TellsTruth w → (o : Option ℕ) → IsTold (delivering_some o w)
  some_so truth None = i
  some_so truth (Some number) = delivers_so truth number

-- ---- time

clients_so : (ns : List ℕ) (w : ClusterState) → IsTold w → IsTold (clients_tick ns w)
clients_so [] w i = i
clients_so (n ∷ ns) w i = clients_so ns (client_ticks n w) (client_ticks_so w i n)

ticks_so : (w : ClusterState) → IsTold w → (seconds : ℕ) → IsTold (ticking seconds w)
ticks_so w i seconds =
    let later : ClusterState = record (entering (entry.Tick seconds ∷ []) w) { now = w.now + seconds } in
    let ticked : ClusterState = clients_tick (range_with_len 1 (length w.machines.clients)) later in
    let j : IsTold ticked = clients_so (range_with_len 1 (length w.machines.clients)) later (enters w i (entry.Tick seconds ∷ []) (refl, tt)) in
    mds_so ticked j (record { now = ticked.now; input = Ticks }) refl tt

-- ---- each event

length_same : (count byte : ℕ) → length (replicate count byte) ≡ count
length_same zero byte = refl
length_same (suc count) byte = ap suc (length_same count byte)

fills : (at count byte : ℕ) → (1 ≤ count) × (count ≤ PIECE_SIZE) → IsRequestOfScript (request.Write at (replicate count byte))
fills at count byte fits = (subst (λ (k : ℕ). 1 ≤ k) (sym (length_same count byte)) fits.0, subst (λ (k : ℕ). k ≤ PIECE_SIZE) (sym (length_same count byte)) fits.1)

pub goes_on : (event : EventValue) (w : ClusterState) → IsTold w → TellsTruth w → IsEventInRange event → IsTold (behind event w)
goes_on (Deliver bytes) w i truth fits = i
goes_on (DeliverPacket number) w i truth fits = delivers_so w i truth number
goes_on (DeliverBetween from to n) w i truth fits = some_so w i truth (number_between (packets w) from to n)
goes_on Flow w i truth fits = i
goes_on (Hold from to) w i truth fits = enters w i (entry.Hold from to ∷ []) (refl, tt)
goes_on (Pass from to) w i truth fits = enters w i (entry.Pass from to ∷ []) (refl, tt)
goes_on (Timeout node to) w i truth fits = times_so w i node to
goes_on (Tick seconds) w i truth fits = ticks_so w i seconds
goes_on (Open client name) w i truth fits = asks_so w i client (request.Open name) fits
goes_on (Write client at bytes) w i truth fits = asks_so w i client (request.Write at bytes) fits
goes_on (Through client at bytes) w i truth fits = asks_so w i client (request.Through at bytes) fits
goes_on (Fill client at count byte) w i truth fits = asks_so w i client (request.Write at (replicate count byte)) (fills at count byte fits)
goes_on (Commit client) w i truth fits = asks_so w i client request.Commit tt
goes_on (Read client at count) w i truth fits = asks_so w i client (request.Read at count) fits
goes_on (Return client) w i truth fits = asks_so w i client request.Return tt
goes_on (Rogue client) w i truth fits = leaves_so w i client
goes_on (Stray client place at bytes) w i truth fits = astray_so w i client place at bytes fits
goes_on (Reboot client) w i truth fits = reboots_so w i client
goes_on (Recall file) w i truth fits = mds_so w i (record { now = w.now; input = RecallsFile (numbered file) }) refl tt
goes_on (Resilver file) w i truth fits = mds_so w i (record { now = w.now; input = Resilvers (numbered file) }) refl tt
goes_on (Audit file) w i truth fits = audits_so w i (numbered file)
goes_on (Restart server pieces) w i truth fits = restarts_so w i server pieces
