-- Each event of a world keeps it a bound run of the machine: packets that come, time, and all the others.
use Rattle.std.proofs.Common.{◌≡◌, ◌<◌, ◌≤◌, ℕ, zero, suc, ◌+◌, ◌-◌, ◌^◌, Bool, true, false, cond, List, [], ◌∷◌, ◌++◌, length, Option, Some, None, refl, sym, ap, subst, ◌∙◌, inl, inr, ◌⊎◌, arith}
use Rattle.std.specs.Prelude.{map, replicate, slice_get, slice_set, ◌==◌}
use Rattle.std.specs.List.{range_with_len, AllByRecursion}
use Rattle.std.proofs.lemmas.List.{append_assoc, append-nil}
use Rattle.cluster_model.specs.declared.ids.NodeId.{NodeId}
use Rattle.cluster_model.specs.declared.ids.NodeId.TheVariants.{Mds, Server, Client}
use Rattle.cluster_model.specs.declared.ids.FileId.{FileId}
use Rattle.cluster_model.specs.declared.ids.Mirror.{Mirror}
use Rattle.cluster_model.specs.declared.piece.Piece.{Piece}
use Rattle.cluster_model.specs.declared.entry.Entry.{Entry}
use Rattle.cluster_model.specs.declared.entry.Entry.TheVariants as entry
use Rattle.cluster_model.specs.Event.{EventValue, Deliver, DeliverPacket, DeliverBetween, Flow, Hold, Pass, Timeout, Tick, Open, Write, Through, Fill, Commit, Read, Return, Rogue, Stray, Reboot, Recall, Resilver, Audit, Restart}
use Rattle.cluster_model.specs.Server.{ServerState, restart_of}
use Rattle.ds_files.specs.Receive.{outcome_of}
use Rattle.cluster_laws.specs.Machine.{Machine, numbered_at}
use Rattle.cluster_laws.specs.CallRanges.{AreServersInRange}
use Rattle.cluster_laws.specs.Telling.{telling}
use Rattle.client_state.specs.declared.request.UserRequest.{UserRequest}
use Rattle.client_state.specs.declared.request.UserRequest.TheVariants as request
use Rattle.client_state.specs.ClientStates.{ClientValue}
use Rattle.client_state.specs.ClientSends.{ClientStep}
use Rattle.client_state.specs.ClientSends as client
use Rattle.mirror_client.specs.ClientRule.{client_requested, client_recorded, client_timed_out, client_ticked}
use Rattle.client_laws.specs.ClientHistory.{ClientInput, Requested, Recorded, TimeoutOf, Ticked, Strayed, input_step}
use Rattle.client_sends.specs.SendsOfUsers.{IsUserSend, is_user_entry, SendsAsUser, EntersAsUser, IsRecordOfUser}
use Rattle.mds_rule.specs.MdsStates.{ServedFile, MdsSend, MdsValue, served, numbered}
use Rattle.mds_rule.specs.Spelled.{spelled_send}
use Rattle.mds_walk.specs.MdsRuns.{MdsEvent, Hears, IsTimedOut, Ticks, RecallsFile, Resilvers, after_event}
use Rattle.mds_moves.specs.MdsMoves.{MayComeTo}
use Rattle.packet_table.specs.declared.note.PacketNote.{PacketNote}
use Rattle.packet_table.specs.Packets.{packet_numbered, number_between}
use Rattle.proper_servers.specs.ProperServers.{IsProper}
use Rattle.world_rule.specs.Machines.{MachinesValue, does_nothing, nth, mds_did, mds_acts, client_did, client_at, client_acts, server_did, server_at, server_acts, receives, times_out, leaves, goes_astray, starts_anew, started, restarts_at, restarts, audit_of, audits_of, is_asked}
use Rattle.world_rule.specs.Sent.{bytes_at_place}
use Rattle.world_rule.specs.ClusterWorlds.{ClusterState, entering, packets, acting, packet_comes, delivering, delivering_some, client_ticks, clients_tick, ticking, asking, behind}
use Rattle.world_journal.specs.SentPackets.{packets_of as posted}
use Rattle.mds_forms.specs.Forms.{IsNoPacket}
use Rattle.world_moves.specs.WorldMoves.{IsCarried, IsEntryCarried}
use Rattle.world_moves.proofs.ServerMoves.{at_place, all_at}
use Rattle.world_moves.proofs.PacketNotes.{IsNoteOf, note_of, bytes_there}
use Rattle.world_moves.proofs.UserEntries.{users_enter, users_send}
use Rattle.world_moves.proofs.UserSteps.{in_range, proper_at, IsUserStep, by_input, leaves_so, astray_so, anew_so}
use Rattle.holder_parts.specs.CoveredRecords.{WasPosted}
use Rattle.holder_parts.specs.HolderParts.{IsPostedCall, KeepsPart, HoldersKeepParts}
use Rattle.bound_worlds.specs.BoundWorlds.{IsBoundRun, IsBoundRunOf, BeginsOtherwise, MayHappen}
use Rattle.bound_worlds.proofs.Notes.{BoundLaws, all_notes, all_quiet}
use Rattle.bound_worlds.proofs.BoundActs.{MdsLaws, none_own, posts_otherwise, posts, mds_acts_so}
use Rattle.bound_worlds.proofs.BoundPackets.{RecordLaws, from_client, from_mds}
use Rattle.bound_worlds.proofs.BoundEvents.{UserLaws, SplitAt, split_at, still_there, other_join, none_other, user_other, posted_other, regroup, nothing_so, quiet_so, client_acts_so, client_alone, alone, mds_so, CameFrom, server_so, restarted_so}

module _ (laws : BoundLaws) (by_mds : MdsLaws) (records : RecordLaws) (users : UserLaws) (boots : List ℕ) where
  -- ---- packets

  may_come : (w : ClusterState) (i : IsBoundRunOf boots w) (from : NodeId) (bytes : List ℕ) → IsCarried i.machine i.sends from Mds bytes → MayComeTo i.machine i.sends (Hears from bytes)
  may_come w i Mds bytes was = tt
  may_come w i (Server k) bytes was = was
  may_come w i (Client c) bytes was = tt

  its_user : (c : ClientValue) (input : ClientInput) → IsUserStep (input_step input c)
  its_user c input = by_input users.sends users.entries input c

  comes : (w : ClusterState) (i : IsBoundRunOf boots w) (from to : NodeId) (bytes : List ℕ) → IsCarried i.machine i.sends from to bytes → ((n : ℕ) → to ≡ Server n → CameFrom laws by_mds records users boots w.journal from n bytes)
      → HoldersKeepParts (acting to (receives w.now from to bytes w.machines) w).journal → IsBoundRunOf boots (acting to (receives w.now from to bytes w.machines) w)
  comes w i from Mds bytes was came parts = mds_so laws by_mds records users boots w i (record { now = w.now; input = Hears from bytes }) (may_come w i from bytes was) parts
  comes w i from (Server n) bytes was came parts = server_so laws by_mds records users boots w i n from bytes was (came n refl)
  comes w i from (Client n) bytes was came parts = client_alone laws by_mds records users boots w i n (client_recorded from bytes w.now) (λ c. its_user c (Recorded from bytes w.now)) parts

  -- where a client's packet stands
  came_from : (journal more whole : List Entry) (from to : NodeId) (number place : ℕ) (bytes : List ℕ) → whole ≡ journal ++ more → slice_get journal place ≡ Some (entry.Packet number from to bytes) → HoldersKeepParts whole → (n : ℕ) → to ≡ Server n → CameFrom laws by_mds records users boots journal from n bytes
  came_from journal more whole Mds to number place bytes is there parts n same = tt
  came_from journal more whole (Server k) to number place bytes is there parts n same = tt
  came_from journal more whole (Client c) to number place bytes is there parts n same = with_split (split_at journal place (entry.Packet number (Client c) (Server n) bytes) (subst (λ (x : NodeId). slice_get journal place ≡ Some (entry.Packet number (Client c) x bytes)) same there))
    where
      with_split : SplitAt journal (entry.Packet number (Client c) (Server n) bytes) → (past : List Entry) × (later : List Entry) × (journal ≡ past ++ later) × IsPostedCall past bytes × WasPosted journal (Client c) (Server n) bytes
      with_split s =
          let all : whole ≡ s.before ++ entry.Packet number (Client c) (Server n) bytes ∷ (s.behind ++ more) = is ∙ (ap (λ (l : List Entry). l ++ more) s.is ∙ append_assoc s.before (entry.Packet number (Client c) (Server n) bytes ∷ s.behind) more) in (
            s.before,
            entry.Packet number (Client c) (Server n) bytes ∷ s.behind,
            s.is,
            parts s.before (s.behind ++ more) (entry.Packet number (Client c) (Server n) bytes) all,
            record { number = number; before = s.before; behind = s.behind; split = s.is },
          )

  note_comes : (w : ClusterState) → IsBoundRunOf boots w → (number : ℕ) (note : PacketNote) → packet_numbered (packets w) number ≡ Some note → HoldersKeepParts (packet_comes number (Some note) w).journal → IsBoundRunOf boots (packet_comes number (Some note) w)
  note_comes w i number note is parts =
      let n : IsNoteOf w.journal note = note_of w.journal w.held number note is in
      let j : IsBoundRun boots w.machines.servers w.machines.mds (w.journal ++ entry.Delivered number ∷ []) = quiet_so laws by_mds records users boots w i (entry.Delivered number ∷ []) refl (tt, tt) in
      let there : slice_get (w.journal ++ entry.Delivered number ∷ []) note.place ≡ Some (entry.Packet n.number note.from note.to n.bytes) = still_there w.journal (entry.Delivered number ∷ []) note.place _ n.there in
      let bytes : bytes_at_place w.journal note.place ≡ n.bytes = bytes_there w.journal note n in
      let was : IsCarried j.machine j.sends note.from note.to n.bytes = all_at (IsEntryCarried j.machine j.sends) (w.journal ++ entry.Delivered number ∷ []) note.place (entry.Packet n.number note.from note.to n.bytes) j.carried there in
      comes (entering (entry.Delivered number ∷ []) w) j note.from note.to (bytes_at_place w.journal note.place) (subst (IsCarried j.machine j.sends note.from note.to) (sym bytes) was)
      (came_from (w.journal ++ entry.Delivered number ∷ []) _ _ note.from note.to n.number note.place (bytes_at_place w.journal note.place) refl (subst (λ (b : List ℕ). slice_get (w.journal ++ entry.Delivered number ∷ []) note.place ≡ Some (entry.Packet n.number note.from note.to b)) (sym bytes) there) parts)
      parts

  delivers_so : (w : ClusterState) → IsBoundRunOf boots w → (number : ℕ) → HoldersKeepParts (delivering number w).journal → IsBoundRunOf boots (delivering number w)
  delivers_so w i number parts = by_note (packet_numbered (packets w) number) refl parts
    where
      by_note : (o : Option PacketNote) → packet_numbered (packets w) number ≡ o → HoldersKeepParts (packet_comes number o w).journal → IsBoundRunOf boots (packet_comes number o w)
      by_note None is parts = i
      by_note (Some note) is parts = note_comes w i number note is parts

  some_so : (w : ClusterState) → IsBoundRunOf boots w → (o : Option ℕ) → HoldersKeepParts (delivering_some o w).journal → IsBoundRunOf boots (delivering_some o w)
  some_so w i None parts = i
  some_so w i (Some number) parts = delivers_so w i number parts

  -- ---- time

  -- what clients do in a part of an event
  record Grows (w v : ClusterState) : Type 0 where
    rest : List Entry
    is : v.journal ≡ w.journal ++ rest
    other : (more : List Entry) → BeginsOtherwise more → BeginsOtherwise (rest ++ more)
    mds : v.machines.mds ≡ w.machines.mds

  one_grows : (w : ClusterState) (n : ℕ) → Grows w (client_ticks n w)
  one_grows w n = by_client (nth w.machines.clients n)
    where
      by_client : (o : Option ClientValue) → Grows w (acting (Client n) (client_at w.machines n (client_ticked w.now) o) w)
      by_client None = record { rest = []; is = refl; other = λ more other. other; mds = refl }
      by_client (Some c) =
          let s : ClientStep = client_ticked w.now c in
          record {
            rest = (client_ticked w.now c).entries ++ posted (Client n) w.sent (map client.spelled_send (client_ticked w.now c).sends);
            is = refl;
            other = λ more other. other_join ((client_ticked w.now c).entries ++ posted (Client n) w.sent (map client.spelled_send (client_ticked w.now c).sends)) more
                (other_join (client_ticked w.now c).entries (posted (Client n) w.sent (map client.spelled_send (client_ticked w.now c).sends)) (user_other (client_ticked w.now c).entries (its_user c (Ticked w.now)).entries) (posted_other (Client n) w.sent (map client.spelled_send (client_ticked w.now c).sends))) other;
            mds = refl;
          }

  clients_grow : (ns : List ℕ) (w : ClusterState) → Grows w (clients_tick ns w)
  clients_grow [] w = record { rest = []; is = sym (append-nil w.journal); other = λ more other. other; mds = refl }
  clients_grow (n ∷ ns) w =
      let one : Grows w (client_ticks n w) = one_grows w n in
      let all : Grows (client_ticks n w) (clients_tick ns (client_ticks n w)) = clients_grow ns (client_ticks n w) in
      record {
        rest = one.rest ++ all.rest;
        is = all.is ∙ (ap (λ (l : List Entry). l ++ all.rest) one.is ∙ append_assoc w.journal one.rest all.rest);
        other = λ more other. subst BeginsOtherwise (sym (append_assoc one.rest all.rest more)) (one.other (all.rest ++ more) (all.other more other));
        mds = all.mds ∙ one.mds;
      }

  clients_so : (ns : List ℕ) (w : ClusterState) → IsBoundRunOf boots w → (more : List Entry) → HoldersKeepParts ((clients_tick ns w).journal ++ more) → BeginsOtherwise more → IsBoundRunOf boots (clients_tick ns w)
  clients_so [] w i more parts other = i
  clients_so (n ∷ ns) w i more parts other =
      let v : ClusterState = client_ticks n w in
      let all : Grows (client_ticks n w) (clients_tick ns (client_ticks n w)) = clients_grow ns (client_ticks n w) in
      let its : HoldersKeepParts ((client_ticks n w).journal ++ (all.rest ++ more)) = subst HoldersKeepParts (ap (λ (l : List Entry). l ++ more) all.is ∙ append_assoc (client_ticks n w).journal all.rest more) parts in
      clients_so ns (client_ticks n w) (client_acts_so laws by_mds records users boots w i n (client_ticked w.now) (λ c. its_user c (Ticked w.now)) (all.rest ++ more) its (all.other more other)) more parts other

  ticks_so : (w : ClusterState) → IsBoundRunOf boots w → (seconds : ℕ) → MayHappen (Tick seconds) w → IsBoundRunOf boots (ticking seconds w)
  ticks_so w i seconds may = with_clients (clients_grow (range_with_len 1 (length w.machines.clients)) later)
    where
      later : ClusterState
      later = record (entering (entry.Tick seconds ∷ []) w) { now = w.now + seconds }

      with_clients : Grows (record (entering (entry.Tick seconds ∷ []) w) { now = w.now + seconds }) (clients_tick (range_with_len 1 (length w.machines.clients)) (record (entering (entry.Tick seconds ∷ []) w) { now = w.now + seconds })) → IsBoundRunOf boots (ticking seconds w)
      with_clients g =
          let start : ClusterState = record (entering (entry.Tick seconds ∷ []) w) { now = w.now + seconds } in
          let ticked : ClusterState = clients_tick (range_with_len 1 (length w.machines.clients)) (record (entering (entry.Tick seconds ∷ []) w) { now = w.now + seconds }) in
          let e : MdsEvent = record { now = ticked.now; input = Ticks } in
          let rest : List Entry = (after_event e ticked.machines.mds).entries ++ posted Mds ticked.sent (map spelled_send (after_event e ticked.machines.mds).sends) in
          let other : BeginsOtherwise rest =
          other_join (after_event e ticked.machines.mds).entries (posted Mds ticked.sent (map spelled_send (after_event e ticked.machines.mds).sends))
          (subst (λ (m : MdsValue). BeginsOtherwise (after_event e m).entries) (sym g.mds) (may.other ticked.now)) (posted_other Mds ticked.sent (map spelled_send (after_event e ticked.machines.mds).sends)) in
          let j : IsBoundRunOf boots ticked =
          clients_so (range_with_len 1 (length w.machines.clients)) start (quiet_so laws by_mds records users boots w i (entry.Tick seconds ∷ []) refl (tt, tt)) rest may.parts other in
          mds_so laws by_mds records users boots ticked j e tt may.parts

  times_so : (w : ClusterState) → IsBoundRunOf boots w → (node to : NodeId) → HoldersKeepParts (acting node (times_out w.now node to w.machines) w).journal → IsBoundRunOf boots (acting node (times_out w.now node to w.machines) w)
  times_so w i Mds to parts = mds_so laws by_mds records users boots w i (record { now = w.now; input = IsTimedOut to None }) tt parts
  times_so w i (Server n) to parts = nothing_so laws by_mds records users boots w i (Server n)
  times_so w i (Client n) to parts = client_alone laws by_mds records users boots w i n (client_timed_out to) (λ c. its_user c (TimeoutOf to)) parts

  -- ---- each event

  asks : (w : ClusterState) → IsBoundRunOf boots w → (n : ℕ) (asked : UserRequest) → HoldersKeepParts (asking n asked w).journal → IsBoundRunOf boots (asking n asked w)
  asks w i n asked parts = client_alone laws by_mds records users boots w i n (client_requested asked) (λ c. its_user c (Requested asked)) parts

  audit_quiet : (m : MachinesValue) (file : FileId) (mirrors : List Mirror) → (telling (map (λ (mirror : Mirror). audit_of m file mirror.id) mirrors) ≡ []) × AllByRecursion IsNoPacket (map (λ (mirror : Mirror). audit_of m file mirror.id) mirrors)
  audit_quiet m file [] = (refl, tt)
  audit_quiet m file (mirror ∷ mirrors) = let rest = audit_quiet m file mirrors in (rest.0, (tt, rest.1))

  audits_quiet : (m : MachinesValue) (file : FileId) (o : Option ServedFile) → (telling (audits_of m file o) ≡ []) × AllByRecursion IsNoPacket (audits_of m file o)
  audits_quiet m file None = (refl, tt)
  audits_quiet m file (Some s) = audit_quiet m file s.file.layout.live

  audited : (w : ClusterState) → IsBoundRunOf boots w → (file : FileId) → IsBoundRunOf boots (acting Mds (record { machines = w.machines; entries = audits_of w.machines file (served w.machines.mds file); sends = [] }) w)
  audited w i file =
      let both = audits_quiet w.machines file (served w.machines.mds file) in
      subst (λ (l : List Entry). IsBoundRun boots w.machines.servers w.machines.mds (w.journal ++ l)) (sym (append-nil (audits_of w.machines file (served w.machines.mds file))))
      (quiet_so laws by_mds records users boots w i (audits_of w.machines file (served w.machines.mds file)) both.0 both.1)

  pub bound_on : (event : EventValue) (w : ClusterState) → IsBoundRunOf boots w → MayHappen event w → IsBoundRunOf boots (behind event w)
  bound_on (Deliver bytes) w i may = i
  bound_on (DeliverPacket number) w i may = delivers_so w i number may.parts
  bound_on (DeliverBetween from to n) w i may = some_so w i (number_between (packets w) from to n) may.parts
  bound_on Flow w i may = i
  bound_on (Hold from to) w i may = quiet_so laws by_mds records users boots w i (entry.Hold from to ∷ []) refl (tt, tt)
  bound_on (Pass from to) w i may = quiet_so laws by_mds records users boots w i (entry.Pass from to ∷ []) refl (tt, tt)
  bound_on (Timeout node to) w i may = times_so w i node to may.parts
  bound_on (Tick seconds) w i may = ticks_so w i seconds may
  bound_on (Open client name) w i may = asks w i client (request.Open name) may.parts
  bound_on (Write client at bytes) w i may = asks w i client (request.Write at bytes) may.parts
  bound_on (Through client at bytes) w i may = asks w i client (request.Through at bytes) may.parts
  bound_on (Fill client at count byte) w i may = asks w i client (request.Write at (replicate count byte)) may.parts
  bound_on (Commit client) w i may = asks w i client request.Commit may.parts
  bound_on (Read client at count) w i may = asks w i client (request.Read at count) may.parts
  bound_on (Return client) w i may = asks w i client request.Return may.parts
  bound_on (Rogue client) w i may = client_alone laws by_mds records users boots w i client (leaves client) (leaves_so users.sends users.entries client) may.parts
  bound_on (Stray client place at bytes) w i may = client_alone laws by_mds records users boots w i client (goes_astray place at bytes) (astray_so users.sends users.entries place at bytes) may.parts
  bound_on (Reboot client) w i may = client_alone laws by_mds records users boots w i client _ (anew_so users.sends users.entries client _) may.parts
  bound_on (Recall file) w i may = mds_so laws by_mds records users boots w i (record { now = w.now; input = RecallsFile (numbered file) }) tt may.parts
  bound_on (Resilver file) w i may = mds_so laws by_mds records users boots w i (record { now = w.now; input = Resilvers (numbered file) }) tt may.parts
  bound_on (Audit file) w i may = audited w i (numbered file)
  bound_on (Restart server pieces) w i may = restarted_so laws by_mds records users boots w i server pieces
