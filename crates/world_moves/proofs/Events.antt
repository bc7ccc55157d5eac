-- Each event of a world is moves of the machine.
use Rattle.std.proofs.Common.{◌≡◌, ◌<◌, ◌≤◌, ℕ, zero, suc, ◌+◌, ◌*◌, ◌-◌, ◌^◌, true, List, [], ◌∷◌, ◌++◌, length, Option, Some, None, refl, sym, ap, subst, ◌∙◌, inl, inr, arith}
use Rattle.std.specs.Prelude.{map, replicate, slice_get, slice_set}
use Rattle.std.specs.List.{range_with_len, AllByRecursion}
use Rattle.std.proofs.lemmas.Bool.{cond_both}
use Rattle.cluster_model.specs.declared.ids.NodeId.{NodeId}
use Rattle.cluster_model.specs.declared.ids.NodeId.TheVariants.{Mds, Server, Client}
use Rattle.cluster_model.specs.declared.ids.FileId.{FileId}
use Rattle.cluster_model.specs.declared.ids.Mirror.{Mirror}
use Rattle.cluster_model.specs.declared.piece.Piece.{Piece}
use Rattle.cluster_model.specs.declared.entry.Entry.{Entry}
use Rattle.cluster_model.specs.declared.entry.Entry.TheVariants as entry
use Rattle.cluster_model.specs.Event.{EventValue, Deliver, DeliverPacket, DeliverBetween, Flow, Hold, Pass, Timeout, Tick, Open, Write, Through, Fill, Commit, Read, Return, Rogue, Stray, Reboot, Recall, Resilver, Audit, Restart}
use Rattle.cluster_model.specs.Server.{ServerState, max_boot, max_ticks, restart_of}
use Rattle.cluster_model.specs.Members.{IsOneOf}
use Rattle.ds_files.specs.Receive.{outcome_of}
use Rattle.cluster_laws.specs.Machine.{Machine, numbered_at}
use Rattle.cluster_laws.specs.CallRanges.{IsServerInRange, AreServersInRange}
use Rattle.cluster_laws.specs.Telling.{telling}
use Rattle.machine_moves.proofs.Going.{goes_quiet}
use Rattle.client_state.specs.declared.request.UserRequest.{UserRequest}
use Rattle.client_state.specs.declared.request.UserRequest.TheVariants as request
use Rattle.client_state.specs.ClientStates.{ClientValue, fresh_client}
use Rattle.client_state.specs.ClientSends.{ClientStep}
use Rattle.client_state.specs.ClientSends as client
use Rattle.mirror_client.specs.ClientRule.{client_requested, client_recorded, client_timed_out, client_ticked, turned, strays}
use Rattle.client_laws.specs.ClientHistory.{ClientInput, Requested, Recorded, TimeoutOf, Ticked, Strayed, input_step}
use Rattle.client_sends.specs.SendsOfUsers.{IsUserSend, is_user_entry, SendsAsUser, EntersAsUser}
use Rattle.mds_rule.specs.MdsStates.{ServedFile, MdsSend, MdsStep, served, numbered}
use Rattle.mds_rule.specs.Spelled.{spelled_send}
use Rattle.mds_walk.specs.MdsRuns.{MdsEvent, Hears, IsTimedOut, Ticks, RecallsFile, Resilvers, after_event}
use Rattle.mds_walk.proofs.Lists.{in_more, all_in}
use Rattle.mds_moves.specs.MdsMoves.{IsReached, IsSentIn, MayComeTo, GoesOnBy, MdsGoesOn}
use Rattle.packet_table.specs.declared.note.PacketNote.{PacketNote}
use Rattle.packet_table.specs.Packets.{packet_numbered, number_between}
use Rattle.proper_servers.specs.ProperServers.{IsProper}
use Rattle.world_rule.specs.Machines.{MachinesValue, does_nothing, nth, mds_did, mds_acts, client_did, client_at, client_acts, server_did, server_at, server_acts, receives, times_out, leaves, goes_astray, starts_anew, started, restarts_at, restarts, audit_of, audits_of}
use Rattle.world_rule.specs.Sent.{bytes_at_place}
use Rattle.world_rule.specs.ClusterWorlds.{ClusterState, entering, packets, acting, packet_comes, delivering, delivering_some, client_ticks, clients_tick, ticking, asking, behind}
use Rattle.mds_forms.specs.Forms.{IsNoPacket, IsInForm, StaysInForm, MdsStaysInForm}
use Rattle.world_moves.specs.WorldMoves.{IsCarried, IsEntryCarried, IsRunOf}
use Rattle.world_moves.proofs.ServerMoves.{at_place, all_at, all_set, GoesAt, starts_again}
use Rattle.world_moves.proofs.MdsLike.{mds_like}
use Rattle.world_moves.proofs.PacketNotes.{IsNoteOf, note_of, bytes_there}
use Rattle.world_moves.proofs.UserEntries.{user_goes, users_enter, users_send}
use Rattle.world_moves.proofs.UserSteps.{in_range, proper_at, IsUserStep, by_input, leaves_so, astray_so, anew_so}
use Rattle.world_moves.proofs.Acting.{acts, enters}
use Rattle.world_moves.proofs.ServerActs.{ServerLaws, Serves, serves_client, serves_mds}

-- ---- what the metadata server sent

still_there : {A : Type 0} (xs more : List A) (k : ℕ) (x : A) → slice_get xs k ≡ Some x → slice_get (xs ++ more) k ≡ Some x
still_there [] more k x is = absurd cc
still_there (y ∷ xs) more zero x is = is
still_there (y ∷ xs) more (suc k) x is = still_there xs more k x is

behind_all : {A : Type 0} (x : A) (old new : List A) → IsOneOf x new → IsOneOf x (old ++ new)
behind_all x [] new inside = inside
behind_all x (y ∷ old) new inside = inr (behind_all x old new inside)

were_sent : (n : Machine) (all sends : List MdsSend) → ((s : MdsSend) → IsOneOf s sends → IsOneOf s all) → AllByRecursion (λ (x : NodeId × List ℕ). IsCarried n all Mds x.0 x.1) (map spelled_send sends)
were_sent n all [] inside = tt
were_sent n all (s ∷ sends) inside = (record { sent = s; inside = inside s (inl refl); is = refl }, were_sent n all sends (λ x its. inside x (inr its)))

-- ---- entries that tell nothing

audit_quiet : (m : MachinesValue) (file : FileId) (mirrors : List Mirror) → telling (map (λ (mirror : Mirror). audit_of m file mirror.id) mirrors) ≡ []
audit_quiet m file [] = refl
audit_quiet m file (mirror ∷ mirrors) = audit_quiet m file mirrors

audit_none : (m : MachinesValue) (file : FileId) (mirrors : List Mirror) → AllByRecursion IsNoPacket (map (λ (mirror : Mirror). audit_of m file mirror.id) mirrors)
audit_none m file [] = tt
audit_none m file (mirror ∷ mirrors) = (tt, audit_none m file mirrors)

audits_quiet : (m : MachinesValue) (file : FileId) (o : Option ServedFile) → telling (audits_of m file o) ≡ []
audits_quiet m file None = refl
audits_quiet m file (Some s) = audit_quiet m file s.file.layout.live

audits_none : (m : MachinesValue) (file : FileId) (o : Option ServedFile) → AllByRecursion IsNoPacket (audits_of m file o)
audits_none m file None = tt
audits_none m file (Some s) = audit_none m file s.file.layout.live

module _ (events : MdsGoesOn) (forms : MdsStaysInForm) (laws : ServerLaws) (sends : (c : ClientValue) (input : ClientInput) → SendsAsUser input c) (entries : (c : ClientValue) (input : ClientInput) → EntersAsUser input c)
    (again : (s : ServerState) (pieces : List Piece) (new : ServerState) → IsProper s → restart_of s pieces ≡ Some new → IsProper new) (boots : List ℕ) where
  -- ---- an act of no machine, or that tells nothing

  quiet : (w : ClusterState) → IsRunOf boots w → (node : NodeId) (more : List Entry) → telling more ≡ [] → AllByRecursion IsNoPacket more → IsRunOf boots (acting node (record { machines = w.machines; entries = more; sends = [] }) w)
  quiet w i node more untold none =
      acts boots w.machines w.journal i node w.sent (record { machines = w.machines; entries = more; sends = [] }) i.machine i.sends (λ s inside. inside) (goes_quiet i.machine more untold) i.servers i.proper i.mds i.forms none tt

  nothing : (w : ClusterState) → IsRunOf boots w → (node : NodeId) → IsRunOf boots (acting node (does_nothing w.machines) w)
  nothing w i node = quiet w i node [] refl tt

  -- ---- clients

  client_did_so : (w : ClusterState) → IsRunOf boots w → (n : ℕ) (s : ClientStep) → IsUserStep s → IsRunOf boots (acting (Client n) (client_did w.machines n s) w)
  client_did_so w i n s user =
      acts boots w.machines w.journal i (Client n) w.sent (client_did w.machines n s) i.machine i.sends (λ x inside. inside) (user_goes i.machine s.entries user.entries) i.servers i.proper i.mds i.forms (users_enter s.entries user.entries)
      (users_send laws.record_of i.machine i.sends n s.sends user.sends)

  client_acts_so : (w : ClusterState) → IsRunOf boots w → (n : ℕ) (rule : ClientValue → ClientStep) → ((c : ClientValue) → IsUserStep (rule c)) → IsRunOf boots (acting (Client n) (client_acts n rule w.machines) w)
  client_acts_so w i n rule user = by_client (nth w.machines.clients n)
    where
      by_client : (o : Option ClientValue) → IsRunOf boots (acting (Client n) (client_at w.machines n rule o) w)
      by_client None = nothing w i (Client n)
      by_client (Some c) = client_did_so w i n (rule c) (user c)

  asks : (w : ClusterState) → IsRunOf boots w → (n : ℕ) (asked : UserRequest) → IsRunOf boots (asking n asked w)
  asks w i n asked = client_acts_so w i n (client_requested asked) (by_input sends entries (Requested asked))

  -- ---- the metadata server

  mds_so : (w : ClusterState) (i : IsRunOf boots w) (e : MdsEvent) → MayComeTo i.machine i.sends e.input → IsRunOf boots (acting Mds (mds_acts (after_event e) w.machines) w)
  mds_so w i e may =
      let s : MdsStep = after_event e w.machines.mds in
      let reached : IsReached i.machine = (boots, i.moves, i.reached) in
      let ranges : AreServersInRange i.machine = λ n x at. in_range x (proper_at w.machines.servers n x i.proper (subst (λ (l : List ServerState). numbered_at l n ≡ Some x) (sym i.servers) at)) in
      let g : GoesOnBy i.machine (after_event e w.machines.mds).entries (after_event e w.machines.mds).mds (i.sends ++ (after_event e w.machines.mds).sends) = events i.machine w.machines.mds i.sends e reached ranges i.mds may in
      let f : StaysInForm (after_event e w.machines.mds).entries (i.sends ++ (after_event e w.machines.mds).sends) = forms w.machines.mds i.sends e i.mds.few (λ call inside. (i.mds.calls call inside).0) i.forms in
      acts boots w.machines w.journal i Mds w.sent (mds_did w.machines (after_event e w.machines.mds)) g.machine (i.sends ++ (after_event e w.machines.mds).sends)
      (λ x inside. in_more x i.sends (after_event e w.machines.mds).sends inside) g.goes (i.servers ∙ sym g.servers) i.proper g.is f.sends f.entries
      (were_sent g.machine (i.sends ++ (after_event e w.machines.mds).sends) (after_event e w.machines.mds).sends (λ x inside. behind_all x i.sends (after_event e w.machines.mds).sends inside))

  -- ---- data servers

  serves_so : (w : ClusterState) (i : IsRunOf boots w) (n : ℕ) (from : NodeId) (s : ServerState) (bytes : List ℕ) → Serves i.machine i.sends n from (outcome_of s bytes)
      → IsRunOf boots (acting (Server n) (server_did w.machines n from (outcome_of s bytes)) w)
  serves_so w i n from s bytes d =
      acts boots w.machines w.journal i (Server n) w.sent (server_did w.machines n from (outcome_of s bytes)) d.at.machine i.sends (λ x inside. inside) d.at.goes
      (ap (λ (l : List ServerState). slice_set l (n - 1) (outcome_of s bytes).server) i.servers ∙ sym d.at.servers) (all_set IsProper w.machines.servers (n - 1) (outcome_of s bytes).server i.proper d.proper)
      (mds_like i.machine d.at.machine w.machines.mds i.sends d.at.like i.mds) i.forms d.none d.sends

  serves : (w : ClusterState) (i : IsRunOf boots w) (n : ℕ) (from : NodeId) (bytes : List ℕ) (s : ServerState) → numbered_at i.machine.servers n ≡ Some s → IsProper s → IsCarried i.machine i.sends from (Server n) bytes
      → Serves i.machine i.sends n from (outcome_of s bytes)
  serves w i n Mds bytes s at proper was =
      serves_mds laws i.machine i.sends n s at proper bytes was.sent was.inside (all_in (IsSentIn i.machine) i.sends was.sent i.mds.sent was.inside) (all_in IsInForm i.sends was.sent i.forms was.inside) was.is
  serves w i n (Server k) bytes s at proper was = absurd was
  serves w i n (Client c) bytes s at proper was = serves_client laws i.machine i.sends n c s bytes at proper was

  server_so : (w : ClusterState) (i : IsRunOf boots w) (n : ℕ) (from : NodeId) (bytes : List ℕ) → IsCarried i.machine i.sends from (Server n) bytes → IsRunOf boots (acting (Server n) (server_acts n from bytes w.machines) w)
  server_so w i n from bytes was = by_server (nth w.machines.servers n) refl
    where
      by_server : (o : Option ServerState) → nth w.machines.servers n ≡ o → IsRunOf boots (acting (Server n) (server_at w.machines n from bytes o) w)
      by_server None is = nothing w i (Server n)
      by_server (Some s) is =
          serves_so w i n from s bytes (serves w i n from bytes s (subst (λ (l : List ServerState). numbered_at l n ≡ Some s) i.servers is) (proper_at w.machines.servers n s i.proper is) was)

  restarts_so : (w : ClusterState) (i : IsRunOf boots w) (n : ℕ) (pieces : List Piece) → IsRunOf boots (acting (Server n) (restarts n pieces w.machines) w)
  restarts_so w i n pieces = by_server (nth w.machines.servers n) refl
    where
      by_start : (s : ServerState) → numbered_at w.machines.servers n ≡ Some s → (o : Option ServerState) → restart_of s pieces ≡ o → IsRunOf boots (acting (Server n) (started w.machines n pieces o) w)
      by_start s at None is = nothing w i (Server n)
      by_start s at (Some new) is =
          let g : GoesAt i.machine n new (entry.Restarted n pieces ∷ []) = starts_again i.machine n pieces s new (subst (λ (l : List ServerState). numbered_at l n ≡ Some s) i.servers at) is in
          acts boots w.machines w.journal i (Server n) w.sent (started w.machines n pieces (Some new)) g.machine i.sends (λ x inside. inside) g.goes (ap (λ (l : List ServerState). slice_set l (n - 1) new) i.servers ∙ sym g.servers)
          (all_set IsProper w.machines.servers (n - 1) new i.proper (again s pieces new (proper_at w.machines.servers n s i.proper at) is)) (mds_like i.machine g.machine w.machines.mds i.sends g.like i.mds) i.forms (tt, tt) tt

      by_server : (o : Option ServerState) → nth w.machines.servers n ≡ o → IsRunOf boots (acting (Server n) (restarts_at w.machines n pieces o) w)
      by_server None is = nothing w i (Server n)
      by_server (Some s) is = by_start s is (restart_of s pieces) refl

  -- ---- packets

  may_come : (mc : Machine) (ss : List MdsSend) (from : NodeId) (bytes : List ℕ) → IsCarried mc ss from Mds bytes → MayComeTo mc ss (Hears from bytes)
  may_come mc ss Mds bytes was = tt
  may_come mc ss (Server k) bytes was = was
  may_come mc ss (Client c) bytes was = tt

  comes : (w : ClusterState) (i : IsRunOf boots w) (from to : NodeId) (bytes : List ℕ) → IsCarried i.machine i.sends from to bytes → IsRunOf boots (acting to (receives w.now from to bytes w.machines) w)
  comes w i from Mds bytes was = mds_so w i (record { now = w.now; input = Hears from bytes }) (may_come i.machine i.sends from bytes was)
  comes w i from (Server n) bytes was = server_so w i n from bytes was
  comes w i from (Client n) bytes was = client_acts_so w i n (client_recorded from bytes w.now) (by_input sends entries (Recorded from bytes w.now))

  note_comes : (w : ClusterState) → IsRunOf boots w → (number : ℕ) (note : PacketNote) → packet_numbered (packets w) number ≡ Some note → IsRunOf boots (packet_comes number (Some note) w)
  note_comes w i number note is =
      let n : IsNoteOf w.journal note = note_of w.journal w.held number note is in
      let j : IsRunOf boots (entering (entry.Delivered number ∷ []) w) = enters boots w.machines w.journal i (entry.Delivered number ∷ []) refl (tt, tt) in
      let was : IsCarried j.machine j.sends note.from note.to n.bytes =
      all_at (IsEntryCarried j.machine j.sends) (w.journal ++ entry.Delivered number ∷ []) note.place (entry.Packet n.number note.from note.to n.bytes) j.packets (still_there w.journal (entry.Delivered number ∷ []) note.place _ n.there) in
      comes (entering (entry.Delivered number ∷ []) w) j note.from note.to (bytes_at_place w.journal note.place) (subst (IsCarried j.machine j.sends note.from note.to) (sym (bytes_there w.journal note n)) was)

  delivers_so : (w : ClusterState) → IsRunOf boots w → (number : ℕ) → IsRunOf boots (delivering number w)
  delivers_so w i number = by_note (packet_numbered (packets w) number) refl
    where
      by_note : (o : Option PacketNote) → packet_numbered (packets w) number ≡ o → IsRunOf boots (packet_comes number o w)
      by_note None is = i
      by_note (Some note) is = note_comes w i number note is

  some_so : (w : ClusterState) → IsRunOf boots w → (o : Option ℕ) → IsRunOf boots (delivering_some o w)
  some_so w i None = i
  some_so w i (Some number) = delivers_so w i number

  -- ---- time

  clients_so : (ns : List ℕ) (w : ClusterState) → IsRunOf boots w → IsRunOf boots (clients_tick ns w)
  clients_so [] w i = i
  clients_so (n ∷ ns) w i = clients_so ns (client_ticks n w) (client_acts_so w i n (client_ticked w.now) (by_input sends entries (Ticked w.now)))

  ticks_so : (w : ClusterState) → IsRunOf boots w → (seconds : ℕ) → IsRunOf boots (ticking seconds w)
  ticks_so w i seconds =
      let later : ClusterState = record (entering (entry.Tick seconds ∷ []) w) { now = w.now + seconds } in
      let ticked : ClusterState = clients_tick (range_with_len 1 (length w.machines.clients)) later in
      let j : IsRunOf boots ticked = clients_so (range_with_len 1 (length w.machines.clients)) later (enters boots w.machines w.journal i (entry.Tick seconds ∷ []) refl (tt, tt)) in
      mds_so ticked j (record { now = ticked.now; input = Ticks }) tt

  times_so : (w : ClusterState) → IsRunOf boots w → (node to : NodeId) → IsRunOf boots (acting node (times_out w.now node to w.machines) w)
  times_so w i Mds to = mds_so w i (record { now = w.now; input = IsTimedOut to None }) tt
  times_so w i (Server n) to = nothing w i (Server n)
  times_so w i (Client n) to = client_acts_so w i n (client_timed_out to) (by_input sends entries (TimeoutOf to))

  -- ---- each event

  pub goes_on : (event : EventValue) (w : ClusterState) → IsRunOf boots w → IsRunOf boots (behind event w)
  goes_on (Deliver bytes) w i = i
  goes_on (DeliverPacket number) w i = delivers_so w i number
  goes_on (DeliverBetween from to n) w i = some_so w i (number_between (packets w) from to n)
  goes_on Flow w i = i
  goes_on (Hold from to) w i = enters boots w.machines w.journal i (entry.Hold from to ∷ []) refl (tt, tt)
  goes_on (Pass from to) w i = enters boots w.machines w.journal i (entry.Pass from to ∷ []) refl (tt, tt)
  goes_on (Timeout node to) w i = times_so w i node to
  goes_on (Tick seconds) w i = ticks_so w i seconds
  goes_on (Open client name) w i = asks w i client (request.Open name)
  goes_on (Write client at bytes) w i = asks w i client (request.Write at bytes)
  goes_on (Through client at bytes) w i = asks w i client (request.Through at bytes)
  goes_on (Fill client at count byte) w i = asks w i client (request.Write at (replicate count byte))
  goes_on (Commit client) w i = asks w i client request.Commit
  goes_on (Read client at count) w i = asks w i client (request.Read at count)
  goes_on (Return client) w i = asks w i client request.Return
  goes_on (Rogue client) w i = client_acts_so w i client (leaves client) (leaves_so sends entries client)
  goes_on (Stray client place at bytes) w i = client_acts_so w i client (goes_astray place at bytes) (astray_so sends entries place at bytes)
  goes_on (Reboot client) w i = client_acts_so w i client _ (anew_so sends entries client _)
  goes_on (Recall file) w i = mds_so w i (record { now = w.now; input = RecallsFile (numbered file) }) tt
  goes_on (Resilver file) w i = mds_so w i (record { now = w.now; input = Resilvers (numbered file) }) tt
  goes_on (Audit file) w i = quiet w i Mds (audits_of w.machines (numbered file) (served w.machines.mds (numbered file))) (audits_quiet w.machines (numbered file) (served w.machines.mds (numbered file))) (audits_none w.machines (numbered file) (served w.machines.mds (numbered file)))
  goes_on (Restart server pieces) w i = restarts_so w i server pieces
