-- The world of a cluster: its machines, the moment, which packets are held, and the journal. One event is one line of a script, or one
-- delivery of a flow.
use Rattle.std.specs.Prelude.{ℕ, ◌+◌, ◌-◌, ◌%◌, ◌^◌, Bool, true, false, not, List, [], ◌∷◌, ◌++◌, length, replicate, Option, Some, None, if◌then◌else◌, slice_set}
use Rattle.std.specs.List.{range_with_len}
use Rattle.cluster_model.specs.declared.ids.NodeId.{NodeId}
use Rattle.cluster_model.specs.declared.ids.NodeId.TheVariants.{Mds, Server, Client}
use Rattle.cluster_model.specs.declared.entry.Entry.{Entry}
use Rattle.cluster_model.specs.declared.entry.Entry.TheVariants as entry
use Rattle.cluster_model.specs.Event.{EventValue, Deliver, DeliverPacket, DeliverBetween, Flow, Hold, Pass, Timeout, Tick, Open, Write, Through, Fill, Commit, Read, Return, Rogue, Stray, Reboot, Recall, Resilver, Audit, Restart}
use Rattle.client_state.specs.declared.request.UserRequest.{UserRequest}
use Rattle.client_state.specs.declared.request.UserRequest.TheVariants as request
use Rattle.client_state.specs.ClientStates.{ClientValue}
use Rattle.mirror_client.specs.ClientRule.{client_ticked}
use Rattle.mds_rule.specs.MdsStates.{numbered}
use Rattle.mds_rule.specs.Events.{takes_tick, takes_recall, takes_resilver}
use Rattle.packet_table.specs.declared.note.PacketNote.{PacketNote}
use Rattle.packet_table.specs.Packets.{PacketsValue, packet_numbered, number_between, after_hold, after_pass}
use Rattle.world_rule.specs.Machines.{MachinesValue, Act, new_machines, nth, mds_acts, client_acts, receives, times_out, is_asked, leaves, goes_astray, starts_anew, restarts, audits}
use Rattle.world_journal.specs.Journal.{is_within}
use Rattle.world_journal.specs.SentPackets.{packets_of}
use Rattle.world_rule.specs.Sent.{packets_in, bytes_at_place}

-- how many clients there are is seen in the machines; a client's verifier tells each start of it from the next (RFC 8881, section 18.35)
pub record ClusterState : Type 0 where
  pub machines : MachinesValue
  pub verifiers : List ℕ
  -- in seconds
  pub now : ℕ
  pub held : List (NodeId × NodeId)
  -- how many packets were sent so far
  pub sent : ℕ
  pub journal : List Entry

-- so many data servers, of which each file is to have so many, and clients, before any event
abbrev pub new_cluster : ℕ → ℕ → ℕ → ClusterState
new_cluster servers mirrors clients = record {
  machines = new_machines servers mirrors clients;
  verifiers = replicate clients 1;
  now = 0;
  held = [];
  sent = 0;
  journal = [];
}

-- ---- what is entered

abbrev pub entering : List Entry → ClusterState → ClusterState
entering entries w = record w { journal = w.journal ++ entries }

abbrev pub packets : ClusterState → PacketsValue
packets w = packets_in w.journal w.held

-- A machine's part of an event: its entries come first, and then a packet for each record that it sends, with the next number.
abbrev pub acting : NodeId → Act → ClusterState → ClusterState
acting node a w =
    record w { machines = a.machines; sent = w.sent + length a.sends; journal = w.journal ++ (a.entries ++ packets_of node w.sent a.sends) }

-- ---- packets

-- the packet of this number comes, for the first time or again
abbrev pub packet_comes : ℕ → Option PacketNote → ClusterState → ClusterState
packet_comes number None w = w
packet_comes number (Some note) w =
    let came = entering (entry.Delivered number ∷ []) w in
    acting note.to (receives w.now note.from note.to (bytes_at_place w.journal note.place) w.machines) came

abbrev pub delivering : ℕ → ClusterState → ClusterState
delivering number w = packet_comes number (packet_numbered (packets w) number) w

abbrev pub delivering_some : Option ℕ → ClusterState → ClusterState
delivering_some None w = w
delivering_some (Some number) w = delivering number w

-- ---- time: each client in order, and then the metadata server

abbrev pub client_ticks : ℕ → ClusterState → ClusterState
client_ticks n w = acting (Client n) (client_acts n (client_ticked w.now) w.machines) w

abbrev pub clients_tick : List ℕ → ClusterState → ClusterState
clients_tick [] w = w
clients_tick (n ∷ ns) w = clients_tick ns (client_ticks n w)

abbrev pub mds_ticks : ClusterState → ClusterState
mds_ticks w = acting Mds (mds_acts (takes_tick w.now) w.machines) w

abbrev pub ticking : ℕ → ClusterState → ClusterState
ticking seconds w =
    let later = record (entering (entry.Tick seconds ∷ []) w) { now = w.now + seconds } in
    mds_ticks (clients_tick (range_with_len 1 (length w.machines.clients)) later)

-- ---- users

abbrev pub asking : ℕ → UserRequest → ClusterState → ClusterState
asking n asked w = acting (Client n) (is_asked n asked w.machines) w

-- the verifier of the next start, a number of 64 bits
abbrev pub verifier_after : Option ℕ → ℕ
verifier_after None = 0
verifier_after (Some verifier) = (verifier + 1) % (2 ^ 64)

-- a client that is there and has not left starts anew
abbrev pub may_start : Option ClientValue → Bool
may_start None = false
may_start (Some c) = not c.has_left

abbrev pub with_verifier : ℕ → ℕ → Bool → List ℕ → List ℕ
with_verifier n verifier starts verifiers = if starts then slice_set verifiers (n - 1) verifier else verifiers

abbrev pub rebooting : ℕ → ClusterState → ClusterState
rebooting n w =
    let verifier = verifier_after (nth w.verifiers n) in
    record (acting (Client n) (client_acts n (starts_anew n verifier) w.machines) w) { verifiers = with_verifier n verifier (may_start (nth w.machines.clients n)) w.verifiers }

-- ---- one event that is no flow

abbrev pub behind : EventValue → ClusterState → ClusterState
behind (Deliver bytes) w = w
behind (DeliverPacket number) w = delivering number w
behind (DeliverBetween from to n) w = delivering_some (number_between (packets w) from to n) w
behind Flow w = w
behind (Hold from to) w = record (entering (entry.Hold from to ∷ []) w) { held = (after_hold from to (packets w)).held }
behind (Pass from to) w = record (entering (entry.Pass from to ∷ []) w) { held = (after_pass from to (packets w)).held }
behind (Timeout node to) w = acting node (times_out w.now node to w.machines) w
behind (Tick seconds) w = ticking seconds w
behind (Open client name) w = asking client (request.Open name) w
behind (Write client at bytes) w = asking client (request.Write at bytes) w
behind (Through client at bytes) w = asking client (request.Through at bytes) w
behind (Fill client at count byte) w = asking client (request.Write at (replicate count byte)) w
behind (Commit client) w = asking client request.Commit w
behind (Read client at count) w = asking client (request.Read at count) w
behind (Return client) w = asking client request.Return w
behind (Rogue client) w = acting (Client client) (client_acts client (leaves client) w.machines) w
behind (Stray client place at bytes) w = acting (Client client) (client_acts client (goes_astray place at bytes) w.machines) w
behind (Reboot client) w = rebooting client w
behind (Recall file) w = acting Mds (mds_acts (λ m. takes_recall w.now m (numbered file)) w.machines) w
behind (Resilver file) w = acting Mds (mds_acts (λ m. takes_resilver m (numbered file)) w.machines) w
behind (Audit file) w = acting Mds (audits (numbered file) w.machines) w
behind (Restart server pieces) w = acting (Server server) (restarts server pieces w.machines) w

-- None is an event with which the journal would pass a limit: it does not happen.
abbrev pub within_limits : ClusterState → Option ClusterState
within_limits w = if is_within w.journal then Some w else None

abbrev pub cluster_step : ClusterState → EventValue → Option ClusterState
cluster_step w event = within_limits (behind event w)
