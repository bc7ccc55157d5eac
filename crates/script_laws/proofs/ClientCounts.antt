-- A cluster has as many clients and data servers behind each event as before.
use Rattle.std.proofs.Common.{◌≡◌, ℕ, ◌-◌, List, [], ◌∷◌, length, Option, Some, None, refl, ◌∙◌}
use Rattle.std.specs.Prelude.{slice_set}
use Rattle.std.specs.List.{range_with_len}
use Rattle.std.proofs.lemmas.List.{length-set}
use Rattle.std.proofs.lemmas.List.FromFn.{length-map-range_with_len}
use Rattle.cluster_model.specs.declared.ids.NodeId.{NodeId}
use Rattle.cluster_model.specs.declared.ids.NodeId.TheVariants.{Mds, Server, Client}
use Rattle.cluster_model.specs.declared.piece.Piece.{Piece}
use Rattle.cluster_model.specs.Event.{EventValue, Deliver, DeliverPacket, DeliverBetween, Flow, Hold, Pass, Timeout, Tick, Open, Write, Through, Fill, Commit, Read, Return, Rogue, Stray, Reboot, Recall, Resilver, Audit, Restart}
use Rattle.cluster_model.specs.Server.{ServerState, new_server, restart_of}
use Rattle.ds_files.specs.Receive.{outcome_of}
use Rattle.client_state.specs.ClientStates.{ClientValue, fresh_client}
use Rattle.client_state.specs.ClientSends.{ClientStep}
use Rattle.mirror_client.specs.ClientRule.{client_requested, client_recorded, client_timed_out, client_ticked}
use Rattle.packet_table.specs.declared.note.PacketNote.{PacketNote}
use Rattle.packet_table.specs.Packets.{packet_numbered, number_between}
use Rattle.world_rule.specs.Machines.{MachinesValue, Act, nth, client_at, server_at, started, restarts_at, receives, times_out, leaves, goes_astray, starts_anew}
use Rattle.world_rule.specs.ClusterWorlds.{ClusterState, packets, new_cluster, packet_comes, delivering_some, client_ticks, clients_tick, behind, verifier_after}

-- as many as these machines have
abbrev CountsAs : MachinesValue → Act → Type 0
CountsAs m a = (length a.machines.clients ≡ length m.clients) × (length a.machines.servers ≡ length m.servers)

set_length : {A : Type 0} (xs : List A) (place : ℕ) (x : A) → length (slice_set xs place x) ≡ length xs
set_length xs place x = length-set xs place x

client_counts : (m : MachinesValue) (n : ℕ) (rule : ClientValue → ClientStep) (o : Option ClientValue) → CountsAs m (client_at m n rule o)
client_counts m n rule None = (refl, refl)
client_counts m n rule (Some c) = (set_length m.clients (n - 1) (rule c).client, refl)

server_counts : (m : MachinesValue) (n : ℕ) (from : NodeId) (bytes : List ℕ) (o : Option ServerState) → CountsAs m (server_at m n from bytes o)
server_counts m n from bytes None = (refl, refl)
server_counts m n from bytes (Some s) = (refl, set_length m.servers (n - 1) (outcome_of s bytes).server)

received_counts : (now : ℕ) (from to : NodeId) (bytes : List ℕ) (m : MachinesValue) → CountsAs m (receives now from to bytes m)
received_counts now from Mds bytes m = (refl, refl)
received_counts now from (Server n) bytes m = server_counts m n from bytes (nth m.servers n)
received_counts now from (Client n) bytes m = client_counts m n (client_recorded from bytes now) (nth m.clients n)

late_counts : (now : ℕ) (node to : NodeId) (m : MachinesValue) → CountsAs m (times_out now node to m)
late_counts now Mds to m = (refl, refl)
late_counts now (Server n) to m = (refl, refl)
late_counts now (Client n) to m = client_counts m n (client_timed_out to) (nth m.clients n)

started_counts : (m : MachinesValue) (n : ℕ) (pieces : List Piece) (o : Option ServerState) → CountsAs m (started m n pieces o)
started_counts m n pieces None = (refl, refl)
started_counts m n pieces (Some s) = (refl, set_length m.servers (n - 1) s)

restart_counts : (m : MachinesValue) (n : ℕ) (pieces : List Piece) (o : Option ServerState) → CountsAs m (restarts_at m n pieces o)
restart_counts m n pieces None = (refl, refl)
restart_counts m n pieces (Some s) = started_counts m n pieces (restart_of s pieces)

-- as many as a world has
abbrev Counts : ClusterState → ClusterState → Type 0
Counts w next = (length next.machines.clients ≡ length w.machines.clients) × (length next.machines.servers ≡ length w.machines.servers)

comes_count : (number : ℕ) (o : Option PacketNote) (w : ClusterState) → Counts w (packet_comes number o w)
comes_count number None w = (refl, refl)
comes_count number (Some note) w = received_counts w.now note.from note.to _ w.machines

some_count : (o : Option ℕ) (w : ClusterState) → Counts w (delivering_some o w)
some_count None w = (refl, refl)
some_count (Some number) w = comes_count number (packet_numbered (packets w) number) w

ticks_count : (ns : List ℕ) (w : ClusterState) → Counts w (clients_tick ns w)
ticks_count [] w = (refl, refl)
ticks_count (n ∷ ns) w = both_on (ticks_count ns (client_ticks n w)) (client_counts w.machines n (client_ticked w.now) (nth w.machines.clients n))
  where
    both_on : {a b c d e f : ℕ} → (a ≡ b) × (d ≡ e) → (b ≡ c) × (e ≡ f) → (a ≡ c) × (d ≡ f)
    both_on first second = (first.0 ∙ second.0, first.1 ∙ second.1)

pub counts_still : (event : EventValue) (w : ClusterState) → Counts w (behind event w)
counts_still (Deliver bytes) w = (refl, refl)
counts_still (DeliverPacket number) w = comes_count number (packet_numbered (packets w) number) w
counts_still (DeliverBetween from to n) w = some_count (number_between (packets w) from to n) w
counts_still Flow w = (refl, refl)
counts_still (Hold from to) w = (refl, refl)
counts_still (Pass from to) w = (refl, refl)
counts_still (Timeout node to) w = late_counts w.now node to w.machines
counts_still (Tick seconds) w = ticks_count (range_with_len 1 (length w.machines.clients)) _
counts_still (Open client name) w = client_counts w.machines client (client_requested _) (nth w.machines.clients client)
counts_still (Write client at bytes) w = client_counts w.machines client (client_requested _) (nth w.machines.clients client)
counts_still (Through client at bytes) w = client_counts w.machines client (client_requested _) (nth w.machines.clients client)
counts_still (Fill client at count byte) w = client_counts w.machines client (client_requested _) (nth w.machines.clients client)
counts_still (Commit client) w = client_counts w.machines client (client_requested _) (nth w.machines.clients client)
counts_still (Read client at count) w = client_counts w.machines client (client_requested _) (nth w.machines.clients client)
counts_still (Return client) w = client_counts w.machines client (client_requested _) (nth w.machines.clients client)
counts_still (Rogue client) w = client_counts w.machines client (leaves client) (nth w.machines.clients client)
counts_still (Stray client place at bytes) w = client_counts w.machines client (goes_astray place at bytes) (nth w.machines.clients client)
counts_still (Reboot client) w = client_counts w.machines client (starts_anew client (verifier_after (nth w.verifiers client))) (nth w.machines.clients client)
counts_still (Recall file) w = (refl, refl)
counts_still (Resilver file) w = (refl, refl)
counts_still (Audit file) w = (refl, refl)
counts_still (Restart server pieces) w = restart_counts w.machines server pieces (nth w.machines.servers server)

-- a new one has as many as it was made with
pub new_count : (servers mirrors clients : ℕ) → (length (new_cluster servers mirrors clients).machines.clients ≡ clients) × (length (new_cluster servers mirrors clients).machines.servers ≡ servers)
new_count servers mirrors clients = (length-map-range_with_len (λ n. fresh_client n 1 1) 1 clients, length-map-range_with_len (λ n. new_server n 1) 1 servers)
