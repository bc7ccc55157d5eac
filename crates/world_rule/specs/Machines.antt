-- The machines of a cluster, and what each does in its part of an event: by its own rule alone, while all others stay as they are.
use Rattle.std.specs.Prelude.{◌≡◌, ℕ, ◌+◌, ◌-◌, ◌==◌, List, [], ◌∷◌, ◌++◌, length, map, take, Option, Some, None, if◌then◌else◌, slice_get, slice_set}
use Rattle.std.specs.List.{range_with_len}
use Rattle.cluster_model.specs.declared.ids.NodeId.{NodeId}
use Rattle.cluster_model.specs.declared.ids.NodeId.TheVariants.{Mds, Server, Client}
use Rattle.cluster_model.specs.declared.ids.FileId.{FileId}
use Rattle.cluster_model.specs.declared.ids.Mirror.{Mirror}
use Rattle.cluster_model.specs.declared.ids.MirrorId.{MirrorId}
use Rattle.cluster_model.specs.declared.entry.Entry.{Entry}
use Rattle.cluster_model.specs.declared.entry.Entry.TheVariants as entry
use Rattle.cluster_model.specs.declared.outbox.Outbox.{Outbox}
use Rattle.cluster_model.specs.declared.piece.Piece.{Piece}
use Rattle.cluster_model.specs.File.{StoredFile, shown}
use Rattle.cluster_model.specs.Server.{ServerState, new_server, restart_of}
use Rattle.ds_files.specs.Stored.{stored_at}
use Rattle.ds_files.specs.Receive.{Outcome, outcome_of}
use Rattle.ds_files.specs.Records.{sent_to}
use Rattle.device_addr.specs.Universal.{AddressValue}
use Rattle.mds_rule.specs.MdsStates.{ServedFile, MdsValue, MdsStep, new_mds, served}
use Rattle.mds_rule.specs.Spelled as mds
use Rattle.mds_rule.specs.Events.{takes_record, takes_timeout}
use Rattle.client_state.specs.declared.request.UserRequest.{UserRequest}
use Rattle.client_state.specs.ClientStates.{ClientValue, fresh_client}
use Rattle.client_state.specs.ClientSends.{ClientStep}
use Rattle.client_state.specs.ClientSends as client
use Rattle.mirror_client.specs.ClientRule.{client_requested, client_recorded, client_timed_out, turned, strays}

-- the metadata server, and data servers and clients by their numbers from 1
pub record MachinesValue : Type 0 where
  pub mds : MdsValue
  pub servers : List ServerState
  pub clients : List ClientValue

-- ---- at first

-- the universal address of data server n is 127.0.0.1.8.n
abbrev pub address_of : ℕ → AddressValue
address_of n = record { host = 127 ∷ 0 ∷ 0 ∷ 1 ∷ []; port = 2048 + n }

-- So many data servers, of which each file is to have so many, and clients. A client's first start has the verifier 1, and its first call
-- the number 1.
abbrev pub new_machines : ℕ → ℕ → ℕ → MachinesValue
new_machines servers mirrors clients = record {
  mds = new_mds (map address_of (range_with_len 1 servers)) mirrors;
  servers = map (λ n. new_server n 1) (range_with_len 1 servers);
  clients = map (λ n. fresh_client n 1 1) (range_with_len 1 clients);
}

-- ---- what one machine does

-- the machines afterwards, what is entered, and the records that this machine sends, each with the one that it goes to
pub record Act : Type 0 where
  pub machines : MachinesValue
  pub entries : List Entry
  pub sends : List (NodeId × List ℕ)

abbrev pub does_nothing : MachinesValue → Act
does_nothing m = record { machines = m; entries = []; sends = [] }

abbrev pub mds_did : MachinesValue → MdsStep → Act
mds_did m s = record { machines = record m { mds = s.mds }; entries = s.entries; sends = map mds.spelled_send s.sends }

abbrev pub mds_acts : (MdsValue → MdsStep) → MachinesValue → Act
mds_acts rule m = mds_did m (rule m.mds)

-- what stands at a number from 1
abbrev pub nth : {X : Type 0} → List X → ℕ → Option X
nth xs n = if n == 0 then None else slice_get xs (n - 1)

abbrev pub client_did : MachinesValue → ℕ → ClientStep → Act
client_did m n s = record { machines = record m { clients = slice_set m.clients (n - 1) s.client }; entries = s.entries; sends = map client.spelled_send s.sends }

abbrev pub client_at : MachinesValue → ℕ → (ClientValue → ClientStep) → Option ClientValue → Act
client_at m n rule None = does_nothing m
client_at m n rule (Some c) = client_did m n (rule c)

abbrev pub client_acts : ℕ → (ClientValue → ClientStep) → MachinesValue → Act
client_acts n rule m = client_at m n rule (nth m.clients n)

abbrev pub server_did : MachinesValue → ℕ → NodeId → Outcome → Act
server_did m n from o = record { machines = record m { servers = slice_set m.servers (n - 1) o.server }; entries = o.entries; sends = sent_to from o.reply }

abbrev pub server_at : MachinesValue → ℕ → NodeId → List ℕ → Option ServerState → Act
server_at m n from bytes None = does_nothing m
server_at m n from bytes (Some s) = server_did m n from (outcome_of s bytes)

abbrev pub server_acts : ℕ → NodeId → List ℕ → MachinesValue → Act
server_acts n from bytes m = server_at m n from bytes (nth m.servers n)

-- ---- what comes to it

-- a record from one machine comes to another
abbrev pub receives : ℕ → NodeId → NodeId → List ℕ → MachinesValue → Act
receives now from Mds bytes m = mds_acts (λ s. takes_record now s from bytes) m
receives now from (Server n) bytes m = server_acts n from bytes m
receives now from (Client n) bytes m = client_acts n (client_recorded from bytes now) m

-- a call of one machine to another times out, and of several the one that was sent first; a data server makes none
abbrev pub times_out : ℕ → NodeId → NodeId → MachinesValue → Act
times_out now Mds to m = mds_acts (λ s. takes_timeout now s to None) m
times_out now (Server n) to m = does_nothing m
times_out now (Client n) to m = client_acts n (client_timed_out to) m

-- a user asks a client
abbrev pub is_asked : ℕ → UserRequest → MachinesValue → Act
is_asked n request m = client_acts n (client_requested request) m

-- a client leaves the protocol, once
abbrev pub leaves : ℕ → ClientValue → ClientStep
leaves n c = if c.has_left then client.sends_none c else record { client = turned c; entries = entry.Turned n ∷ []; sends = [] }

-- one that left writes all the same
abbrev pub goes_astray : ℕ → ℕ → List ℕ → ClientValue → ClientStep
goes_astray place at bytes c = if c.has_left then strays c.file c.layout place at bytes c else client.sends_none c

-- a client starts anew, with this verifier; its calls are numbered on. One that left stays as it is.
abbrev pub starts_anew : ℕ → ℕ → ClientValue → ClientStep
starts_anew n verifier c = if c.has_left then client.sends_none c else record { client = fresh_client n verifier c.next_xid; entries = entry.Rebooted n ∷ []; sends = [] }

-- a data server starts again with these pieces of its pending writes; at its last boot nothing happens
abbrev pub started : MachinesValue → ℕ → List Piece → Option ServerState → Act
started m n pieces None = does_nothing m
started m n pieces (Some s) = record { machines = record m { servers = slice_set m.servers (n - 1) s }; entries = entry.Restarted n pieces ∷ []; sends = [] }

abbrev pub restarts_at : MachinesValue → ℕ → List Piece → Option ServerState → Act
restarts_at m n pieces None = does_nothing m
restarts_at m n pieces (Some s) = started m n pieces (restart_of s pieces)

abbrev pub restarts : ℕ → List Piece → MachinesValue → Act
restarts n pieces m = restarts_at m n pieces (nth m.servers n)

-- ---- what stands in a file: of each live mirror how many bytes it shows, and the first 64 of them

abbrev pub shown_or_none : Option StoredFile → List ℕ
shown_or_none None = []
shown_or_none (Some file) = shown file

abbrev pub shown_by : Option ServerState → ℕ → List ℕ
shown_by None fileid = []
shown_by (Some server) fileid = shown_or_none (stored_at server.files fileid)

abbrev pub audit_of : MachinesValue → FileId → MirrorId → Entry
audit_of m file id = let bytes = shown_by (nth m.servers id.server) id.fileid in entry.Audit file id (length bytes) (take 64 bytes)

abbrev pub audits_of : MachinesValue → FileId → Option ServedFile → List Entry
audits_of m file None = []
audits_of m file (Some s) = map (λ (mirror : Mirror). audit_of m file mirror.id) s.file.layout.live

abbrev pub audits : FileId → MachinesValue → Act
audits file m = record { machines = m; entries = audits_of m file (served m.mds file); sends = [] }

-- ---- the code

-- it did this, and what it entered and sent stands behind what there was
pub record HasActed (a : Act) (old : Outbox) (n : MachinesValue) (new : Outbox) : Type 0 where
  pub machines : n ≡ a.machines
  pub entries : new.entries.items ≡ old.entries.items ++ a.entries
  pub sends : new.sends.items ≡ old.sends.items ++ a.sends
