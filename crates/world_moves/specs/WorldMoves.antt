-- A world of a cluster beside a run of the cluster's machine: the journal tells what the run tells, the data servers and the metadata server
-- are the machine's, and each packet of the journal is what the one who sent it may send.
use Rattle.std.specs.Prelude.{◌≡◌, ℕ, List, Some}
use Rattle.std.specs.List.{AllByRecursion}
use Rattle.cluster_model.specs.declared.ids.NodeId.{NodeId}
use Rattle.cluster_model.specs.declared.ids.NodeId.TheVariants.{Mds, Server, Client}
use Rattle.cluster_model.specs.declared.entry.Entry.{Entry}
use Rattle.cluster_model.specs.declared.entry.Entry.TheVariants.{Packet}
use Rattle.cluster_model.specs.Server.{ServerState}
use Rattle.cluster_model.specs.GuardLaws.{IsTold}
use Rattle.cluster_model.specs.Members.{IsOneOf}
use Rattle.cluster_laws.specs.Machine.{Machine, Move, new_machine, numbered_at, machine_after, journal_of}
use Rattle.cluster_laws.specs.FenceLaw.{new_servers}
use Rattle.cluster_laws.specs.Telling.{telling}
use Rattle.mds_rule.specs.MdsStates.{MdsSend}
use Rattle.mds_rule.specs.Spelled.{spelled_send}
use Rattle.mds_walk.proofs.Lists.{AllOf}
use Rattle.mds_forms.specs.Forms.{IsInForm}
use Rattle.mds_moves.specs.MdsMoves.{IsMdsOf, MayComeFrom}
use Rattle.user_records.specs.UserRecords.{IsUserRecord}
use Rattle.proper_servers.specs.ProperServers.{IsProper}
use Rattle.world_rule.specs.Machines.{MachinesValue}
use Rattle.world_rule.specs.ClusterWorlds.{ClusterState}

-- ---- what a packet is, by who sent it to whom

-- the metadata server sent it
pub record WasSent (ss : List MdsSend) (to : NodeId) (bytes : List ℕ) : Type 0 where
  pub sent : MdsSend
  pub inside : IsOneOf sent ss
  pub is : spelled_send sent ≡ (to, bytes)

-- a data server replies to the metadata server and to clients, and not to its like
abbrev pub IsFromServer : Machine → List MdsSend → ℕ → NodeId → List ℕ → Type 0
IsFromServer mc ss n Mds bytes = MayComeFrom mc ss n bytes
IsFromServer mc ss n (Server k) bytes = ⊥
IsFromServer mc ss n (Client c) bytes = Unit {0}

-- a client sends a data server what a user may send
abbrev pub IsFromClient : NodeId → List ℕ → Type 0
IsFromClient Mds bytes = Unit {0}
IsFromClient (Server n) bytes = IsUserRecord bytes
IsFromClient (Client c) bytes = Unit {0}

abbrev pub IsCarried : Machine → List MdsSend → NodeId → NodeId → List ℕ → Type 0
IsCarried mc ss Mds to bytes = WasSent ss to bytes
IsCarried mc ss (Server n) to bytes = IsFromServer mc ss n to bytes
IsCarried mc ss (Client c) to bytes = IsFromClient to bytes

abbrev pub IsEntryCarried : Machine → List MdsSend → Entry → Type 0
IsEntryCarried mc ss (Packet number from to bytes) = IsCarried mc ss from to bytes
IsEntryCarried mc ss e = Unit {0}

-- ---- a world, and a run

-- a journal tells what a run of the machine tells, which has its servers, its metadata server and its packets
pub record IsMachineRun (boots : List ℕ) (machines : MachinesValue) (journal : List Entry) : Type 0 where
  pub moves : List Move
  pub machine : Machine
  pub reached : machine_after (new_machine (new_servers 1 boots)) moves ≡ machine
  pub told : telling journal ≡ telling (journal_of (new_machine (new_servers 1 boots)) moves)
  pub servers : machines.servers ≡ machine.servers
  pub proper : AllByRecursion IsProper machines.servers
  pub sends : List MdsSend
  pub mds : IsMdsOf machine machines.mds sends
  pub forms : AllOf IsInForm sends
  pub packets : AllByRecursion (IsEntryCarried machine sends) journal

abbrev pub IsRunOf : List ℕ → ClusterState → Type 0
IsRunOf boots w = IsMachineRun boots w.machines w.journal

-- what the journal says of the bytes, the pending writes and the owner of each mirror is so at its server
abbrev pub TellsTruth : ClusterState → Type 0
TellsTruth w = (n : ℕ) (s : ServerState) → numbered_at w.machines.servers n ≡ Some s → (s.number ≡ n) × IsTold s w.journal
