-- A world of a cluster beside a bound run of the cluster's machine (RFC 8435, sections 2.2 and 8).
use Rattle.std.specs.Prelude.{◌≡◌, ℕ, ◌<◌, ◌≤◌, ◌^◌, List, [], replicate}
use Rattle.std.specs.List.{AllByRecursion}
use Rattle.cluster_model.specs.declared.ids.FileId.{FileId}
use Rattle.cluster_model.specs.declared.entry.Entry.{Entry}
use Rattle.cluster_laws.specs.Machine.{Machine, Move, new_machine, machine_after, journal_of}
use Rattle.cluster_laws.specs.FenceLaw.{new_servers}
use Rattle.cluster_laws.specs.Holders.{AreBound}
use Rattle.cluster_laws.specs.Telling.{telling}
use Rattle.mds_rule.specs.MdsStates.{MdsSend, MdsValue}
use Rattle.mds_walk.proofs.Lists.{AllOf}
use Rattle.mds_forms.specs.Forms.{IsInForm}
use Rattle.mds_moves.specs.MdsMoves.{IsMdsOf}
use Rattle.mds_moves.specs.MdsBinds.{MdsHasOwnWrites}
use Rattle.proper_servers.specs.ProperServers.{IsProper}
use Rattle.cluster_model.specs.Server.{ServerState}
use Rattle.cluster_model.specs.Event.{EventValue}
use Rattle.cluster_laws.specs.Agreement.{AgreesAlways}
use Rattle.device_addr.specs.Universal.{AddressValue}
use Rattle.mds_walk.specs.MdsRuns.{MdsEvent, Ticks, after_event, mds_run}
use Rattle.world_rule.specs.ClusterWorlds.{ClusterState, new_cluster, behind}
use Rattle.holder_parts.specs.HolderParts.{EndsOwnNext, HoldersKeepParts}
use Rattle.holder_parts.specs.HeldOwners.{DoHoldersOwn}
use Rattle.world_moves.specs.WorldMoves.{IsEntryCarried}
use Rattle.bound_worlds.specs.MatchedPackets.{Stage, entries_of, packets_of, AreMatched}

-- The journal tells what a bound run of the machine tells, which has these data servers, this metadata server with its own writes, and the
-- journal's packets.
pub record IsBoundRun (boots : List ℕ) (servers : List ServerState) (mds : MdsValue) (journal : List Entry) : Type 0 where
  pub moves : List Move
  pub machine : Machine
  pub reached : machine_after (new_machine (new_servers 1 boots)) moves ≡ machine
  pub told : journal_of (new_machine (new_servers 1 boots)) moves ≡ telling journal
  pub bound : AreBound boots moves
  pub servers_are : servers ≡ machine.servers
  pub proper : AllByRecursion IsProper servers
  pub sends : List MdsSend
  pub mds_is : IsMdsOf machine mds sends
  pub own : MdsHasOwnWrites machine.packets (telling journal) mds sends
  pub forms : AllOf IsInForm sends
  pub carried : AllByRecursion (IsEntryCarried machine sends) journal
  pub stages : List Stage
  pub stages_are : entries_of stages ≡ journal
  pub brought : packets_of stages ≡ machine.packets
  pub matched : AreMatched [] 0 stages

abbrev pub IsBoundRunOf : List ℕ → ClusterState → Type 0
IsBoundRunOf boots w = IsBoundRun boots w.machines.servers w.machines.mds w.journal

-- what an event asks: that holders keep their part in the journal behind it, and that no tick of the metadata server begins with the end of its own
-- write
abbrev pub BeginsOtherwise : List Entry → Type 0
BeginsOtherwise entries = (file : FileId) (uid : ℕ) → EndsOwnNext entries file uid → ⊥

pub record MayHappen (event : EventValue) (w : ClusterState) : Type 0 where
  pub parts : HoldersKeepParts (behind event w).journal
  pub other : (now : ℕ) → BeginsOtherwise (after_event (record { now = now; input = Ticks }) w.machines.mds).entries

-- ---- what holds of it

-- a new world is one, and each event that may happen keeps it so
abbrev pub NewIsBoundRun : Type 0
NewIsBoundRun = (servers mirrors clients : ℕ) → servers < 2 ^ 32 → 1 ≤ mirrors → mirrors ≤ 4 → mirrors ≤ servers → IsBoundRunOf (replicate servers 1) (new_cluster servers mirrors clients)

abbrev pub StaysBoundRun : Type 0
StaysBoundRun = (boots : List ℕ) (event : EventValue) (w : ClusterState) → IsBoundRunOf boots w → MayHappen event w → IsBoundRunOf boots (behind event w)

-- no event of a metadata server begins with the end of its own write
abbrev pub EventsBeginOtherwise : Type 0
EventsBeginOtherwise = (servers : List AddressValue) (mirrors : ℕ) (events : List MdsEvent) (e : MdsEvent) → BeginsOtherwise (after_event e (mds_run servers mirrors events).mds).entries

-- each file of it agrees always, and the mirrors of a period belong to its uid until it ends
abbrev pub BoundRunsAgree : Type 0
BoundRunsAgree = (boots : List ℕ) (w : ClusterState) → IsBoundRunOf boots w → (f : FileId) → AgreesAlways w.journal f

abbrev pub BoundRunsOwn : Type 0
BoundRunsOwn = (boots : List ℕ) (w : ClusterState) → IsBoundRunOf boots w → DoHoldersOwn w.journal
