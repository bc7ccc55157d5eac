-- The world of a cluster in the code: what an event did to it.
use Rattle.std.specs.Prelude.{◌≡◌, ℕ, ◌+◌, ◌*◌, ◌<◌, ◌≤◌, Bool, true, false, List, ◌++◌, length, Option, Some, None, Result, Ok, Err}
use Rattle.std.specs.List.{range_with_len}
use Rattle.cluster_model.specs.declared.limits.TheConstants.{PIECE_SIZE}
use Rattle.cluster_model.specs.declared.ids.NodeId.{NodeId}
use Rattle.cluster_model.specs.declared.entry.Entry.{Entry}
use Rattle.cluster_model.specs.Event.{EventValue, Open, Write, Through, Fill, Stray}
use Rattle.world_journal.specs.declared.fault.WorldFault.{WorldFault}
use Rattle.world_journal.specs.declared.fault.WorldFault.TheVariants.{Limit, NoMemory}
use Rattle.world_journal.specs.declared.journal.TheConstants.{MAX_ENTRIES}
use Rattle.world_journal.specs.Journal.{is_within}
use Rattle.world_journal.specs.SentPackets.{packets_of}
use Rattle.packet_table.specs.Packets.{PacketsValue}
use Rattle.world_rule.specs.Machines.{MachinesValue}
use Rattle.cluster_world.specs.Drafts.{DraftValue}
use Rattle.world_rule.specs.Sent.{packets_in}
use Rattle.world_rule.specs.ClusterWorlds.{ClusterState, delivering, clients_tick, mds_ticks}

-- ---- what an event asks of who lets it happen: the ranges of a script

abbrev pub IsOfScript : EventValue → Type 0
IsOfScript (Open client name) = length name ≤ 255
IsOfScript (Write client at bytes) = (1 ≤ length bytes) × (length bytes ≤ PIECE_SIZE)
IsOfScript (Through client at bytes) = (1 ≤ length bytes) × (length bytes ≤ PIECE_SIZE)
IsOfScript (Fill client at count byte) = (1 ≤ count) × (count ≤ PIECE_SIZE)
IsOfScript (Stray client place at bytes) = length bytes ≤ PIECE_SIZE
IsOfScript event = Unit {0}

-- ---- a world that is not spent, in the code

-- the world, and the packets as they are found
pub record StageValue : Type 0 where
  pub world : ClusterState
  pub packets : PacketsValue

-- the journal is within its limits, each packet is an entry of it, and time passed by its entries
pub record KeepsBounds (sent now : ℕ) (journal : List Entry) : Type 0 where
  pub within : is_within journal ≡ true
  pub sent_few : sent ≤ length journal
  pub early : now ≤ 4294967296 * length journal

-- the packets are those of the journal
abbrev pub IsNoted : StageValue → Type 0
IsNoted s = s.packets ≡ packets_in s.world.journal s.world.held

-- What it comes to that it is to become this world: it has; it would pass a limit; or memory was wanted. In the last two its journal is as
-- it was, and it is not to be used again.
abbrev pub StageBecomes : StageValue → ClusterState → Result (Unit {0}) WorldFault → StageValue → Type 0
StageBecomes old new (Ok done) s = (is_within new.journal ≡ true) × (s.world ≡ new) × IsNoted s
StageBecomes old new (Err (Limit count)) s = (is_within new.journal ≡ false) × (count ≡ length old.world.journal) × (s.world.journal ≡ old.world.journal)
StageBecomes old new (Err NoMemory) s = s.world.journal ≡ old.world.journal

-- a machine's part was the whole event, after which the machines are these already
abbrev pub acted : NodeId → List Entry → List (NodeId × List ℕ) → ClusterState → ClusterState
acted node entries sends w = record w { sent = w.sent + length sends; journal = w.journal ++ (entries ++ packets_of node w.sent sends) }

-- the world with the entries of an event so far, at this moment
abbrev pub drafted : ClusterState → ℕ → DraftValue → ClusterState
drafted w now d = record w { now = now; sent = d.sent; journal = w.journal ++ d.entries }

-- the same, where the machines are these
abbrev pub drafted_with : ClusterState → MachinesValue → ℕ → DraftValue → ClusterState
drafted_with w m now d = record w { machines = m; now = now; sent = d.sent; journal = w.journal ++ d.entries }

-- What a part of an event, at this moment, came to that is drafted: in each world that the draft is behind the part is what the draft and
-- the machines say; more entries than a journal has would stand in each; or memory was wanted.
abbrev pub Drafts : (ClusterState → ClusterState) → ℕ → MachinesValue → DraftValue → Result (Unit {0}) WorldFault → MachinesValue → DraftValue → Type 0
Drafts part now m d (Ok done) m' d' = ((w : ClusterState) → drafted_with w m' now d' ≡ part (drafted_with w m now d)) × (d'.begun ≡ d.begun)
Drafts part now m d (Err (Limit count)) m' d' = ((w : ClusterState) → length w.journal ≡ d.begun → MAX_ENTRIES < length (part (drafted_with w m now d)).journal) × (count ≡ d.begun)
Drafts part now m d (Err NoMemory) m' d' = Unit {0}

-- each of so many clients in order, and then the metadata server
abbrev pub all_tick : ℕ → ClusterState → ClusterState
all_tick count w = mds_ticks (clients_tick (range_with_len 1 count) w)

-- ---- a world, and what it is spent by

pub record ClusterValue : Type 0 where
  pub world : ClusterState
  pub packets : PacketsValue
  pub spent : Option WorldFault

abbrev pub AreNoted : Option WorldFault → StageValue → Type 0
AreNoted None s = IsNoted s
AreNoted (Some fault) s = Unit {0}

-- it happened
pub record Happened (new : ClusterState) (value : ClusterValue) : Type 0 where
  pub within : is_within new.journal ≡ true
  pub world : value.world ≡ new
  pub spent : value.spent ≡ None

-- it would pass a limit, and the world is spent by it, with the journal as it was
pub record StaysAtLimit (old new : ClusterState) (count : ℕ) (value : ClusterValue) : Type 0 where
  pub past : is_within new.journal ≡ false
  pub told : count ≡ length old.journal
  pub journal : value.world.journal ≡ old.journal
  pub spent : value.spent ≡ Some (Limit count)

-- What it comes to that a world, which was not spent, is to become this one: it has; it would pass a limit; or memory was wanted.
abbrev pub WorldBecomes : ClusterState → ClusterState → Result (Unit {0}) WorldFault → ClusterValue → Type 0
WorldBecomes old new (Ok done) value = Happened new value
WorldBecomes old new (Err (Limit count)) value = StaysAtLimit old new count value
WorldBecomes old new (Err NoMemory) value = (value.world.journal ≡ old.journal) × (value.spent ≡ Some NoMemory)

-- one delivery of a flow: none waits, and nothing has changed; or the first that waits came
abbrev pub Flows : ClusterState → Option ℕ → Result Bool WorldFault → ClusterValue → Type 0
Flows old None (Ok more) value = (more ≡ false) × (value.world ≡ old) × (value.spent ≡ None)
Flows old None (Err fault) value = ⊥
Flows old (Some number) (Ok more) value = (more ≡ true) × Happened (delivering number old) value
Flows old (Some number) (Err (Limit count)) value = StaysAtLimit old (delivering number old) count value
Flows old (Some number) (Err NoMemory) value = (value.world.journal ≡ old.journal) × (value.spent ≡ Some NoMemory)
