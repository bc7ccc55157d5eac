-- Runs of events in the world of a cluster.
use Rattle.std.specs.Prelude.{ℕ, zero, suc, ◌+◌, Bool, true, false, List, [], ◌∷◌, ◌++◌, length, drop, Option, Some, None}
use Rattle.cluster_model.specs.declared.entry.Entry.{Entry}
use Rattle.cluster_model.specs.Event.{EventValue, DeliverPacket, Flow}
use Rattle.world_journal.specs.Journal.{max_entries}
use Rattle.packet_table.specs.Packets.{next_waiting}
use Rattle.world_rule.specs.ClusterWorlds.{ClusterState, packets, cluster_step}

-- the entries that events add, up to the first that would pass a limit, and whether one would
pub record ClusterRun : Type 0 where
  pub entries : List Entry
  pub over : Bool

abbrev pub no_more : ClusterRun
no_more = record { entries = []; over = false }

-- the entries that stand behind those of a world
abbrev pub entries_added : ClusterState → ClusterState → List Entry
entries_added old new = drop (length old.journal) new.journal

-- an event, and what runs behind it
abbrev pub with_step : ClusterState → Option ClusterState → (ClusterState → ClusterRun) → ClusterRun
with_step w None rest = record { entries = []; over = true }
with_step w (Some next) rest = record { entries = entries_added w next ++ (rest next).entries; over = (rest next).over }

-- A flow: the first packet that waits comes, and so on until none waits; then the rest runs. Each delivery makes an entry, so there are no
-- more of them than the limit has entries.
abbrev pub flow_by : (ClusterState → ClusterRun) → (ClusterState → ClusterRun) → ClusterState → Option ℕ → ClusterRun
flow_by more rest w None = rest w
flow_by more rest w (Some number) = with_step w (cluster_step w (DeliverPacket number)) more

abbrev pub flow_for : ℕ → (ClusterState → ClusterRun) → ClusterState → ClusterRun
flow_for zero rest w = rest w
flow_for (suc n) rest w = flow_by (flow_for n rest) rest w (next_waiting (packets w))

abbrev pub flow_then : (ClusterState → ClusterRun) → ClusterState → ClusterRun
flow_then rest w = flow_for (max_entries + 1) rest w

abbrev pub event_then : ClusterState → EventValue → (ClusterState → ClusterRun) → ClusterRun
event_then w Flow rest = flow_then rest w
event_then w event rest = with_step w (cluster_step w event) rest

abbrev pub cluster_run : ClusterState → List EventValue → ClusterRun
cluster_run w [] = no_more
cluster_run w (event ∷ events) = event_then w event (λ next. cluster_run next events)
