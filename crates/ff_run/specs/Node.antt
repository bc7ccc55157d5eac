-- What the commands `ds`, `mds`, `put` and `get` do: a node runs by the configuration in the source's first line.
use Rattle.std.specs.Prelude.{⊤, ◌≡◌, ℕ, ◌+◌, ◌≤◌, Bool, true, false, List, [], length, Option, Some, None, Result, Ok, Err}
use Rattle.store_disk.specs.Disks.{DiskLife}
use Rattle.ds_node.specs.DsNodes.{ServesAsDs}
use Rattle.line_runs.specs.declared.end.RunEnd.{RunEnd}
use Rattle.line_runs.specs.declared.end.RunEnd.TheVariants.{Done, BadLine, ReadFault, WriteFault, NoMemory, Limit}
use Rattle.line_runs.specs.Lines.{Cut, Line, Last, PastBudget, cut_line, Drawn, all_left}
use Rattle.line_runs.specs.Playback.{EndFaults}
use Rattle.node_config.specs.declared.config.Config.{Config}
use Rattle.node_config.specs.Configs.{ConfigValue, config_value}
use Rattle.node_link.specs.declared.link.Opening.{Opening}
use Rattle.node_link.specs.declared.link.Role.TheVariants as role
use Rattle.mds_rule.specs.MdsStates.{new_mds}
use Rattle.command_words.specs.Commands.{CommandValue, Replay, Gen, Show, Ds, Mds, Put, Get}
use Rattle.ff_node.specs.declared.end.NodeEnd.{NodeEnd}
use Rattle.ff_node.specs.Config.{Configures, max_line}
use Rattle.ff_node.specs.Serve.{Beside, OpensThen, NodeRuns, disk_faults, link_faults, sink_faults}
use Rattle.mds_node.specs.MdsNodes.{MdsNodeValue, fresh_mds_node, mds_node_rule}
use Rattle.user_nodes.specs.Puts.{PutsFile, source_faults}
use Rattle.user_nodes.specs.Gets.{GetsFile}
use Rattle.ff_run.specs.declared.serving.Task.{Task}
use Rattle.ff_run.specs.declared.serving.Task.TheVariants as code

-- ---- what is told

-- what the source has left; how the disks stand and stood; what the link was opened with; and what is beside a node: the link, the clock and
-- the sink
pub record Observed : Type 0 where
  pub unread : Option (List ℕ)
  pub disk : Option DiskLife
  pub spare : Option DiskLife
  pub opened : Option Opening
  pub around : Beside

abbrev pub observed : Option (List ℕ) → Option DiskLife → Option DiskLife → Option Opening → Beside → Observed
observed unread disk spare opened around = record { unread = unread; disk = disk; spare = spare; opened = opened; around = around }

-- ---- the configuration

-- the first line, where it is not too long, and what is behind it
abbrev pub line_of_cut : Cut → Option (List ℕ)
line_of_cut (Line line rest) = Some line
line_of_cut (Last line) = Some line
line_of_cut PastBudget = None

abbrev pub rest_of_cut : Cut → List ℕ
rest_of_cut (Line line rest) = rest
rest_of_cut (Last line) = []
rest_of_cut PastBudget = []

-- the front of bytes: with its newline the first line has at most one byte more than a configuration
abbrev pub first_cut : List ℕ → Cut
first_cut bytes = cut_line (max_line + 1) bytes

abbrev pub first_line : List ℕ → Option (List ℕ)
first_line bytes = line_of_cut (first_cut bytes)

-- what a source has left behind its first line, where it tells its bytes
abbrev pub left_behind : Option (List ℕ) → Option (List ℕ)
left_behind None = None
left_behind (Some bytes) = Some (rest_of_cut (first_cut bytes))

-- the command that a task is of
abbrev pub task_command : Task → CommandValue
task_command code.Ds = Ds
task_command code.Mds = Mds
task_command (code.Put name) = Put name.now
task_command (code.Get name) = Get name.now

-- a name that a client can open
abbrev pub IsShortName : Task → Type 0
IsShortName (code.Put name) = length name.now ≤ 255
IsShortName (code.Get name) = length name.now ≤ 255
IsShortName task = ⊤

-- of a data server
abbrev pub is_of_server : CommandValue → Bool
is_of_server Ds = true
is_of_server command = false

-- The line configures a node for a command: the own number of a data server is that of one of the servers.
pub record ConfiguresFor (command : CommandValue) (line : List ℕ) (c : ConfigValue) : Type 0 where
  pub configures : Configures line c
  pub own : is_of_server command ≡ true → c.own ≤ length c.servers

-- What was found in a line: the configuration of such a node, or none.
abbrev pub FindsConfig : CommandValue → List ℕ → Result Config RunEnd → Type 0
FindsConfig command line (Ok config) = ConfiguresFor command line (config_value config)
FindsConfig command line (Err (BadLine n)) = (n ≡ 1) × ((c : ConfigValue) → ConfiguresFor command line c → ⊥)
FindsConfig command line (Err NoMemory) = ⊤
FindsConfig command line (Err Done) = ⊥
FindsConfig command line (Err ReadFault) = ⊥
FindsConfig command line (Err WriteFault) = ⊥
FindsConfig command line (Err (Limit count)) = ⊥

-- The first line of a source configures such a node so, where the source tells its bytes.
abbrev pub IsConfigOf : CommandValue → Option (List ℕ) → ConfigValue → Type 0
IsConfigOf command None c = (line : List ℕ) × ConfiguresFor command line c
IsConfigOf command (Some bytes) c = (line : List ℕ) × (first_line bytes ≡ Some line) × ConfiguresFor command line c

-- It configures none.
abbrev pub HasNoConfig : CommandValue → Option (List ℕ) → Type 0
HasNoConfig command None = ⊤
HasNoConfig command (Some bytes) = (line : List ℕ) (c : ConfigValue) → first_line bytes ≡ Some line → ConfiguresFor command line c → ⊥

-- Why no node ran: the first line is none that configures such a node; the source failed; or memory was wanted.
abbrev pub Unserved : CommandValue → Option (List ℕ) → RunEnd → Type 0
Unserved command left (BadLine n) = (n ≡ 1) × HasNoConfig command left
Unserved command left ReadFault = ⊤
Unserved command left NoMemory = ⊤
Unserved command left Done = ⊥
Unserved command left WriteFault = ⊥
Unserved command left (Limit count) = ⊥

-- the configuration that was read, or why there is none
abbrev pub ReadsFirst : CommandValue → Option (List ℕ) → Result Config RunEnd → Type 0
ReadsFirst command left (Ok config) = IsConfigOf command left (config_value config)
ReadsFirst command left (Err end) = Unserved command left end

-- the count of the source's faults after it
abbrev pub FirstFaults : {T : Type 0} → Result T RunEnd → ℕ → ℕ → Type 0
FirstFaults (Ok x) old new = new ≡ old
FirstFaults (Err end) old new = EndFaults end old new

-- what was drawn from a source: a front of its bytes, in which the first line lies
pub record DrawsFirst (bytes : List ℕ) (left' : Option (List ℕ)) : Type 0 where
  pub drawn : Drawn bytes left'
  pub first : first_line drawn.front ≡ first_line bytes

-- What looking for a configuration drew from a source, where it tells its bytes. Where it failed or memory was wanted, the first
-- line may go on behind what was drawn.
abbrev pub Draws : {T : Type 0} → Option (List ℕ) → Result T RunEnd → Option (List ℕ) → Type 0
Draws None result left' = left' ≡ None
Draws (Some bytes) (Ok x) left' = DrawsFirst bytes left'
Draws (Some bytes) (Err (BadLine n)) left' = DrawsFirst bytes left'
Draws (Some bytes) (Err ReadFault) left' = Drawn bytes left'
Draws (Some bytes) (Err NoMemory) left' = Drawn bytes left'
Draws (Some bytes) (Err Done) left' = ⊥
Draws (Some bytes) (Err WriteFault) left' = ⊥
Draws (Some bytes) (Err (Limit count)) left' = ⊥

-- Where a configuration was found, what is behind the first line is held in the buffer, and then left in the source.
abbrev pub HoldsRest : Option (List ℕ) → Result Config RunEnd → List ℕ → Option (List ℕ) → Type 0
HoldsRest left (Ok config) held left' = all_left held left' ≡ left_behind left
HoldsRest left (Err end) held left' = ⊤

-- ---- a node

-- without the sink, and without the sink and the clock
abbrev pub no_sink : Beside → Beside
no_sink b = record b { held = None }

abbrev pub link_alone : Beside → Beside
link_alone b = record b { moments = None; moment = 0; held = None }

abbrev pub KeepsSink : Beside → Beside → Type 0
KeepsSink b b' = b'.held ≡ b.held

abbrev pub KeepsClock : Beside → Beside → Type 0
KeepsClock b b' = (b'.moments ≡ b.moments) × (b'.moment ≡ b.moment)

abbrev pub KeepsDisks : Observed → Observed → Type 0
KeepsDisks old new = (new.disk ≡ old.disk) × (new.spare ≡ old.spare)

-- What running a node did that is configured so. A data server serves from the log on its disks, and every other node leaves them alone.
-- The metadata server is new; `put` had the bytes behind the first line, of which some may be held back.
abbrev pub RunsNode : CommandValue → Config → Observed → NodeEnd → Observed → Type 0
RunsNode Ds config old end new =
    ServesAsDs config old.opened old.disk old.spare (link_alone old.around) end new.opened new.disk new.spare (link_alone new.around)
    × KeepsClock old.around new.around × KeepsSink old.around new.around
RunsNode Mds config old end new =
    OpensThen old.opened config role.Mds (no_sink old.around) end new.opened (no_sink new.around)
    ((node : MdsNodeValue) × NodeRuns mds_node_rule [] (fresh_mds_node (new_mds (config_value config).servers (config_value config).mirrors)) config.turns (no_sink old.around) end node (no_sink new.around))
    × KeepsSink old.around new.around × KeepsDisks old new
RunsNode (Put name) config old end new =
    ((held : List ℕ) × PutsFile config name (left_behind old.unread) old.opened (no_sink old.around) end (all_left held new.unread) new.opened (no_sink new.around))
    × KeepsSink old.around new.around × KeepsDisks old new
RunsNode (Get name) config old end new = GetsFile config name old.opened old.around end new.opened new.around × KeepsDisks old new
RunsNode (Replay mode) config old end new = ⊥
RunsNode (Gen number) config old end new = ⊥
RunsNode Show config old end new = ⊥

-- what was drawn from the source for it; `put` says of its bytes itself
abbrev pub DrawsFor : CommandValue → Option (List ℕ) → NodeEnd → Option (List ℕ) → Type 0
DrawsFor (Put name) left end left' = ⊤
DrawsFor command left end left' = Draws {T = NodeEnd} left (Ok end) left'

-- but for `put` a node leaves the source as it is
abbrev pub KeepsSource : CommandValue → Option (List ℕ) → Option (List ℕ) → Type 0
KeepsSource (Put name) left left' = ⊤
KeepsSource command left left' = left' ≡ left

-- What a command of nodes did: a node ran by the configuration in the first line; or there is none, and disks, link, clock and sink are as they were.
abbrev pub ServesTask : CommandValue → Observed → Result NodeEnd RunEnd → Observed → Type 0
ServesTask command old (Ok end) new =
    (config : Config) × IsConfigOf command old.unread (config_value config) × RunsNode command config old end new × DrawsFor command old.unread end new.unread
ServesTask command old (Err end) new =
    Unserved command old.unread end × Draws {T = NodeEnd} old.unread (Err end) new.unread × (new.opened ≡ old.opened) × (new.around ≡ old.around) × KeepsDisks old new

-- the counts of faults after it
abbrev pub served_faults : Result NodeEnd RunEnd → ℕ → ℕ
served_faults (Ok end) n = link_faults end n
served_faults (Err end) n = n

abbrev pub served_writes : Result NodeEnd RunEnd → ℕ → ℕ
served_writes (Ok end) n = sink_faults end n
served_writes (Err end) n = n

abbrev pub served_disk : Result NodeEnd RunEnd → ℕ → ℕ
served_disk (Ok end) n = disk_faults end n
served_disk (Err end) n = n

abbrev pub ServedReads : Result NodeEnd RunEnd → ℕ → ℕ → Type 0
ServedReads (Ok end) old new = new ≡ source_faults end old
ServedReads (Err end) old new = EndFaults end old new
