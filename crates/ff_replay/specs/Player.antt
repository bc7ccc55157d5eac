-- A run of a script, line by line.
use Rattle.std.specs.Prelude.{⊤, ◌≡◌, ℕ, ◌-◌, ◌≤◌, ◌==◌, Bool, true, false, List, [], ◌∷◌, ◌++◌, Option, Some, None, Result, Ok, Err}
use Rattle.ff_xdr.specs.declared.error.NoMemory.{NoMemory}
use Rattle.cluster_model.specs.declared.entry.Entry.{Entry}
use Rattle.cluster_model.specs.Event.{EventValue, DeliverPacket, Flow}
use Rattle.line_runs.specs.declared.end.LineStep.{LineStep}
use Rattle.line_runs.specs.declared.end.LineStep.TheVariants as step
use Rattle.line_runs.specs.Writing.{IsBeginningOf}
use Rattle.node_config.specs.declared.config.TheConstants.{MAX_SERVERS, MAX_MIRRORS, MAX_NUMBER}
use Rattle.world_journal.specs.declared.fault.WorldFault.{WorldFault}
use Rattle.world_journal.specs.Journal.{max_entries, IsJournalInRange}
use Rattle.packet_table.specs.Packets.{next_waiting}
use Rattle.ff_script.specs.Line.{event_value}
use Rattle.ff_world.specs.World.{WorldStep, WorldValue, world_step, server_at}
use Rattle.cluster_script.specs.declared.sizes.ClusterSizes.{ClusterSizes}
use Rattle.cluster_script.specs.ClusterLines.{cluster_event}
use Rattle.cluster_model.specs.Server.{ServerState}
use Rattle.mds_rule.specs.MdsStates.{MdsValue}
use Rattle.client_state.specs.ClientStates.{ClientValue}
use Rattle.world_rule.specs.Machines.{nth}
use Rattle.world_rule.specs.ClusterWorlds.{ClusterState, packets, cluster_step}
use Rattle.world_rule.specs.ClusterRuns.{entries_added}
use Rattle.cluster_world.specs.WorldSteps.{ClusterValue, IsOfScript}
use Rattle.journal_print.specs.declared.mode.Mode.{Mode}
use Rattle.ff_replay.specs.declared.setup.Setup.{Setup}
use Rattle.ff_replay.specs.declared.setup.Setup.TheVariants.{Bare, Cluster}
use Rattle.ff_replay.specs.declared.line.Event.{Event}
use Rattle.ff_replay.specs.declared.line.Event.TheVariants as event
use Rattle.ff_replay.specs.declared.line.Line.{Line}
use Rattle.ff_replay.specs.declared.line.Line.TheVariants as line
use Rattle.ff_replay.specs.declared.world.World.{World}
use Rattle.ff_replay.specs.declared.world.World.TheVariants as world
use Rattle.ff_replay.specs.Script.{ScriptLine, SaysNothing, SetsUp, Happens, ScriptWorld, BareWorld, ClusterWorld, world_of, setup_of, count_of, journal_so_far, line_in, trace_of, closing_of}

-- an empty line, or one that begins with `#` (35)
abbrev pub is_comment : List ℕ → Bool
is_comment [] = true
is_comment (c ∷ rest) = c == 35

-- ---- what a line does

-- The line is outside the grammar; its event would pass a limit; or the run goes on from another world, with these entries more, and
-- with a flow under way or without.
pub data LinePlayed : Type 0 where
  Outside : LinePlayed
  Limited : LinePlayed
  Goes : (stage : Option ScriptWorld) (flows : Bool) (entries : List Entry) → LinePlayed

abbrev pub bare_goes : Option WorldStep → LinePlayed
bare_goes None = Limited
bare_goes (Some step) = Goes (Some (BareWorld step.world)) false step.entries

abbrev pub cluster_goes : ClusterSizes → Bool → ClusterState → Option ClusterState → LinePlayed
cluster_goes sizes flows w None = Limited
cluster_goes sizes flows w (Some next) = Goes (Some (ClusterWorld sizes next)) flows (entries_added w next)

-- one delivery of a flow
abbrev pub flows_by : ClusterSizes → ClusterState → Option ℕ → LinePlayed
flows_by sizes w None = Goes (Some (ClusterWorld sizes w)) false []
flows_by sizes w (Some number) = cluster_goes sizes true w (cluster_step w (DeliverPacket number))

abbrev pub flowed : ClusterSizes → ClusterState → LinePlayed
flowed sizes w = flows_by sizes w (next_waiting (packets w))

-- what goes on in a world within a flow; in that of one data server there is none
abbrev pub flowed_in : ScriptWorld → LinePlayed
flowed_in (BareWorld w) = Goes (Some (BareWorld w)) false []
flowed_in (ClusterWorld sizes w) = flowed sizes w

abbrev pub flowing : Option ScriptWorld → LinePlayed
flowing None = Goes None false []
flowing (Some w) = flowed_in w

abbrev pub is_flow : EventValue → Bool
is_flow Flow = true
is_flow event = false

-- an event, which stands behind the setup
abbrev pub cluster_played : Bool → ClusterSizes → ClusterState → EventValue → LinePlayed
cluster_played true sizes w event = flowed sizes w
cluster_played false sizes w event = cluster_goes sizes false w (cluster_step w event)

abbrev pub event_played : ScriptWorld → EventValue → LinePlayed
event_played (BareWorld w) event = bare_goes (world_step w event)
event_played (ClusterWorld sizes w) event = cluster_played (is_flow event) sizes w event

abbrev pub happening : Option ScriptWorld → EventValue → LinePlayed
happening None event = Outside
happening (Some w) event = event_played w event

abbrev pub played_by : Option ScriptWorld → Option ScriptLine → LinePlayed
played_by before None = Outside
played_by before (Some SaysNothing) = Goes before false []
played_by before (Some (SetsUp chosen)) = Goes (Some (world_of chosen)) false []
played_by before (Some (Happens event)) = happening before event

abbrev pub played : Option ScriptWorld → List ℕ → LinePlayed
played before line = played_by before (line_in (setup_of before) line)

-- the entries that it adds
abbrev pub entries_by : LinePlayed → List Entry
entries_by Outside = []
entries_by Limited = []
entries_by (Goes next flows entries) = entries

-- ---- the player

-- how much of the trace is printed; the world that a script has made so far, and what it is spent by; and whether a flow is under way
pub record PlayerValue : Type 0 where
  pub mode : Mode
  pub stage : Option ScriptWorld
  pub spent : Option WorldFault
  pub flows : Bool

abbrev pub script_world : World → ScriptWorld
script_world (world.Bare w) = BareWorld w.world
script_world (world.Cluster sizes w) = ClusterWorld sizes w.world

abbrev pub spent_by : World → Option WorldFault
spent_by (world.Bare w) = w.spent
spent_by (world.Cluster sizes w) = w.spent

abbrev pub player_of : Mode → Option World → Bool → PlayerValue
player_of mode None flows = record { mode = mode; stage = None; spent = None; flows = flows }
player_of mode (Some s) flows = record { mode = mode; stage = Some (script_world s); spent = spent_by s; flows = flows }

-- ---- where lines lead

-- what lines, and the deliveries of their flows, make of no world
pub data LinesLeadTo : Option ScriptWorld → Type 0 where
  AtStart : LinesLeadTo None
  ByLine : (before next : Option ScriptWorld) (line : List ℕ) (flows : Bool) (entries : List Entry) → LinesLeadTo before → played before line ≡ Goes next flows entries → LinesLeadTo next
  ByFlow : (before next : Option ScriptWorld) (flows : Bool) (entries : List Entry) → LinesLeadTo before → flowing before ≡ Goes next flows entries → LinesLeadTo next

-- a world with this journal is reached
pub record LeadToJournal (journal : List Entry) : Type 0 where
  pub stage : Option ScriptWorld
  pub reached : LinesLeadTo stage
  pub is : journal ≡ journal_so_far stage

-- A player that began as the first may have become the second, and printed this text: that of its journal, which is in range.
pub record LeadsPlayer (start now : PlayerValue) (text : List ℕ) : Type 0 where
  pub mode : now.mode ≡ start.mode
  pub text_is : text ≡ trace_of start.mode (journal_so_far now.stage)
  pub range : IsJournalInRange (journal_so_far now.stage)
  pub reached : LeadToJournal (journal_so_far now.stage)

-- What was printed of a sink's bytes is a beginning of the whole text of a journal that is in range, and which lines lead to.
pub record PrintsJournal (mode : Mode) (base : List ℕ) (held : Option (List ℕ)) : Type 0 where
  pub journal : List Entry
  pub range : IsJournalInRange journal
  pub reached : LeadToJournal journal
  pub part : List ℕ
  pub begins : IsBeginningOf part (trace_of mode journal ++ closing_of mode journal)
  pub got : held ≡ Some (base ++ part)

-- the same of a sink that may not tell its bytes
abbrev pub HasPrinted : Mode → Option (List ℕ) → Option (List ℕ) → Type 0
HasPrinted mode None held = ⊤
HasPrinted mode (Some base) held = PrintsJournal mode base held

-- between two lines, and within a line: a flow of a cluster is under way
abbrev pub IsBetween : PlayerValue → Type 0
IsBetween p = (p.spent ≡ None) × (p.flows ≡ false) × LinesLeadTo p.stage

abbrev pub IsOfCluster : Option ScriptWorld → Type 0
IsOfCluster None = ⊥
IsOfCluster (Some (BareWorld w)) = ⊥
IsOfCluster (Some (ClusterWorld sizes w)) = ⊤

abbrev pub IsWithinFlow : PlayerValue → Type 0
IsWithinFlow p = (p.spent ≡ None) × (p.flows ≡ true) × IsOfCluster p.stage × LinesLeadTo p.stage

-- how many entries fit yet behind those of the journal
abbrev pub room_of : Option ScriptWorld → ℕ
room_of before = max_entries - count_of before

-- ---- what the code's player did

-- the world, what it is spent by, and the text of its journal that is not yet written
pub record PlayerState : Type 0 where
  pub stage : Option ScriptWorld
  pub spent : Option WorldFault
  pub trace : List ℕ

abbrev pub with_trace : PlayerValue → List ℕ → PlayerState
with_trace p trace = record { stage = p.stage; spent = p.spent; trace = trace }

abbrev pub player_at : World → List ℕ → PlayerState
player_at s trace = record { stage = Some (script_world s); spent = spent_by s; trace = trace }

abbrev pub at_bare : WorldValue → List ℕ → PlayerState
at_bare w trace = record { stage = Some (BareWorld w.world); spent = w.spent; trace = trace }

abbrev pub at_cluster : ClusterSizes → ClusterValue → List ℕ → PlayerState
at_cluster sizes w trace = record { stage = Some (ClusterWorld sizes w.world); spent = w.spent; trace = trace }

-- the run goes on, and the entries are printed
pub record GoesFrom (mode : Mode) (old : PlayerState) (does : LinePlayed) (flows : Bool) (new : PlayerState) : Type 0 where
  pub next : Option ScriptWorld
  pub entries : List Entry
  pub is : does ≡ Goes next flows entries
  pub now : new ≡ record { stage = next; spent = None; trace = old.trace ++ trace_of mode entries }

-- the run is at a limit, all entries so far are printed, and the journal is as it was
pub record PlayerStopsAtLimit (old : PlayerState) (does : LinePlayed) (count : ℕ) (new : PlayerState) : Type 0 where
  pub is : does ≡ Limited
  pub count_is : count ≡ count_of old.stage
  pub trace : new.trace ≡ old.trace
  pub journal : journal_so_far new.stage ≡ journal_so_far old.stage

-- memory was wanted, and a beginning of the entries is printed
pub record PlayerPrintedPart (mode : Mode) (old : PlayerState) (does : LinePlayed) (new : PlayerState) : Type 0 where
  pub part : List ℕ
  pub begins : IsBeginningOf part (trace_of mode (entries_by does))
  pub trace : new.trace ≡ old.trace ++ part

-- What happened where this was to be done: it was done, and a flow is under way or not; nothing has changed, since the line is outside
-- the grammar; the event would pass a limit; or memory was wanted.
abbrev pub PlayerPlays : Mode → PlayerState → LinePlayed → Result LineStep NoMemory → PlayerState → Type 0
PlayerPlays mode old does (Ok step.Done) new = GoesFrom mode old does false new
PlayerPlays mode old does (Ok step.More) new = GoesFrom mode old does true new
PlayerPlays mode old does (Ok step.Outside) new = (does ≡ Outside) × (new ≡ old)
PlayerPlays mode old does (Ok (step.Limited count)) new = PlayerStopsAtLimit old does count new
PlayerPlays mode old does (Err e) new = PlayerPrintedPart mode old does new

-- a flow is under way just where there is more of the line
abbrev pub is_unfinished : LineStep → Bool
is_unfinished step.More = true
is_unfinished step.Done = false
is_unfinished step.Outside = false
is_unfinished (step.Limited count) = false

-- ---- what a script's line gives to a world

-- the sizes of a cluster are such that there may be one
pub record AreSizes (sizes : ClusterSizes) : Type 0 where
  pub mirrored : 1 ≤ sizes.mirrors
  pub few : sizes.mirrors ≤ MAX_MIRRORS
  pub within : sizes.mirrors ≤ sizes.servers
  pub servers : sizes.servers ≤ MAX_SERVERS
  pub clients : sizes.clients ≤ MAX_NUMBER

abbrev pub IsSetup : Setup → Type 0
IsSetup Bare = ⊤
IsSetup (Cluster sizes) = AreSizes sizes

-- ---- what the code's lines and events say

abbrev pub event_said : Event → EventValue
event_said (event.Bare e) = event_value e
event_said (event.Cluster e) = cluster_event e

abbrev pub line_said : Line → ScriptLine
line_said line.Nothing = SaysNothing
line_said (line.Setup chosen) = SetsUp chosen
line_said (line.Event e) = Happens (event_said e)

-- an event is one of a setup
abbrev pub IsEventIn : Setup → Event → Type 0
IsEventIn Bare (event.Bare e) = ⊤
IsEventIn Bare (event.Cluster e) = ⊥
IsEventIn (Cluster sizes) (event.Bare e) = ⊥
IsEventIn (Cluster sizes) (event.Cluster e) = IsOfScript (cluster_event e)

-- a line is one that may stand behind a setup, or before any
abbrev pub IsLineOf : Option Setup → Line → Type 0
IsLineOf setup line.Nothing = ⊤
IsLineOf None (line.Setup chosen) = IsSetup chosen
IsLineOf (Some setup) (line.Setup chosen) = ⊥
IsLineOf None (line.Event e) = ⊥
IsLineOf (Some setup) (line.Event e) = IsEventIn setup e

-- ---- the nodes of a world, where it has them

abbrev pub mds_in : ScriptWorld → Option MdsValue
mds_in (BareWorld w) = None
mds_in (ClusterWorld sizes w) = Some w.machines.mds

abbrev pub server_in : ScriptWorld → ℕ → Option ServerState
server_in (BareWorld w) number = server_at w number
server_in (ClusterWorld sizes w) number = nth w.machines.servers number

abbrev pub client_in : ScriptWorld → ℕ → Option ClientValue
client_in (BareWorld w) number = None
client_in (ClusterWorld sizes w) number = nth w.machines.clients number
