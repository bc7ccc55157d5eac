-- What a script says, and the trace of it.
use Rattle.std.specs.Prelude.{⊤, ℕ, ◌+◌, Bool, true, false, ◌==◌, List, [], ◌∷◌, ◌++◌, length, codes, Option, Some, None, option_map, if◌then◌else◌}
use Rattle.std.specs.Str.{bytes_eq}
use Rattle.cluster_model.specs.declared.entry.Entry.{Entry}
use Rattle.cluster_model.specs.Event.{EventValue}
use Rattle.cluster_model.specs.Print.{print}
use Rattle.journal_print.specs.Brief.{brief}
use Rattle.journal_print.specs.Counts.{counts}
use Rattle.line_runs.specs.declared.end.RunEnd.{RunEnd}
use Rattle.line_runs.specs.declared.end.RunEnd.TheVariants as ends
use Rattle.line_runs.specs.Lines.{script_lines}
use Rattle.line_runs.specs.Runs.{LinesMeaning}
use Rattle.world_journal.specs.Journal.{IsJournalInRange}
use Rattle.line_runs.specs.Tasks.{TaskValue}
use Rattle.ff_script.specs.Line as bare
use Rattle.cluster_script.specs.declared.sizes.ClusterSizes.{ClusterSizes}
use Rattle.cluster_script.specs.ClusterLines as cluster
use Rattle.ff_world.specs.World.{WorldState, Run, preset_world, run_of}
use Rattle.world_rule.specs.ClusterWorlds.{ClusterState, new_cluster}
use Rattle.world_rule.specs.ClusterRuns.{ClusterRun, flow_then, cluster_run}
use Rattle.journal_print.specs.declared.mode.Mode.{Mode}
use Rattle.journal_print.specs.declared.mode.Mode.TheVariants.{Full, Brief, Count}
use Rattle.ff_replay.specs.declared.setup.Setup.{Setup}
use Rattle.ff_replay.specs.declared.setup.Setup.TheVariants.{Bare, Cluster}

-- ---- a line

pub data ScriptLine : Type 0 where
  SaysNothing : ScriptLine
  SetsUp : (chosen : Setup) → ScriptLine
  Happens : (event : EventValue) → ScriptLine

-- the line that chooses the setup: `bare`, or `cluster` and three numbers
abbrev pub cluster_setup : Option ClusterSizes → Option Setup
cluster_setup sizes = option_map Cluster sizes

abbrev pub setup_in : List ℕ → Option Setup
setup_in text = if bytes_eq text (codes "bare") then Some Bare else cluster_setup (cluster.cluster_at text)

-- a line of words, by the setup that was chosen
abbrev pub words_in : Option Setup → List ℕ → Option ScriptLine
words_in None text = option_map SetsUp (setup_in text)
words_in (Some Bare) text = option_map Happens (bare.event_at text)
words_in (Some (Cluster sizes)) text = option_map Happens (cluster.event_at sizes text)

-- A line of a script. An empty line says nothing, nor does one that begins with `#` (35).
abbrev pub line_in : Option Setup → List ℕ → Option ScriptLine
line_in setup [] = Some SaysNothing
line_in setup (c ∷ rest) = if c == 35 then Some SaysNothing else words_in setup (c ∷ rest)

-- ---- a script

-- What the lines before the first that is outside the grammar say: the setup that they choose, and the events; and that line's
-- number, from 1.
pub record Script : Type 0 where
  pub setup : Option Setup
  pub events : List EventValue
  pub bad : Option ℕ

abbrev pub with_setup : Setup → Script → Script
with_setup chosen rest = record { setup = Some chosen; events = rest.events; bad = rest.bad }

abbrev pub with_event : EventValue → Script → Script
with_event event rest = record { setup = rest.setup; events = event ∷ rest.events; bad = rest.bad }

-- what the line with this number does to the lines behind it, which have a setup by then
abbrev pub by_line : ℕ → Option Setup → Option ScriptLine → (Option Setup → Script) → Script
by_line number setup None rest = record { setup = None; events = []; bad = Some number }
by_line number setup (Some SaysNothing) rest = rest setup
by_line number setup (Some (SetsUp chosen)) rest = with_setup chosen (rest (Some chosen))
by_line number setup (Some (Happens event)) rest = with_event event (rest setup)

-- the lines from this number on, with the setup that stands before them
abbrev pub script_of : ℕ → Option Setup → List (List ℕ) → Script
script_of number setup [] = record { setup = None; events = []; bad = None }
script_of number setup (line ∷ lines) = by_line number setup (line_in setup line) (λ chosen. script_of (number + 1) chosen lines)

-- ---- its world

-- of one data server, or of a cluster of these sizes
pub data ScriptWorld : Type 0 where
  BareWorld : (world : WorldState) → ScriptWorld
  ClusterWorld : (sizes : ClusterSizes) (world : ClusterState) → ScriptWorld

-- the world of a setup, before any event
abbrev pub world_of : Setup → ScriptWorld
world_of Bare = BareWorld preset_world
world_of (Cluster sizes) = ClusterWorld sizes (new_cluster sizes.servers sizes.mirrors sizes.clients)

-- the journal so far
abbrev pub journal_in : ScriptWorld → List Entry
journal_in (BareWorld w) = w.journal
journal_in (ClusterWorld sizes w) = w.journal

abbrev pub setup_of_world : ScriptWorld → Setup
setup_of_world (BareWorld w) = Bare
setup_of_world (ClusterWorld sizes w) = Cluster sizes

abbrev pub entries_in : ScriptWorld → ℕ
entries_in (BareWorld w) = length w.journal
entries_in (ClusterWorld sizes w) = length w.journal

-- the setup of the world so far: none before the setup line
abbrev pub setup_of : Option ScriptWorld → Option Setup
setup_of stage = option_map setup_of_world stage

-- the journal so far: none before the setup line
abbrev pub journal_so_far : Option ScriptWorld → List Entry
journal_so_far None = []
journal_so_far (Some w) = journal_in w

-- how many entries the journal has
abbrev pub count_of : Option ScriptWorld → ℕ
count_of None = 0
count_of (Some w) = entries_in w

-- ---- its run

abbrev pub bare_run : ClusterRun → Run
bare_run r = record { entries = r.entries; over = r.over }

-- each event happens in the world that the events before it left
abbrev pub run_in : ScriptWorld → List EventValue → Run
run_in (BareWorld w) events = run_of w events
run_in (ClusterWorld sizes w) events = bare_run (cluster_run w events)

-- the same, behind what is left of a flow
abbrev pub run_behind : Bool → ScriptWorld → List EventValue → Run
run_behind false w events = run_in w events
run_behind true (BareWorld w) events = run_of w events
run_behind true (ClusterWorld sizes w) events = bare_run (flow_then (λ next. cluster_run next events) w)

-- The world that events happen in: the one so far, or the first one of the setup that the lines choose. With no setup there are
-- no events.
abbrev pub world_in : Option ScriptWorld → Option Setup → ScriptWorld
world_in (Some w) chosen = w
world_in None (Some chosen) = world_of chosen
world_in None None = world_of Bare

-- what lines say from this number on, behind those that made this world
abbrev pub script_from : Option ScriptWorld → ℕ → List (List ℕ) → Script
script_from stage number lines = script_of number (setup_of stage) lines

-- the run of them, behind what is left of a flow. It ends before an event that would pass a limit.
abbrev pub run_from : Bool → Option ScriptWorld → ℕ → List (List ℕ) → Run
run_from flows stage number lines = run_behind flows (world_in stage (script_from stage number lines).setup) (script_from stage number lines).events

-- ---- its text

-- the text of entries, as they come: none where they are only counted
abbrev pub trace_of : Mode → List Entry → List ℕ
trace_of Full entries = print entries
trace_of Brief entries = brief entries
trace_of Count entries = []

-- the text of a whole journal, where the lines end: its counts where entries are only counted
abbrev pub closing_of : Mode → List Entry → List ℕ
closing_of Full journal = []
closing_of Brief journal = []
closing_of Count journal = counts journal

-- what lines come to: the text of the journal that they add, and behind it what is said of the whole journal by then
abbrev pub meaning_from : Mode → Bool → Option ScriptWorld → ℕ → LinesMeaning
meaning_from mode flows stage number lines = record {
  text = trace_of mode (run_from flows stage number lines).entries;
  bad = (script_from stage number lines).bad;
  past = (run_from flows stage number lines).over;
  count = count_of stage + length (run_from flows stage number lines).entries;
  closing = closing_of mode (journal_so_far stage ++ (run_from flows stage number lines).entries);
}

-- what the lines of a script come to
abbrev pub script_meaning : Mode → LinesMeaning
script_meaning mode = meaning_from mode false None 1

-- the most bytes of a script: 64 MiB
abbrev pub script_budget : ℕ
script_budget = 67108864

-- the whole journal behind lines, and behind what is left of a flow
abbrev pub journal_behind : Bool → Option ScriptWorld → List (List ℕ) → List Entry
journal_behind flows stage lines = journal_so_far stage ++ (run_from flows stage 1 lines).entries

-- the task as its run sees it, where this is the world so far, and whether a flow is under way: it is its journal
abbrev pub script_task : Mode → Bool → Option ScriptWorld → TaskValue (List Entry)
script_task mode flows stage =
    record { meaning = meaning_from mode flows stage; after = journal_behind flows stage; entries = count_of stage; closing = closing_of mode (journal_so_far stage); state = journal_so_far stage }

-- Where lines ended a run of a source, the journal of its lines is of bytes, and the fileids of its mirrors have eight (RFC 1813, section 2.5).
abbrev pub EndsInRange : Option (List ℕ) → RunEnd → Type 0
EndsInRange None end = ⊤
EndsInRange (Some bytes) ends.Done = IsJournalInRange (journal_behind false None (script_lines script_budget bytes))
EndsInRange (Some bytes) (ends.BadLine n) = IsJournalInRange (journal_behind false None (script_lines script_budget bytes))
EndsInRange (Some bytes) (ends.Limit count) = IsJournalInRange (journal_behind false None (script_lines script_budget bytes))
EndsInRange (Some bytes) ends.ReadFault = ⊤
EndsInRange (Some bytes) ends.WriteFault = ⊤
EndsInRange (Some bytes) ends.NoMemory = ⊤
