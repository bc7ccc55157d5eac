-- What holds of every script: of its journal, and of the data servers that it ends with (RFC 8435, section 2.2;
-- RFC 8881, section 18.22).
use Rattle.std.specs.Prelude.{⊤, ◌≡◌, ℕ, zero, suc, ◌+◌, false, List, [], ◌∷◌, ◌++◌, Option, Some, None}
use Rattle.cluster_model.specs.declared.ids.FileId.{FileId}
use Rattle.cluster_model.specs.declared.entry.Entry.{Entry}
use Rattle.cluster_model.specs.Event.{EventValue, DeliverPacket, Flow}
use Rattle.cluster_laws.specs.FenceLaw.{ObeysFences}
use Rattle.cluster_laws.specs.Periods.{ArePeriodsFenced, DoOwnersStay}
use Rattle.cluster_laws.specs.Agreement.{AgreesAlways}
use Rattle.line_runs.specs.declared.end.RunEnd.{RunEnd}
use Rattle.line_runs.specs.declared.end.RunEnd.TheVariants as ends
use Rattle.line_runs.specs.Lines.{script_lines}
use Rattle.line_runs.specs.Writing.{IsBeginningOf}
use Rattle.journal_print.specs.declared.mode.Mode.{Mode}
use Rattle.world_journal.specs.Journal.{IsJournalInRange, max_entries}
use Rattle.packet_table.specs.Packets.{next_waiting}
use Rattle.world_rule.specs.ClusterWorlds.{ClusterState, packets, new_cluster, cluster_step}
use Rattle.ff_replay.specs.declared.setup.Setup.{Setup}
use Rattle.ff_replay.specs.declared.setup.Setup.TheVariants.{Bare, Cluster}
use Rattle.ff_replay.specs.Script.{Script, script_of, run_from, script_budget, trace_of, closing_of}
use Rattle.ff_replay.specs.Player.{LeadToJournal}
use Rattle.ff_laws.specs.ReadLaw.{ObeysReads}
use Rattle.world_moves.specs.WorldMoves.{TellsTruth}

-- what the lines of a script enter: up to the first that is outside the grammar, or the event that would pass a limit
abbrev pub script_journal : List (List ℕ) → List Entry
script_journal lines = (run_from false None 1 lines).entries

-- ---- the world that a script of a cluster ends with

abbrev pub end_by_step : ClusterState → Option ClusterState → (ClusterState → ClusterState) → ClusterState
end_by_step w None rest = w
end_by_step w (Some next) rest = rest next

-- behind a flow: the first packet that waits has come, and so on until none waits
abbrev pub end_by_flow : (ClusterState → ClusterState) → (ClusterState → ClusterState) → ClusterState → Option ℕ → ClusterState
end_by_flow more rest w None = rest w
end_by_flow more rest w (Some number) = end_by_step w (cluster_step w (DeliverPacket number)) more

abbrev pub end_of_flow : ℕ → (ClusterState → ClusterState) → ClusterState → ClusterState
end_of_flow zero rest w = rest w
end_of_flow (suc n) rest w = end_by_flow (end_of_flow n rest) rest w (next_waiting (packets w))

abbrev pub end_by_event : ClusterState → EventValue → (ClusterState → ClusterState) → ClusterState
end_by_event w Flow rest = end_of_flow (max_entries + 1) rest w
end_by_event w event rest = end_by_step w (cluster_step w event) rest

-- each event happens in the world that the events before it left, up to the first that would pass a limit
abbrev pub cluster_end : ClusterState → List EventValue → ClusterState
cluster_end w [] = w
cluster_end w (event ∷ events) = end_by_event w event (λ next. cluster_end next events)

abbrev pub end_in : Option Setup → List EventValue → Option ClusterState
end_in None events = None
end_in (Some Bare) events = None
end_in (Some (Cluster sizes)) events = Some (cluster_end (new_cluster sizes.servers sizes.mirrors sizes.clients) events)

abbrev pub end_of_script : Script → Option ClusterState
end_of_script s = end_in s.setup s.events

-- the cluster that is left by the lines of a script; a script of one data server has none
abbrev pub script_end : List (List ℕ) → Option ClusterState
script_end lines = end_of_script (script_of 1 None lines)

-- ---- the laws

-- After a fence no write under the fenced uid changes a live mirror; each period is fenced before the next; owners stay.
pub record ObeysPeriods (journal : List Entry) : Type 0 where
  pub fences : ObeysFences journal
  pub periods : ArePeriodsFenced journal
  pub owners : DoOwnersStay journal

-- And a READ through the metadata server is answered with bytes that a mirror showed, or as failed where each mirror failed it or left; and whenever a
-- file is free all its live mirrors hold the bytes of one flat file, and nothing else.
pub record ObeysLaws (journal : List Entry) : Type 0 where
  pub of_periods : ObeysPeriods journal
  pub reads : ObeysReads journal
  pub agreement : (f : FileId) → AgreesAlways journal f

-- the cluster has this journal, and what the journal says of each mirror's bytes, pending writes and owner is so at its data server
pub record EndsTrue (journal : List Entry) (w : ClusterState) : Type 0 where
  pub journal_is : w.journal ≡ journal
  pub truth : TellsTruth w

-- The laws of periods hold of each journal; all of them of one whose records are of bytes, and of whose mirrors the fileids have eight.
pub record ScriptObeys (lines : List (List ℕ)) : Type 0 where
  pub periods : ObeysPeriods (script_journal lines)
  pub laws : IsJournalInRange (script_journal lines) → ObeysLaws (script_journal lines)
  pub ends : (w : ClusterState) → script_end lines ≡ Some w → EndsTrue (script_journal lines) w

abbrev pub EveryScriptObeys : Type 0
EveryScriptObeys = (lines : List (List ℕ)) → ScriptObeys lines

-- The journal of every world that lines lead to, and the deliveries of their flows, obeys all laws where it is in range.
abbrev pub EveryReachedObeys : Type 0
EveryReachedObeys = (journal : List Entry) → LeadToJournal journal → IsJournalInRange journal → ObeysLaws journal

pub record LawsOfScripts : Type 0 where
  pub scripts : EveryScriptObeys
  pub reached : EveryReachedObeys

-- ---- in the program

-- the journal of the lines of a source obeys all laws, where lines ended the run of it: all were played, one is outside the grammar, or an event would pass a
-- limit
abbrev pub PlaysLawfully : Option (List ℕ) → RunEnd → Type 0
PlaysLawfully None end = ⊤
PlaysLawfully (Some bytes) ends.Done = ObeysLaws (script_journal (script_lines script_budget bytes))
PlaysLawfully (Some bytes) (ends.BadLine n) = ObeysLaws (script_journal (script_lines script_budget bytes))
PlaysLawfully (Some bytes) (ends.Limit count) = ObeysLaws (script_journal (script_lines script_budget bytes))
PlaysLawfully (Some bytes) ends.ReadFault = ⊤
PlaysLawfully (Some bytes) ends.WriteFault = ⊤
PlaysLawfully (Some bytes) ends.NoMemory = ⊤

-- What was printed behind a sink's bytes is a beginning of the whole text of a journal that lines lead to, which obeys all laws.
pub record PrintsLawful (mode : Mode) (base : List ℕ) (held : Option (List ℕ)) : Type 0 where
  pub journal : List Entry
  pub reached : LeadToJournal journal
  pub obeys : ObeysLaws journal
  pub part : List ℕ
  pub begins : IsBeginningOf part (trace_of mode journal ++ closing_of mode journal)
  pub got : held ≡ Some (base ++ part)

-- the same of a sink that may not tell its bytes, however the run ended
abbrev pub PrintsLawfully : Mode → Option (List ℕ) → Option (List ℕ) → Type 0
PrintsLawfully mode None held = ⊤
PrintsLawfully mode (Some base) held = PrintsLawful mode base held
