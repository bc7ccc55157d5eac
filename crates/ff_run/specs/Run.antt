-- The top call: what the words ask for, what was done, and what is said of it.
use Rattle.std.specs.Prelude.{◌≡◌, ◌⊎◌, ℕ, List, [], ◌∷◌, ◌++◌, codes, decimal, Option, Result, Ok, Err}
use Rattle.rpc_record.specs.declared.stream.Failed.{Failed}
use Rattle.rpc_record.specs.declared.stream.Failed.TheVariants as failed
use Rattle.rpc_record.specs.Stream.{counted}
use Rattle.cluster_model.specs.declared.answer.FailCause.{FailCause}
use Rattle.cluster_model.specs.declared.answer.FailCause.TheVariants.{Revoked, AllMirrors, Refused}
use Rattle.line_runs.specs.declared.end.RunEnd.{RunEnd}
use Rattle.line_runs.specs.declared.end.RunEnd.TheVariants.{Done, BadLine, ReadFault, WriteFault, NoMemory, Limit}
use Rattle.line_runs.specs.Runs.{Runs, read_faults, write_faults}
use Rattle.line_runs.specs.Writing.{WritesText}
use Rattle.ff_node.specs.declared.end.NodeEnd.TheVariants as served
use Rattle.ff_node.specs.Serve.{disk_faults, link_faults, sink_faults}
use Rattle.user_nodes.specs.Puts.{source_faults}
use Rattle.script_gen.specs.Generated.{generated}
use Rattle.ff_replay.specs.Script.{script_budget, script_meaning}
use Rattle.script_laws.specs.ScriptLaws.{PlaysLawfully, PrintsLawfully}
use Rattle.record_show.specs.Show.{show_budget, show_meaning}
use Rattle.command_words.specs.Commands.{CommandValue, Replay, Gen, Show, AsksForCommand}
use Rattle.ff_run.specs.declared.program.ProgramEnd.{ProgramEnd}
use Rattle.ff_run.specs.declared.program.ProgramEnd.TheVariants.{Usage, Ended, Served}
use Rattle.ff_run.specs.Node.{Observed, ServesTask}

-- but for the source and the sink all is as it was
abbrev pub KeepsNodes : Observed → Observed → Type 0
KeepsNodes old new = (new.opened ≡ old.opened) × (new.disk ≡ old.disk) × (new.spare ≡ old.spare) × (new.around ≡ record old.around { held = new.around.held })

-- how writing a text ends a command
abbrev pub end_of_writing : Result (Unit {0}) Failed → RunEnd
end_of_writing (Ok x) = Done
end_of_writing (Err failed.Fault) = WriteFault
end_of_writing (Err failed.NoMemory) = NoMemory

-- What a command did that ended so, before any node ran: the lines of the source were run, whose journal obeys all laws where lines ended
-- the run, and what was printed begins the text of a journal that obeys them; a script was generated; or no node ran.
abbrev pub RunsCommand : CommandValue → RunEnd → Observed → Observed → Type 0
RunsCommand (Replay mode) end old new =
    Runs script_budget (script_meaning mode) old.unread old.around.held end new.unread new.around.held × PlaysLawfully old.unread end
    × PrintsLawfully mode old.around.held new.around.held × KeepsNodes old new
RunsCommand Show end old new = Runs show_budget show_meaning old.unread old.around.held end new.unread new.around.held × KeepsNodes old new
RunsCommand (Gen number) end old new =
    ((writing : Result (Unit {0}) Failed) × (end ≡ end_of_writing writing) × WritesText old.around.held (generated number) writing new.around.held)
    × (new.unread ≡ old.unread) × KeepsNodes old new
RunsCommand command end old new = ServesTask command old (Err end) new

-- the status that the program ends with
abbrev pub status_of : ProgramEnd → ℕ
status_of Usage = 2
status_of (Ended Done) = 0
status_of (Ended (BadLine n)) = 3
status_of (Ended ReadFault) = 4
status_of (Ended WriteFault) = 5
status_of (Ended NoMemory) = 8
status_of (Ended (Limit n)) = 9
status_of (Served served.Done) = 0
status_of (Served served.ReadFault) = 4
status_of (Served served.WriteFault) = 5
status_of (Served served.DiskFault) = 6
status_of (Served (served.BadLog place)) = 6
status_of (Served served.BootsSpent) = 6
status_of (Served served.LinkFault) = 7
status_of (Served served.NoMemory) = 8
status_of (Served (served.Failed cause)) = 10
status_of (Served served.Turns) = 11

-- words, a number and a newline
abbrev pub with_number : List ℕ → ℕ → List ℕ
with_number word n = word ++ (decimal n ++ 10 ∷ [])

-- the cause of a failure, as in the trace
abbrev pub failure_note : FailCause → List ℕ
failure_note Revoked = codes "failed revoked\n"
failure_note AllMirrors = codes "failed allmirrors\n"
failure_note (Refused status) = with_number (codes "failed refused ") status

-- the line that the notes get, which is none where all went well
abbrev pub note_of : ProgramEnd → List ℕ
note_of Usage = codes "usage\n"
note_of (Ended Done) = []
note_of (Ended (BadLine n)) = with_number (codes "line ") n
note_of (Ended ReadFault) = codes "read fault\n"
note_of (Ended WriteFault) = codes "write fault\n"
note_of (Ended NoMemory) = codes "no memory\n"
note_of (Ended (Limit n)) = with_number (codes "limit ") n
note_of (Served served.Done) = []
note_of (Served served.ReadFault) = codes "read fault\n"
note_of (Served served.WriteFault) = codes "write fault\n"
note_of (Served served.DiskFault) = codes "disk fault\n"
note_of (Served (served.BadLog place)) = with_number (codes "bad log ") place
note_of (Served served.BootsSpent) = codes "boots spent\n"
note_of (Served served.LinkFault) = codes "link fault\n"
note_of (Served served.NoMemory) = codes "no memory\n"
note_of (Served (served.Failed cause)) = failure_note cause
note_of (Served served.Turns) = codes "turns\n"

-- a note that could not be written is a fault or want of memory of its own
abbrev pub status_after : ProgramEnd → Result (Unit {0}) Failed → ℕ
status_after end (Ok x) = status_of end
status_after end (Err failed.Fault) = 5
status_after end (Err failed.NoMemory) = 8

-- What the program did for a command: it ended so before any node ran, or a node ran.
abbrev pub PerformsCommand : CommandValue → ProgramEnd → Observed → Observed → Type 0
PerformsCommand command Usage old new = ⊥
PerformsCommand command (Ended end) old new = RunsCommand command end old new
PerformsCommand command (Served end) old new = ServesTask command old (Ok end) new

-- What it did for its words: nothing, since they ask for no command; or, for want of memory, nothing; or it performed the command that they
-- ask for.
abbrev pub Performs : List (List ℕ) → ProgramEnd → Observed → Observed → Type 0
Performs words Usage old new = ((command : CommandValue) → AsksForCommand words command → ⊥) × (new ≡ old)
Performs words end old new =
    ((command : CommandValue) × AsksForCommand words command × PerformsCommand command end old new) ⊎ ((end ≡ Ended NoMemory) × (new ≡ old))

-- the source's count of faults, and the sink's
abbrev pub source_faults_after : ProgramEnd → ℕ → ℕ
source_faults_after Usage n = n
source_faults_after (Ended end) n = read_faults end n
source_faults_after (Served end) n = source_faults end n

abbrev pub sink_faults_after : ProgramEnd → ℕ → ℕ
sink_faults_after Usage n = n
sink_faults_after (Ended end) n = write_faults end n
sink_faults_after (Served end) n = sink_faults end n

-- the link's count of faults
abbrev pub link_faults_after : ProgramEnd → ℕ → ℕ
link_faults_after Usage n = n
link_faults_after (Ended end) n = n
link_faults_after (Served end) n = link_faults end n

-- the disks' count of faults
abbrev pub disk_faults_after : ProgramEnd → ℕ → ℕ
disk_faults_after Usage n = n
disk_faults_after (Ended end) n = n
disk_faults_after (Served end) n = disk_faults end n

-- what was said of it: the notes took the line, or a beginning of it, and the status is by that
pub record Reports (end : ProgramEnd) (code : ℕ) (notes notes' : Option (List ℕ)) (faults faults' : ℕ) : Type 0 where
  pub writing : Result (Unit {0}) Failed
  pub told : WritesText notes (note_of end) writing notes'
  pub counts : faults' ≡ counted writing faults
  pub status : code ≡ status_after end writing
