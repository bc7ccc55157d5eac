-- A run that is under way: what is still to come, and what a step does to it.
use Rattle.std.specs.Prelude.{⊤, ◌⊎◌, ◌≡◌, ℕ, ◌+◌, ◌-◌, ◌*◌, ◌<◌, Bool, true, false, List, [], ◌∷◌, ◌++◌, length, take, Option, Some, None, Result, Ok, Err, if◌then◌else◌}
use Rattle.line_runs.specs.declared.playback.TheConstants.{FULL}
use Rattle.ff_xdr.specs.declared.error.NoMemory.{NoMemory as WantsMemory}
use Rattle.rpc_record.specs.declared.stream.Failed.{Failed}
use Rattle.rpc_record.specs.Stream.{one_more}
use Rattle.line_runs.specs.declared.end.RunEnd.{RunEnd}
use Rattle.line_runs.specs.declared.end.RunEnd.TheVariants.{Done, BadLine, ReadFault, WriteFault, NoMemory, Limit}
use Rattle.line_runs.specs.declared.end.LineStep.{LineStep}
use Rattle.line_runs.specs.declared.end.LineStep.TheVariants as step
use Rattle.line_runs.specs.Lines.{script_lines, ended_lines}
use Rattle.line_runs.specs.Runs.{RunEffect, after_text, whole_text, HasRead}
use Rattle.line_runs.specs.Tasks.{TaskValue, Ahead, ahead_of, on_line, IsOutside, IsAtLimit}
use Rattle.line_runs.specs.Writing.{IsBeginningOf}

-- the text that is not yet written, the bytes that were read and not yet taken, how many bytes the source may still have, and
-- how many lines were begun
pub record RunState : Type 0 where
  pub text : List ℕ
  pub held : List ℕ
  pub room : ℕ
  pub begun : ℕ

-- before the first line
abbrev pub start : ℕ → RunState
start budget = record { text = []; held = []; room = budget; begun = 0 }

-- the same with another text
abbrev pub with_text : List ℕ → RunState → RunState
with_text text s = record { text = text; held = s.held; room = s.room; begun = s.begun }

-- the text is written once it has so many bytes
abbrev pub full : ℕ
full = FULL

-- what a run has to do yet: it reads what there is room for, and writes its text
abbrev pub some_text : List ℕ → ℕ
some_text [] = 0
some_text (b ∷ text) = 1

abbrev pub to_do : RunState → ℕ
to_do s = 2 * s.room + some_text s.text

-- what a line has to do yet after a step, where it has so many steps more
abbrev pub steps_after : Result LineStep WantsMemory → ℕ → ℕ
steps_after (Ok step.More) steps = steps + 1
steps_after (Ok step.Done) steps = 0
steps_after (Ok step.Outside) steps = 0
steps_after (Ok (step.Limited count)) steps = 0
steps_after (Err e) steps = 0

-- where a run stands: what is to come of lines, and the rest of its state
pub record Stand (State : Type 0) : Type 0 where
  pub ahead : Ahead State
  pub text : List ℕ
  pub held : List ℕ
  pub room : ℕ

abbrev pub stand : {State : Type 0} → TaskValue State → RunState → Stand State
stand task s = record { ahead = ahead_of (s.begun + 1) task; text = s.text; held = s.held; room = s.room }

-- the same where this line, which took so many bytes, comes first
abbrev pub at_line : {State : Type 0} → ℕ → List ℕ → Stand State → Stand State
at_line taken line s = record { ahead = on_line line s.ahead; text = s.text; held = s.held; room = s.room - taken }

-- the lines of bytes within a budget: all of a source's, or those that end in a newline
abbrev pub lines_by : Bool → ℕ → List ℕ → List (List ℕ)
lines_by true budget bytes = script_lines budget bytes
lines_by false budget bytes = ended_lines (take budget bytes)

-- What is to come where these bytes do: all lines, or those that end in a newline; what they come to; what the task is after
-- them; and how many bytes go past the limit of a source.
abbrev pub lines_ahead : {State : Type 0} → Bool → Stand State → List ℕ → List (List ℕ)
lines_ahead all s bytes = lines_by all s.room (s.held ++ bytes)

abbrev pub effect_ahead : {State : Type 0} → Bool → Stand State → List ℕ → RunEffect
effect_ahead all s bytes = s.ahead.meaning (lines_ahead all s bytes)

abbrev pub state_ahead : {State : Type 0} → Bool → Stand State → List ℕ → State
state_ahead all s bytes = s.ahead.after (lines_ahead all s bytes)

abbrev pub over_ahead : {State : Type 0} → Stand State → List ℕ → ℕ
over_ahead s bytes = length (s.held ++ bytes) - s.room

-- the whole text that is to be written
abbrev pub text_ahead : {State : Type 0} → Bool → Stand State → List ℕ → List ℕ
text_ahead all s bytes = s.text ++ whole_text (effect_ahead all s bytes)

-- A sink had this text to come. It has taken some from its front, and this text is to come now.
abbrev pub Owes : Option (List ℕ) → List ℕ → Option (List ℕ) → List ℕ → Type 0
Owes None text new text' = new ≡ None
Owes (Some held) text new text' = (part : List ℕ) × (new ≡ Some (held ++ part)) × (part ++ text' ≡ text)

-- the same, of a beginning of the text
abbrev pub OwesPart : Option (List ℕ) → List ℕ → Option (List ℕ) → List ℕ → Type 0
OwesPart old text new text' = (rest : List ℕ) × Owes old text new (text' ++ rest)

-- ---- steps of a run

-- The run goes on behind the bytes that the source gave: it added this text, and whatever comes behind the bytes comes to the
-- same.
pub record GoesOn {State : Type 0} (left : List ℕ) (held : Option (List ℕ)) (old : Stand State) (left' held' : Option (List ℕ)) (new : Stand State) : Type 0 where
  pub front : List ℕ
  pub gave : HasRead left front left'
  pub more : List ℕ
  pub same : (all : Bool) (rest : List ℕ) → effect_ahead all old (front ++ rest) ≡ after_text more (effect_ahead all new rest)
  pub after : (all : Bool) (rest : List ℕ) → state_ahead all old (front ++ rest) ≡ state_ahead all new rest
  pub over : (rest : List ℕ) → over_ahead old (front ++ rest) ≡ over_ahead new rest
  pub owes : Owes held (old.text ++ more) held' new.text

-- The source failed: of the lines that end in what it gave, the text was written but for what is owed.
pub record Fails {State : Type 0} (left : List ℕ) (held : Option (List ℕ)) (old : Stand State) (left' held' : Option (List ℕ)) (owed : List ℕ) : Type 0 where
  pub front : List ℕ
  pub gave : HasRead left front left'
  pub good : (effect_ahead false old front).bad ≡ None
  pub within : (effect_ahead false old front).past ≡ false
  pub short : over_ahead old front ≡ 0
  pub owes : Owes held (old.text ++ (effect_ahead false old front).text) held' owed

-- The run was broken off: of the lines that end in what the source gave, or of all where it gave all, a beginning of the whole
-- text was written but for what is owed.
pub record OwesRead {State : Type 0} (left : List ℕ) (held : Option (List ℕ)) (old : Stand State) (left' held' : Option (List ℕ)) (owed : List ℕ) : Type 0 where
  pub front : List ℕ
  pub gave : HasRead left front left'
  pub owes : OwesPart held (text_ahead false old front) held' owed ⊎ ((front ≡ left) × OwesPart held (text_ahead true old left) held' owed)

-- a limit is passed, of the run or of the source's length
abbrev pub Passes : RunEffect → ℕ → Type 0
Passes effect over = (effect.past ≡ true) ⊎ ((effect.past ≡ false) × (effect.bad ≡ None) × (0 < over))

-- why lines end a run so, by what they come to and how many bytes go past the limit
abbrev pub EndsBy : RunEnd → RunEffect → ℕ → Type 0
EndsBy Done effect over = (effect.bad ≡ None) × (effect.past ≡ false) × (over ≡ 0)
EndsBy (BadLine n) effect over = (effect.bad ≡ Some n) × (effect.past ≡ false)
EndsBy (Limit count) effect over = Passes effect over × (count ≡ effect.count)
EndsBy ReadFault effect over = ⊥
EndsBy WriteFault effect over = ⊥
EndsBy NoMemory effect over = ⊥

-- The lines ended the run: the whole text is written but for what is owed. Where the source may have more, it is that of what
-- it gave, too.
pub record LinesEnd {State : Type 0} (left : List ℕ) (held : Option (List ℕ)) (old : Stand State) (end : RunEnd) (left' held' : Option (List ℕ)) (state : State) (owed : List ℕ) : Type 0 where
  pub why : EndsBy end (effect_ahead true old left) (over_ahead old left)
  pub after : state ≡ state_ahead true old left
  pub owes : Owes held (text_ahead true old left) held' owed
  pub read : OwesRead left held old left' held' owed

-- The run stops, where the task is what it is now, and the text is written but for what is owed.
abbrev pub Stops : {State : Type 0} → List ℕ → Option (List ℕ) → Stand State → RunEnd → Option (List ℕ) → Option (List ℕ) → State → List ℕ → Type 0
Stops left held old Done left' held' state owed = LinesEnd left held old Done left' held' state owed × (left' ≡ Some [])
Stops left held old (BadLine n) left' held' state owed = LinesEnd left held old (BadLine n) left' held' state owed
Stops left held old (Limit count) left' held' state owed = LinesEnd left held old (Limit count) left' held' state owed
Stops left held old ReadFault left' held' state owed = Fails left held old left' held' owed
Stops left held old WriteFault left' held' state owed = ⊥
Stops left held old NoMemory left' held' state owed = OwesRead left held old left' held' owed

-- the lines ended the run, and nothing failed
abbrev pub is_of_lines : RunEnd → Bool
is_of_lines Done = true
is_of_lines (BadLine n) = true
is_of_lines (Limit count) = true
is_of_lines ReadFault = false
is_of_lines WriteFault = false
is_of_lines NoMemory = false

-- the text with the closing text, where the run has one
abbrev pub closed_text : RunEnd → List ℕ → List ℕ → List ℕ
closed_text end closing text = if is_of_lines end then text ++ closing else text

-- What a step did: it goes on, it stops, or the text could not be written.
abbrev pub PlaybackSteps : {State : Type 0} → Option (List ℕ) → Option (List ℕ) → Stand State → Result (Option RunEnd) Failed → Option (List ℕ) → Option (List ℕ) → TaskValue State → Stand State → Type 0
PlaybackSteps None held old result left' held' task new = ⊤
PlaybackSteps (Some left) held old (Ok None) left' held' task new = GoesOn left held old left' held' new
PlaybackSteps (Some left) held old (Ok (Some end)) left' held' task new = Stops left held old end left' held' task.state (closed_text end task.closing new.text)
PlaybackSteps (Some left) held old (Err e) left' held' task new = OwesRead left held old left' held' []

-- What all steps did, where so much of the text is owed.
abbrev pub Finishes : {State : Type 0} → Option (List ℕ) → Option (List ℕ) → Stand State → Result RunEnd Failed → Option (List ℕ) → Option (List ℕ) → State → List ℕ → Type 0
Finishes None held old result left' held' state owed = ⊤
Finishes (Some left) held old (Ok end) left' held' state owed = Stops left held old end left' held' state owed
Finishes (Some left) held old (Err e) left' held' state owed = OwesRead left held old left' held' []

-- the same, where the text that is owed is not yet closed
abbrev pub PlaysAll : {State : Type 0} → Option (List ℕ) → Option (List ℕ) → Stand State → Result RunEnd Failed → Option (List ℕ) → Option (List ℕ) → TaskValue State → List ℕ → Type 0
PlaysAll left held old (Ok end) left' held' task text = Finishes left held old (Ok end) left' held' task.state (closed_text end task.closing text)
PlaysAll left held old (Err e) left' held' task text = Finishes left held old (Err e) left' held' task.state []

-- What closing a run did that ended so: the closing text was appended where the run has one, or a beginning of it for want of
-- memory.
abbrev pub ClosesRun : RunEnd → List ℕ → List ℕ → RunEnd → List ℕ → Type 0
ClosesRun end closing text end' text' =
    ((end' ≡ end) × (text' ≡ closed_text end closing text))
    ⊎ ((is_of_lines end ≡ true) × (end' ≡ NoMemory) × ((part : List ℕ) × IsBeginningOf part closing × (text' ≡ text ++ part)))

-- ---- the counts of faults

-- the source's count of faults after lines that ended so, and not because the text could not be written
abbrev pub EndFaults : RunEnd → ℕ → ℕ → Type 0
EndFaults Done old new = new ≡ old
EndFaults (BadLine line) old new = new ≡ old
EndFaults (Limit count) old new = new ≡ old
EndFaults ReadFault old new = new ≡ one_more old
EndFaults WriteFault old new = ⊥
EndFaults NoMemory old new = new ≡ old

-- after a step, and after all steps or the last writing
abbrev pub StepFaults : Result (Option RunEnd) Failed → ℕ → ℕ → Type 0
StepFaults (Ok None) old new = new ≡ old
StepFaults (Ok (Some end)) old new = EndFaults end old new
StepFaults (Err e) old new = new ≡ old

abbrev pub LinesFaults : Result RunEnd Failed → ℕ → ℕ → Type 0
LinesFaults (Ok end) old new = EndFaults end old new
LinesFaults (Err e) old new = new ≡ old

-- all text was written before the source was asked and failed
abbrev pub HasWrittenAll : RunEnd → List ℕ → Type 0
HasWrittenAll Done text = ⊤
HasWrittenAll (BadLine line) text = ⊤
HasWrittenAll (Limit count) text = ⊤
HasWrittenAll ReadFault text = text ≡ []
HasWrittenAll WriteFault text = ⊤
HasWrittenAll NoMemory text = ⊤

-- how a line ends a run: neither the source nor the sink failed
abbrev pub IsOfLine : RunEnd → Type 0
IsOfLine Done = ⊤
IsOfLine (BadLine n) = ⊤
IsOfLine (Limit count) = ⊤
IsOfLine ReadFault = ⊥
IsOfLine WriteFault = ⊥
IsOfLine NoMemory = ⊤

-- ---- a line

-- Text was written where it is long, and nothing else changed.
abbrev pub Relieves : Option (List ℕ) → RunState → Result (Unit {0}) Failed → Option (List ℕ) → RunState → Type 0
Relieves held old (Ok x) held' new = (new ≡ with_text new.text old) × Owes held old.text held' new.text
Relieves held old (Err e) held' new = OwesPart held old.text held' []

-- The line goes on, or was played: it added this text, of which some may be written.
pub record AdvancesLine {State : Type 0} (held : Option (List ℕ)) (old : Stand State) (held' : Option (List ℕ)) (new : Stand State) : Type 0 where
  pub more : List ℕ
  pub same : (lines : List (List ℕ)) → old.ahead.meaning lines ≡ after_text more (new.ahead.meaning lines)
  pub after : (lines : List (List ℕ)) → old.ahead.after lines ≡ new.ahead.after lines
  pub owes : Owes held (old.text ++ more) held' new.text
  pub same_held : new.held ≡ old.held
  pub same_room : new.room ≡ old.room

-- It ended the run, since what is to come is so.
pub record Halts {State : Type 0} (cause : RunEffect → Type 0) (held : Option (List ℕ)) (old : Stand State) (held' : Option (List ℕ)) (task : TaskValue State) (text' : List ℕ) : Type 0 where
  pub more : List ℕ
  pub why : (lines : List (List ℕ)) → cause (old.ahead.meaning lines)
  pub adds : (lines : List (List ℕ)) → (old.ahead.meaning lines).text ≡ more
  pub closing : (lines : List (List ℕ)) → (old.ahead.meaning lines).closing ≡ task.closing
  pub after : (lines : List (List ℕ)) → old.ahead.after lines ≡ task.state
  pub owes : Owes held (old.text ++ more) held' text'

-- It was broken off, and a beginning of its text was written but for what is owed.
pub record Breaks {State : Type 0} (held : Option (List ℕ)) (old : Stand State) (held' : Option (List ℕ)) (owed : List ℕ) : Type 0 where
  pub part : List ℕ
  pub begins : (lines : List (List ℕ)) → IsBeginningOf part (old.ahead.meaning lines).text
  pub owes : OwesPart held (old.text ++ part) held' owed

-- What steps of the line with this number did, the last of which was this.
abbrev pub LineSteps : {State : Type 0} → ℕ → Option (List ℕ) → Stand State → Result LineStep WantsMemory → Option (List ℕ) → TaskValue State → Stand State → Type 0
LineSteps number held old (Ok step.Done) held' task new = AdvancesLine held old held' new
LineSteps number held old (Ok step.More) held' task new = AdvancesLine held old held' new
LineSteps number held old (Ok step.Outside) held' task new = Halts (IsOutside number) held old held' task new.text
LineSteps number held old (Ok (step.Limited count)) held' task new = Halts (IsAtLimit count) held old held' task new.text
LineSteps number held old (Err e) held' task new = Breaks held old held' new.text

-- What a line did that was played to its end: the run goes on, it stops, or the text could not be written.
abbrev pub LinePlays : {State : Type 0} → Option (List ℕ) → Stand State → Result (Option RunEnd) Failed → Option (List ℕ) → TaskValue State → Stand State → Type 0
LinePlays held old (Ok None) held' task new = AdvancesLine held old held' new
LinePlays held old (Ok (Some (BadLine n))) held' task new = Halts (IsOutside n) held old held' task new.text
LinePlays held old (Ok (Some (Limit count))) held' task new = Halts (IsAtLimit count) held old held' task new.text
LinePlays held old (Ok (Some NoMemory)) held' task new = Breaks held old held' new.text
LinePlays held old (Ok (Some Done)) held' task new = ⊥
LinePlays held old (Ok (Some ReadFault)) held' task new = ⊥
LinePlays held old (Ok (Some WriteFault)) held' task new = ⊥
LinePlays held old (Err e) held' task new = Breaks held old held' []

-- the same of the last line, which is none where it is empty
abbrev pub LastPlays : {State : Type 0} → Option (List ℕ) → List ℕ → TaskValue State → Stand State → Result (Option RunEnd) Failed → Option (List ℕ) → TaskValue State → Stand State → Type 0
LastPlays held [] was old result held' task new = (result ≡ Ok (Some Done)) × (held' ≡ held) × (task ≡ was) × (new ≡ old)
LastPlays held (c ∷ rest) was old (Ok None) held' task new = ⊥
LastPlays held (c ∷ rest) was old (Ok (Some Done)) held' task new = LinePlays held (at_line (length (c ∷ rest)) (c ∷ rest) old) (Ok None) held' task new
LastPlays held (c ∷ rest) was old (Ok (Some (BadLine n))) held' task new = LinePlays held (at_line (length (c ∷ rest)) (c ∷ rest) old) (Ok (Some (BadLine n))) held' task new
LastPlays held (c ∷ rest) was old (Ok (Some (Limit count))) held' task new = LinePlays held (at_line (length (c ∷ rest)) (c ∷ rest) old) (Ok (Some (Limit count))) held' task new
LastPlays held (c ∷ rest) was old (Ok (Some NoMemory)) held' task new = LinePlays held (at_line (length (c ∷ rest)) (c ∷ rest) old) (Ok (Some NoMemory)) held' task new
LastPlays held (c ∷ rest) was old (Ok (Some ReadFault)) held' task new = ⊥
LastPlays held (c ∷ rest) was old (Ok (Some WriteFault)) held' task new = ⊥
LastPlays held (c ∷ rest) was old (Err e) held' task new = LinePlays held (at_line (length (c ∷ rest)) (c ∷ rest) old) (Err e) held' task new
