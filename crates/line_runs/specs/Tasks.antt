-- What a task does with lines.
use Rattle.std.specs.Prelude.{⊤, ◌≡◌, ℕ, ◌+◌, true, false, List, [], ◌∷◌, ◌++◌, Some, Result, Ok, Err}
use Rattle.ff_xdr.specs.declared.error.NoMemory.{NoMemory}
use Rattle.line_runs.specs.declared.end.LineStep.{LineStep}
use Rattle.line_runs.specs.declared.end.LineStep.TheVariants as step
use Rattle.line_runs.specs.Runs.{RunEffect, LinesMeaning, at_end, after_text}
use Rattle.line_runs.specs.Writing.{IsBeginningOf}

-- What counts of a task for its run: what lines come to, where the first of them has this number, and what the task is after
-- them; how many entries there are; the text that it adds where the lines end; and what it is now.
-- Lines behind one that ends the run do nothing. Within a line, what is left of it comes before the lines.
pub record TaskValue (State : Type 0) : Type 0 where
  pub meaning : ℕ → LinesMeaning
  pub after : List (List ℕ) → State
  pub entries : ℕ
  pub closing : List ℕ
  pub state : State

-- what is to come: what lines come to, and what the task is after them
pub record Ahead (State : Type 0) : Type 0 where
  pub meaning : LinesMeaning
  pub after : List (List ℕ) → State

-- from where a task is, where the next line has this number
abbrev pub ahead_of : {State : Type 0} → ℕ → TaskValue State → Ahead State
ahead_of number task = record { meaning = task.meaning number; after = task.after }

-- the same with this line before the others
abbrev pub on_line : {State : Type 0} → List ℕ → Ahead State → Ahead State
on_line line old = record { meaning = λ lines. old.meaning (line ∷ lines); after = λ lines. old.after (line ∷ lines) }

-- No lines come to the closing text alone, and the task stays what it is.
pub record IsAtEnd {State : Type 0} (task : TaskValue State) (ahead : Ahead State) : Type 0 where
  pub effect : ahead.meaning [] ≡ at_end task.entries task.closing
  pub same : ahead.after [] ≡ task.state

-- ---- what a step of a line does

-- it added this text, and the run goes on from there
pub record Goes {State : Type 0} (old : Ahead State) (text : List ℕ) (new : Ahead State) (text' : List ℕ) : Type 0 where
  pub more : List ℕ
  pub now : text' ≡ text ++ more
  pub same : (lines : List (List ℕ)) → old.meaning lines ≡ after_text more (new.meaning lines)
  pub after : (lines : List (List ℕ)) → old.after lines ≡ new.after lines

-- the line with this number is outside the grammar
abbrev pub IsOutside : ℕ → RunEffect → Type 0
IsOutside number effect = (effect.bad ≡ Some number) × (effect.past ≡ false) × (effect.text ≡ [])

-- a limit would be passed, and there are so many entries
abbrev pub IsAtLimit : ℕ → RunEffect → Type 0
IsAtLimit count effect = (effect.past ≡ true) × (count ≡ effect.count)

-- It ended the run, since what is to come is so: it added the last text, and the task is what it stays.
pub record EndsRun {State : Type 0} (cause : RunEffect → Type 0) (old : Ahead State) (text : List ℕ) (task : TaskValue State) (text' : List ℕ) : Type 0 where
  pub more : List ℕ
  pub now : text' ≡ text ++ more
  pub why : (lines : List (List ℕ)) → cause (old.meaning lines)
  pub adds : (lines : List (List ℕ)) → (old.meaning lines).text ≡ more
  pub closing : (lines : List (List ℕ)) → (old.meaning lines).closing ≡ task.closing
  pub after : (lines : List (List ℕ)) → old.after lines ≡ task.state

-- a beginning of the text was added
pub record HasPrintedPart {State : Type 0} (old : Ahead State) (text text' : List ℕ) : Type 0 where
  pub part : List ℕ
  pub now : text' ≡ text ++ part
  pub begins : (lines : List (List ℕ)) → IsBeginningOf part (old.meaning lines).text

-- What a step within a line did, where the next line has this number: it goes on; a limit would be passed; or memory was wanted.
abbrev pub StepsFrom : {State : Type 0} → ℕ → Ahead State → List ℕ → Result LineStep NoMemory → TaskValue State → List ℕ → Type 0
StepsFrom number old text (Ok step.Done) task text' = Goes old text (ahead_of number task) text'
StepsFrom number old text (Ok step.More) task text' = Goes old text (ahead_of number task) text'
StepsFrom number old text (Ok step.Outside) task text' = ⊥
StepsFrom number old text (Ok (step.Limited count)) task text' = EndsRun (IsAtLimit count) old text task text'
StepsFrom number old text (Err e) task text' = HasPrintedPart old text text'

-- What the first step of the line with this number did. The line may also be outside the grammar.
abbrev pub BeginsLine : {State : Type 0} → ℕ → Ahead State → List ℕ → Result LineStep NoMemory → TaskValue State → List ℕ → Type 0
BeginsLine number old text (Ok step.Done) task text' = StepsFrom (number + 1) old text (Ok step.Done) task text'
BeginsLine number old text (Ok step.More) task text' = StepsFrom (number + 1) old text (Ok step.More) task text'
BeginsLine number old text (Ok step.Outside) task text' = EndsRun (IsOutside number) old text task text'
BeginsLine number old text (Ok (step.Limited count)) task text' = StepsFrom (number + 1) old text (Ok (step.Limited count)) task text'
BeginsLine number old text (Err e) task text' = StepsFrom (number + 1) old text (Err e) task text'

-- where a step leaves a task that may go on: between two lines, or within one
abbrev pub Rests : Result LineStep NoMemory → Type 0 → Type 0 → Type 0
Rests (Ok step.Done) between within = between
Rests (Ok step.More) between within = within
Rests (Ok step.Outside) between within = ⊤
Rests (Ok (step.Limited count)) between within = ⊤
Rests (Err e) between within = ⊤
