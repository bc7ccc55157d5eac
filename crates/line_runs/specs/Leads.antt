-- Where a run leads a task, and what the sink got of the text on the way there.
use Rattle.std.specs.Prelude.{◌≡◌, ℕ, List, ◌++◌, Option, Some, None, Result, Ok, Err}
use Rattle.ff_xdr.specs.declared.error.NoMemory.{NoMemory as WantsMemory}
use Rattle.rpc_record.specs.declared.stream.Failed.{Failed}
use Rattle.line_runs.specs.declared.end.LineStep.{LineStep}
use Rattle.line_runs.specs.declared.end.RunEnd.{RunEnd}
use Rattle.line_runs.specs.declared.end.RunEnd.TheVariants.{Done, BadLine, ReadFault, WriteFault, NoMemory, Limit}
use Rattle.line_runs.specs.Tasks.{TaskValue}
use Rattle.line_runs.specs.Writing.{IsBeginningOf}

-- Behind a step that did not fail a run leads on from there, whatever text was written before what waits.
abbrev pub LeadsOn : {Self : Type 0} → (Self → List ℕ → Type 0) → Self → List ℕ → Result LineStep WantsMemory → Self → List ℕ → Type 0
LeadsOn leads old text result new text' = (front : List ℕ) (step : LineStep) → result ≡ Ok step → leads old (front ++ text) → leads new (front ++ text')

-- the closing text of a task
abbrev pub task_closing : {Self State : Type 0} → (Self → TaskValue State) → Self → List ℕ
task_closing value task = (value task).closing

-- A run has led a task where it is. A sink that held these bytes at first got all of its text but what waits to be written.
pub record HasLed {Self : Type 0} (leads : Self → List ℕ → Type 0) (base : List ℕ) (held : Option (List ℕ)) (task : Self) (waiting : List ℕ) : Type 0 where
  pub front : List ℕ
  pub got : held ≡ Some (base ++ front)
  pub led : leads task (front ++ waiting)

-- A run has led to a task; with its closing text, what waits continues what the sink got.
pub record HadLed {Self : Type 0} (leads : Self → List ℕ → Type 0) (closing : Self → List ℕ) (base : List ℕ) (held : Option (List ℕ)) (waiting : List ℕ) : Type 0 where
  pub front : List ℕ
  pub got : held ≡ Some (base ++ front)
  pub task : Self
  pub text : List ℕ
  pub led : leads task (front ++ text)
  pub begins : IsBeginningOf waiting (text ++ closing task)

-- A run has led to a task; the sink got a beginning of its text, with its closing text behind it.
pub record GotPart {Self : Type 0} (leads : Self → List ℕ → Type 0) (closing : Self → List ℕ) (base : List ℕ) (held : Option (List ℕ)) : Type 0 where
  pub task : Self
  pub text : List ℕ
  pub led : leads task text
  pub part : List ℕ
  pub begins : IsBeginningOf part (text ++ closing task)
  pub got : held ≡ Some (base ++ part)

-- behind a step within a line
abbrev pub StepHasLed : {Self : Type 0} → (Self → List ℕ → Type 0) → (Self → List ℕ) → List ℕ → Result LineStep WantsMemory → Option (List ℕ) → Self → List ℕ → Type 0
StepHasLed leads closing base (Ok step) held task waiting = HasLed leads base held task waiting
StepHasLed leads closing base (Err e) held task waiting = HadLed leads closing base held waiting

-- Behind a step of a run: it goes on or lines ended it; the source failed or memory was wanted; or the text could not be written.
abbrev pub RunHasLed : {Self : Type 0} → (Self → List ℕ → Type 0) → (Self → List ℕ) → List ℕ → Result (Option RunEnd) Failed → Option (List ℕ) → Self → List ℕ → Type 0
RunHasLed leads closing base (Ok None) held task waiting = HasLed leads base held task waiting
RunHasLed leads closing base (Ok (Some Done)) held task waiting = HasLed leads base held task waiting
RunHasLed leads closing base (Ok (Some (BadLine n))) held task waiting = HasLed leads base held task waiting
RunHasLed leads closing base (Ok (Some (Limit count))) held task waiting = HasLed leads base held task waiting
RunHasLed leads closing base (Ok (Some ReadFault)) held task waiting = HadLed leads closing base held waiting
RunHasLed leads closing base (Ok (Some WriteFault)) held task waiting = HadLed leads closing base held waiting
RunHasLed leads closing base (Ok (Some NoMemory)) held task waiting = HadLed leads closing base held waiting
RunHasLed leads closing base (Err e) held task waiting = GotPart leads closing base held

-- behind all steps
abbrev pub EndHasLed : {Self : Type 0} → (Self → List ℕ → Type 0) → (Self → List ℕ) → List ℕ → Result RunEnd Failed → Option (List ℕ) → Self → List ℕ → Type 0
EndHasLed leads closing base (Ok end) held task waiting = RunHasLed leads closing base (Ok (Some end)) held task waiting
EndHasLed leads closing base (Err e) held task waiting = GotPart leads closing base held
