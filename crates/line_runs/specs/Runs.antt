-- A run over the lines of a source to its end.
use Rattle.std.specs.Prelude.{⊤, ◌⊎◌, ◌≡◌, ℕ, ◌<◌, ◌≤◌, Bool, true, false, List, [], ◌++◌, length, take, Option, Some, None}
use Rattle.rpc_record.specs.Stream.{one_more}
use Rattle.line_runs.specs.declared.end.RunEnd.{RunEnd}
use Rattle.line_runs.specs.declared.end.RunEnd.TheVariants as ends
use Rattle.line_runs.specs.Lines.{script_lines, ended_lines}
use Rattle.line_runs.specs.Writing.{IsBeginningOf}

-- ---- what lines come to

-- the text that they add; the number of the first that is outside the grammar; whether what a line asks for would pass a
-- limit; how many entries there are by then; and the text that is added where they end
pub record RunEffect : Type 0 where
  pub text : List ℕ
  pub bad : Option ℕ
  pub past : Bool
  pub count : ℕ
  pub closing : List ℕ

-- what no lines come to, where there are so many entries
abbrev pub at_end : ℕ → List ℕ → RunEffect
at_end count closing = record { text = []; bad = None; past = false; count = count; closing = closing }

-- this text was added, and what is to come comes to that
abbrev pub after_text : List ℕ → RunEffect → RunEffect
after_text text rest = record { text = text ++ rest.text; bad = rest.bad; past = rest.past; count = rest.count; closing = rest.closing }

-- all of the text
abbrev pub whole_text : RunEffect → List ℕ
whole_text effect = effect.text ++ effect.closing

-- what lines come to, as a function of the lines
abbrev pub LinesMeaning : Type 0
LinesMeaning = List (List ℕ) → RunEffect

-- What the bytes of a source come to: of one that is longer than the budget, its lines that end within it.
abbrev pub source_effect : ℕ → LinesMeaning → List ℕ → RunEffect
source_effect budget meaning bytes = meaning (script_lines budget bytes)

-- What the lines come to that end in a newline: all that is known of bytes whose source failed behind them.
abbrev pub ended_effect : ℕ → LinesMeaning → List ℕ → RunEffect
ended_effect budget meaning bytes = meaning (ended_lines (take budget bytes))

-- ---- what a run says of the bytes of its source

-- A line would pass a limit; or none would, all lines that end within the budget are in the grammar, and the bytes go on behind
-- it.
abbrev pub IsPastLimit : ℕ → LinesMeaning → List ℕ → Type 0
IsPastLimit budget meaning bytes =
    ((source_effect budget meaning bytes).past ≡ true)
    ⊎ (((source_effect budget meaning bytes).past ≡ false) × ((source_effect budget meaning bytes).bad ≡ None) × (budget < length bytes))

-- Why a run over these bytes ended so: all lines were played and there are no more bytes; this line is the first outside the
-- grammar; a limit would be passed, and there are so many entries.
-- The other ends have their causes in the counts of faults.
abbrev pub Ends : ℕ → LinesMeaning → List ℕ → RunEnd → Type 0
Ends budget meaning bytes ends.Done = ((source_effect budget meaning bytes).bad ≡ None) × ((source_effect budget meaning bytes).past ≡ false) × (length bytes ≤ budget)
Ends budget meaning bytes (ends.BadLine n) = ((source_effect budget meaning bytes).bad ≡ Some n) × ((source_effect budget meaning bytes).past ≡ false)
Ends budget meaning bytes (ends.Limit count) = IsPastLimit budget meaning bytes × (count ≡ (source_effect budget meaning bytes).count)
Ends budget meaning bytes ends.ReadFault = ⊤
Ends budget meaning bytes ends.WriteFault = ⊤
Ends budget meaning bytes ends.NoMemory = ⊤

-- the sink took all of the text, or a beginning of it
abbrev pub TookAll : List ℕ → List ℕ → Option (List ℕ) → Type 0
TookAll held text new = new ≡ Some (held ++ text)

abbrev pub TookPart : List ℕ → List ℕ → Option (List ℕ) → Type 0
TookPart held text new = (part : List ℕ) × IsBeginningOf part text × (new ≡ Some (held ++ part))

-- These bytes were read, and the rest is left.
pub record HasRead (bytes read : List ℕ) (left : Option (List ℕ)) : Type 0 where
  pub rest : List ℕ
  pub told : left ≡ Some rest
  pub joined : read ++ rest ≡ bytes

-- The source failed: the lines that end in what was read are in the grammar and within the limits, and the sink got their text
-- with nothing in the end.
pub record FailedBehind (budget : ℕ) (meaning : LinesMeaning) (bytes held : List ℕ) (left' held' : Option (List ℕ)) : Type 0 where
  pub read : List ℕ
  pub gave : HasRead bytes read left'
  pub short : length read ≤ budget
  pub good : (ended_effect budget meaning read).bad ≡ None
  pub within : (ended_effect budget meaning read).past ≡ false
  pub text : TookAll held (ended_effect budget meaning read).text held'

-- The sink failed, or memory was wanted: the sink got a beginning of the whole text of the lines that end in what was read, or,
-- where all was read, of the source.
pub record TookOfRead (budget : ℕ) (meaning : LinesMeaning) (bytes held : List ℕ) (left' held' : Option (List ℕ)) : Type 0 where
  pub read : List ℕ
  pub gave : HasRead bytes read left'
  pub text : TookPart held (whole_text (ended_effect budget meaning read)) held' ⊎ ((read ≡ bytes) × TookPart held (whole_text (source_effect budget meaning bytes)) held')

-- What a sink that held these bytes got: the whole text; the text of what was read before the source failed; or a beginning of
-- the whole text of what was read.
abbrev pub SinkGot : ℕ → LinesMeaning → List ℕ → List ℕ → RunEnd → Option (List ℕ) → Option (List ℕ) → Type 0
SinkGot budget meaning bytes held ends.Done left' new = TookAll held (whole_text (source_effect budget meaning bytes)) new
SinkGot budget meaning bytes held (ends.BadLine n) left' new = TookAll held (whole_text (source_effect budget meaning bytes)) new
SinkGot budget meaning bytes held (ends.Limit count) left' new = TookAll held (whole_text (source_effect budget meaning bytes)) new
SinkGot budget meaning bytes held ends.ReadFault left' new = FailedBehind budget meaning bytes held left' new
SinkGot budget meaning bytes held ends.WriteFault left' new = TookOfRead budget meaning bytes held left' new
SinkGot budget meaning bytes held ends.NoMemory left' new = TookOfRead budget meaning bytes held left' new

-- what is left of the source: nothing where all lines were played
abbrev pub Leaves : RunEnd → Option (List ℕ) → Type 0
Leaves ends.Done left = left ≡ Some []
Leaves (ends.BadLine n) left = ⊤
Leaves (ends.Limit count) left = ⊤
Leaves ends.ReadFault left = ⊤
Leaves ends.WriteFault left = ⊤
Leaves ends.NoMemory left = ⊤

-- What a run did that takes so many bytes of a source, by what the source and the sink tell.
abbrev pub Runs : ℕ → LinesMeaning → Option (List ℕ) → Option (List ℕ) → RunEnd → Option (List ℕ) → Option (List ℕ) → Type 0
Runs budget meaning None held end left' held' = ⊤
Runs budget meaning (Some bytes) None end left' held' = Ends budget meaning bytes end × Leaves end left'
Runs budget meaning (Some bytes) (Some held) end left' held' = Ends budget meaning bytes end × Leaves end left' × SinkGot budget meaning bytes held end left' held'

-- What a task has become where lines ended the run: what it is after the lines of the source.
abbrev pub HasBecome : {State : Type 0} → ℕ → (List (List ℕ) → State) → Option (List ℕ) → RunEnd → State → Type 0
HasBecome budget after None end state = ⊤
HasBecome budget after (Some bytes) ends.Done state = state ≡ after (script_lines budget bytes)
HasBecome budget after (Some bytes) (ends.BadLine n) state = state ≡ after (script_lines budget bytes)
HasBecome budget after (Some bytes) (ends.Limit count) state = state ≡ after (script_lines budget bytes)
HasBecome budget after (Some bytes) ends.ReadFault state = ⊤
HasBecome budget after (Some bytes) ends.WriteFault state = ⊤
HasBecome budget after (Some bytes) ends.NoMemory state = ⊤

-- The count of the source's faults: one more at its fault, and as before at every other end. So the source was not asked again
-- before the text so far was written.
abbrev pub read_faults : RunEnd → ℕ → ℕ
read_faults ends.Done n = n
read_faults (ends.BadLine line) n = n
read_faults (ends.Limit count) n = n
read_faults ends.ReadFault n = one_more n
read_faults ends.WriteFault n = n
read_faults ends.NoMemory n = n

-- the count of the sink's faults
abbrev pub write_faults : RunEnd → ℕ → ℕ
write_faults ends.Done n = n
write_faults (ends.BadLine line) n = n
write_faults (ends.Limit count) n = n
write_faults ends.ReadFault n = n
write_faults ends.WriteFault n = one_more n
write_faults ends.NoMemory n = n
