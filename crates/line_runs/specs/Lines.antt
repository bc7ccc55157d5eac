-- Lines of bytes, each ended by a newline, which is the byte 10, and how they are read within a budget.
use Rattle.std.specs.Prelude.{◌≡◌, ◌≢◌, ◌<◌, ℕ, zero, suc, ◌+◌, ◌≤◌, ◌==◌, nat_le, Bool, true, false, if◌then◌else◌, List, [], ◌∷◌, ◌++◌, length, take, drop, Option, None, Some, Result, Ok, Err}
use Rattle.std.proofs.Common.{get_or}
use Rattle.rpc_record.specs.declared.stream.Failed.{Failed}
use Rattle.rpc_record.specs.declared.stream.Failed.TheVariants.{Fault, NoMemory}
use Rattle.line_runs.specs.declared.lines.Ended.{Ended}
use Rattle.line_runs.specs.declared.lines.Ended.TheVariants.{Newline, End, PastBudget as RanOver}

-- The front of some bytes: a line, with what stands behind its newline; a last line, with no newline; or more than the budget.
pub data Cut : Type 0 where
  Line : (line rest : List ℕ) → Cut
  Last : (line : List ℕ) → Cut
  PastBudget : Cut

-- the same with this byte in front of the line
abbrev pub onto : ℕ → Cut → Cut
onto b (Line line rest) = Line (b ∷ line) rest
onto b (Last line) = Last (b ∷ line)
onto b PastBudget = PastBudget

-- the first line of the bytes, within a budget of bytes, the newline among them
unfoldable pub cut_line : ℕ → List ℕ → Cut
cut_line budget [] = Last []
cut_line zero (b ∷ bs) = PastBudget
cut_line (suc n) (b ∷ bs) = if b == 10 then Line [] bs else onto b (cut_line n bs)

-- the byte in front of the first line, and in a line of its own where there is none
abbrev pub onto_first : ℕ → List (List ℕ) → List (List ℕ)
onto_first b [] = (b ∷ []) ∷ []
onto_first b (line ∷ lines) = (b ∷ line) ∷ lines

-- the byte in front of the first line, if there is one
abbrev pub onto_ended : ℕ → List (List ℕ) → List (List ℕ)
onto_ended b [] = []
onto_ended b (line ∷ lines) = (b ∷ line) ∷ lines

-- All lines. The last may lack its newline, and there is none behind a newline at the end.
unfoldable pub lines_of : List ℕ → List (List ℕ)
lines_of [] = []
lines_of (b ∷ bs) = if b == 10 then [] ∷ lines_of bs else onto_first b (lines_of bs)

-- the lines that end in a newline
unfoldable pub ended_lines : List ℕ → List (List ℕ)
ended_lines [] = []
ended_lines (b ∷ bs) = if b == 10 then [] ∷ ended_lines bs else onto_ended b (ended_lines bs)

-- the lines that are read within a budget of bytes: all, or those that end within it
unfoldable pub script_lines : ℕ → List ℕ → List (List ℕ)
script_lines budget bytes = if nat_le (length bytes) budget then lines_of bytes else ended_lines (take budget bytes)

-- a newline is among the bytes, or none is
abbrev pub HoldsLine : List ℕ → Type 0
HoldsLine held = (j : ℕ) × (j < length held) × (get_or held j 0 ≡ 10)

abbrev pub HoldsNoLine : List ℕ → Type 0
HoldsNoLine held = (j : ℕ) → j < length held → get_or held j 0 ≢ 10

-- The source gave the front of what it had left.
pub record Drawn (left : List ℕ) (left' : Option (List ℕ)) : Type 0 where
  pub front : List ℕ
  pub rest : List ℕ
  pub told : left' ≡ Some rest
  pub whole : front ++ rest ≡ left

-- The line was cut off the bytes that were held and those that the source gave, and what stands behind it is held.
pub record CutsLine (budget : ℕ) (held left line held' : List ℕ) (left' : Option (List ℕ)) : Type 0 where
  pub drawn : Drawn left left'
  pub cut : cut_line budget (held ++ drawn.front) ≡ Line line held'

-- The line is all of the bytes, and nothing is held or left.
pub record CutsLast (budget : ℕ) (held left line held' : List ℕ) (left' : Option (List ℕ)) : Type 0 where
  pub cut : cut_line budget (held ++ left) ≡ Last line
  pub none_held : held' ≡ []
  pub none_left : left' ≡ Some []

-- No byte is lost: those that were held and those that the source gave are the line and what is held.
pub record Keeps (held left line held' : List ℕ) (left' : Option (List ℕ)) : Type 0 where
  pub drawn : Drawn left left'
  pub kept : line ++ held' ≡ held ++ drawn.front

-- The bytes run past the budget with no newline.
pub record RunsOver (budget : ℕ) (held left line held' : List ℕ) (left' : Option (List ℕ)) : Type 0 where
  pub keeps : Keeps held left line held' left'
  pub cut : cut_line budget (held ++ keeps.drawn.front) ≡ PastBudget

-- The source failed: the line so far is all that it gave, within the budget and with no newline.
pub record BreaksOff (budget : ℕ) (held left line held' : List ℕ) (left' : Option (List ℕ)) : Type 0 where
  pub keeps : Keeps held left line held' left'
  pub none_held : held' ≡ []
  pub cut : cut_line budget line ≡ Last line

-- What reading a line did. A buffer held the first bytes and the source tells that the next are left;
-- then come the result and the line, and what is held and left afterwards.
abbrev pub ReadsLine : ℕ → List ℕ → Option (List ℕ) → Result Ended Failed → List ℕ → List ℕ → Option (List ℕ) → Type 0
ReadsLine budget held None result line held' left' = left' ≡ None
ReadsLine budget held (Some left) (Ok Newline) line held' left' = CutsLine budget held left line held' left'
ReadsLine budget held (Some left) (Ok End) line held' left' = CutsLast budget held left line held' left'
ReadsLine budget held (Some left) (Ok RanOver) line held' left' = RunsOver budget held left line held' left'
ReadsLine budget held (Some left) (Err Fault) line held' left' = BreaksOff budget held left line held' left'
ReadsLine budget held (Some left) (Err NoMemory) line held' left' = Keeps held left line held' left'

-- all bytes that are still to be read, where a source tells those that it has left: these are held before them
abbrev pub all_left : List ℕ → Option (List ℕ) → Option (List ℕ)
all_left held None = None
all_left held (Some left) = Some (held ++ left)

-- so many were moved from the front of what was held to the front of a piece
pub record MovesOut (held piece : List ℕ) (n : ℕ) (held' : List ℕ) : Type 0 where
  pub within : n ≤ length held
  pub same : take n piece ≡ take n held
  pub rest : held' ≡ drop n held

-- how much of the budget a line took
abbrev pub IsWithinBudget : ℕ → Ended → List ℕ → Type 0
IsWithinBudget budget Newline line = length line + 1 ≤ budget
IsWithinBudget budget End line = length line ≤ budget
IsWithinBudget budget RanOver line = length line ≤ budget

-- What filling a buffer did that may hold bytes already: it holds some, or there are none, and nothing is lost. The source
-- is asked only where none was held.
abbrev pub Refills : List ℕ → Option (List ℕ) → Result Bool Failed → List ℕ → Option (List ℕ) → Type 0
Refills held None result held' left' = left' ≡ None
Refills held (Some left) (Ok true) held' left' = Keeps held left [] held' left'
Refills held (Some left) (Ok false) held' left' = (held ≡ []) × (held' ≡ []) × (left ≡ []) × (left' ≡ Some [])
Refills held (Some left) (Err e) held' left' = (held ≡ []) × (held' ≡ []) × (left' ≡ Some left)

-- What taking a line from held bytes did, where there was room for so many more: a line and its newline were moved behind
-- the line's old bytes; or there is no newline within the room; or all was moved.
abbrev pub TakesLine : ℕ → List ℕ → List ℕ → Result (Option Ended) Failed → List ℕ → List ℕ → Type 0
TakesLine room held line (Ok (Some Newline)) held' line' = (more : List ℕ) × (line' ≡ line ++ more) × (cut_line room held ≡ Line more held')
TakesLine room held line (Ok (Some End)) held' line' = ⊥
TakesLine room held line (Ok (Some RanOver)) held' line' = (cut_line room held ≡ PastBudget) × (held' ≡ held) × (line' ≡ line)
TakesLine room held line (Ok None) held' line' = (cut_line room held ≡ Last held) × (held' ≡ []) × (line' ≡ line ++ held)
TakesLine room held line (Err e) held' line' = (e ≡ NoMemory) × (held' ≡ held) × (line' ≡ line)
