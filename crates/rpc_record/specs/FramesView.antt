-- How the fields of `Frames` stand for the front of a stream, and what its steps do.
use Rattle.std.specs.Prelude.{⊤, ◌≡◌, ℕ, ◌+◌, ◌-◌, ◌<◌, ◌≤◌, nat_lt, Bool, true, false, if◌then◌else◌, List, [], ◌++◌, length, take, drop, Result, Ok, Err}
use Rattle.rpc_record.specs.declared.frames.Stage.{Stage}
use Rattle.rpc_record.specs.declared.frames.Stage.TheVariants as stage
use Rattle.rpc_record.specs.declared.frames.RecordFault.{RecordFault}
use Rattle.rpc_record.specs.declared.frames.RecordFault.TheVariants as fault
use Rattle.rpc_record.specs.Frames.{max_record, length_in, is_last, Coming, Header, FragmentBody, Front, Open, Whole, TooLong, TooManyFragments, front_from, behind_header}

-- the front that a stage stands for, where these bytes were gathered
abbrev pub front_at : List ℕ → Stage → Front
front_at gathered (stage.Header headers bytes count) = Open (record { gathered = gathered; headers = headers; coming = Header (take count bytes) })
front_at gathered (stage.Body headers left last) = Open (record { gathered = gathered; headers = headers; coming = FragmentBody left last })
front_at gathered stage.Whole = Whole gathered []
front_at gathered stage.TooLong = TooLong
front_at gathered stage.TooManyFragments = TooManyFragments

-- the header of a stage is not whole, and of its body something is to come
abbrev pub IsStage : Stage → Type 0
IsStage (stage.Header headers bytes count) = (count < 4) × (length bytes ≡ 4)
IsStage (stage.Body headers left last) = 0 < left
IsStage stage.Whole = ⊤
IsStage stage.TooLong = ⊤
IsStage stage.TooManyFragments = ⊤

-- What is gathered, with what is to come of its fragment, is no more than a record may have.
abbrev pub IsInLimit : ℕ → Stage → Type 0
IsInLimit n (stage.Header headers bytes count) = n ≤ max_record
IsInLimit n (stage.Body headers left last) = n + left ≤ max_record
IsInLimit n stage.Whole = n ≤ max_record
IsInLimit n stage.TooLong = n ≤ max_record
IsInLimit n stage.TooManyFragments = n ≤ max_record

-- more of the record is to come
abbrev pub is_more : Stage → Bool
is_more (stage.Header headers bytes count) = true
is_more (stage.Body headers left last) = true
is_more stage.Whole = false
is_more stage.TooLong = false
is_more stage.TooManyFragments = false

-- the front where so many bytes of a fragment are to come
abbrev pub front_settled : List ℕ → ℕ → ℕ → Bool → Front
front_settled gathered headers left last =
    if nat_lt 0 left then Open (record { gathered = gathered; headers = headers; coming = FragmentBody left last })
    else (if last then Whole gathered [] else Open (record { gathered = gathered; headers = headers; coming = Header [] }))

-- the front behind a header
abbrev pub front_behind : List ℕ → ℕ → ℕ → Front
front_behind gathered headers w =
    if nat_lt max_record (length gathered + length_in w) then TooLong
    else (if nat_lt 0 headers then front_settled gathered (headers - 1) (length_in w) (is_last w) else TooManyFragments)

-- what has come of a fragment, resumed with more bytes
unfoldable pub resume_part : List ℕ → ℕ → Coming → List ℕ → Front
resume_part gathered headers (Header bytes) more = front_from headers gathered (bytes ++ more)
resume_part gathered headers (FragmentBody left last) more = behind_header headers gathered left last more (front_from headers)

-- a front, resumed with more bytes
unfoldable pub resume : Front → List ℕ → Front
resume (Open part) more = resume_part part.gathered part.headers part.coming more
resume (Whole message rest) more = Whole message (rest ++ more)
resume TooLong more = TooLong
resume TooManyFragments more = TooManyFragments

-- these bytes lead from the one front to the other, whatever follows
abbrev pub Steps : Front → List ℕ → Front → Type 0
Steps old text new = (more : List ℕ) → resume old (text ++ more) ≡ resume new more

-- Bytes of a piece were taken, at least one; what was gathered stays.
pub record TakesSome (old : List ℕ) (start : Stage) (piece : List ℕ) (taken : ℕ) (new : List ℕ) (end : Stage) : Type 0 where
  pub some : 0 < taken
  pub within : taken ≤ length piece
  pub steps : Steps (front_at old start) (take taken piece) (front_at new end)
  pub stage : IsStage end
  pub limit : IsInLimit (length old) start → IsInLimit (length new) end
  pub added : List ℕ
  pub grows : new ≡ old ++ added

-- Bytes of a piece were taken: all, or all up to where no more of the record is to come.
pub record Gathers (old : List ℕ) (start : Stage) (piece : List ℕ) (taken : ℕ) (new : List ℕ) (end : Stage) : Type 0 where
  pub within : taken ≤ length piece
  pub steps : Steps (front_at old start) (take taken piece) (front_at new end)
  pub stage : IsStage end
  pub limit : IsInLimit (length old) start → IsInLimit (length new) end
  pub stops : is_more end ≡ true → drop taken piece ≡ []

-- what is answered where so many bytes were taken
abbrev pub answers : Stage → ℕ → Result ℕ RecordFault
answers (stage.Header headers bytes count) taken = Ok taken
answers (stage.Body headers left last) taken = Ok taken
answers stage.Whole taken = Ok taken
answers stage.TooLong taken = Err fault.TooLong
answers stage.TooManyFragments taken = Err fault.TooManyFragments
