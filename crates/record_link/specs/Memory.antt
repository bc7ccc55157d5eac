-- A stream over memory.
use Rattle.std.specs.Prelude.{ℕ, ◌==◌, ◌&&◌, min, if◌then◌else◌, Bool, List, [], ◌∷◌, length, Result, Ok, Err}
use Rattle.record_link.specs.declared.stream.Halt.{Halt}
use Rattle.record_link.specs.declared.stream.Halt.TheVariants.{WouldBlock, Ended, Lost}

-- what is to come, what was written, the most bytes of each call, whether it is cut off behind these calls, and how many calls found it so
pub record MemoryState : Type 0 where
  pub coming : List ℕ
  pub gone : List ℕ
  pub sizes : List ℕ
  pub cut : Bool
  pub faults : ℕ

-- of so many bytes, how many the next call moves
abbrev pub size_of : List ℕ → ℕ → ℕ
size_of [] most = most
size_of (size ∷ sizes) most = min size most

-- it is cut off
abbrev pub is_cut : MemoryState → Bool
is_cut m = m.cut && (length m.sizes == 0)

-- what reading into a piece of so many bytes answers
abbrev pub read_size : MemoryState → ℕ → Result ℕ Halt
read_size m room =
    if is_cut m then Err Lost
    else (if length m.coming == 0 then Err Ended
    else (if size_of m.sizes (min room (length m.coming)) == 0 then Err WouldBlock else Ok (size_of m.sizes (min room (length m.coming)))))
