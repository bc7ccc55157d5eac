-- What the calls of a source and of a sink of bytes do.
use Rattle.std.specs.Prelude.{◌≡◌, ℕ, ◌+◌, ◌-◌, ◌^◌, ◌<◌, ◌≤◌, ◌==◌, nat_lt, min, Bool, ◌&&◌, List, [], ◌++◌, length, take, drop, Option, None, Some, Result, Ok, Err}
use Rattle.std.specs.List.{list_any}
use Rattle.std.specs.Io.KnownBytes.{Appends, Keeps}
use Rattle.rpc_record.specs.declared.stream.Failed.{Failed}
use Rattle.rpc_record.specs.declared.stream.Failed.TheVariants.{Fault, NoMemory}

-- one more, in a count that stands still at the end of a `u64`
abbrev pub one_more : ℕ → ℕ
one_more n = min (n + 1) (2 ^ 64 - 1)

-- the count of faults after a call with this result
abbrev pub counted : {T : Type 0} → Result T Failed → ℕ → ℕ
counted (Ok x) n = n
counted (Err Fault) n = one_more n
counted (Err NoMemory) n = n

-- n bytes from the front of these were put at the front of the piece, and none only at the end
pub record FillsFrom (bytes piece : List ℕ) (n : ℕ) (new : Option (List ℕ)) : Type 0 where
  pub within : n ≤ length bytes
  pub same : take n piece ≡ take n bytes
  pub rest : new ≡ Some (drop n bytes)
  pub at_end : n ≡ 0 → 0 < length piece → bytes ≡ []

-- What a read did to the bytes that are left, where the source tells them. The piece is as it is afterwards.
abbrev pub Reads : Option (List ℕ) → List ℕ → Result ℕ Failed → Option (List ℕ) → Type 0
Reads None piece result new = new ≡ None
Reads (Some bytes) piece (Ok n) new = FillsFrom bytes piece n new
Reads (Some bytes) piece (Err e) new = new ≡ Some bytes

-- what a write did to the bytes that are held, where the sink tells them
abbrev pub Writes : Option (List ℕ) → List ℕ → Result ℕ Failed → Option (List ℕ) → Type 0
Writes None piece result new = new ≡ None
Writes (Some held) piece (Ok n) new = new ≡ Some (held ++ take n piece)
Writes (Some held) piece (Err e) new = new ≡ Some held

-- a source over a reader: the bytes that the reader will give, where they are known, and how many calls failed
pub record ReaderState : Type 0 where
  pub remaining : Option (List ℕ)
  pub faults : ℕ

-- a sink over a writer: the bytes that the writer holds, where they are known, and how many calls failed
pub record WriterState : Type 0 where
  pub contents : Option (List ℕ)
  pub faults : ℕ

-- The writer's bytes grew by the n that were taken; by none where memory was wanted. At a fault they may have grown by some from the
-- piece's front.
abbrev pub WritesTo : Option (List ℕ) → List ℕ → Result ℕ Failed → Option (List ℕ) → Type 0
WritesTo old piece (Ok n) new = Appends old new (take n piece)
WritesTo old piece (Err NoMemory) new = Keeps old new
WritesTo old piece (Err Fault) new = (n : ℕ) × Appends old new (take n piece)

-- a source over memory: the bytes that are left, the numbers of the calls that fail, how many calls were made and how many failed
pub record SourceState : Type 0 where
  pub left : List ℕ
  pub failing : List ℕ
  pub calls : ℕ
  pub faults : ℕ

-- a sink over memory: the bytes that it holds, and the same of its calls
pub record SinkState : Type 0 where
  pub held : List ℕ
  pub failing : List ℕ
  pub calls : ℕ
  pub faults : ℕ

-- The call after so many calls is one that fails. Calls have numbers from 1, and none at the end of the count.
abbrev pub fails_next : List ℕ → ℕ → Bool
fails_next failing calls = nat_lt calls (2 ^ 64 - 1) && list_any (λ number. number == calls + 1) failing
