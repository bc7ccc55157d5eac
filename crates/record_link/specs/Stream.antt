-- What a stream of bytes gives and takes, both ways, where it tells them.
use Rattle.std.specs.Prelude.{⊤, ◌≡◌, ℕ, ◌+◌, ◌≤◌, List, [], ◌++◌, length, take, Option, None, Some, Result, Ok, Err}
use Rattle.rpc_record.specs.Stream.{one_more}
use Rattle.record_link.specs.declared.stream.Halt.{Halt}
use Rattle.record_link.specs.declared.stream.Halt.TheVariants.{WouldBlock, Ended, Lost, NoMemory}

-- how many calls found the stream to be of no use any more, with this one
abbrev pub lost_more : {T : Type 0} → Result T Halt → ℕ → ℕ
lost_more (Ok x) n = n
lost_more (Err Lost) n = one_more n
lost_more (Err WouldBlock) n = n
lost_more (Err Ended) n = n
lost_more (Err NoMemory) n = n

-- these bytes came next of those that were to come
abbrev pub Comes : Option (List ℕ) → List ℕ → Option (List ℕ) → Type 0
Comes None piece new = new ≡ None
Comes (Some coming) piece new = (rest : List ℕ) × (coming ≡ piece ++ rest) × (new ≡ Some rest)

-- nothing is to come
abbrev pub IsEnd : Option (List ℕ) → Type 0
IsEnd None = ⊤
IsEnd (Some coming) = coming ≡ []

-- What reading did to the bytes that are to come. The piece is as it is afterwards.
abbrev pub ReadsStream : Option (List ℕ) → List ℕ → Result ℕ Halt → Option (List ℕ) → Type 0
ReadsStream coming piece (Ok n) new = Comes coming (take n piece) new
ReadsStream coming piece (Err Ended) new = IsEnd coming × (new ≡ coming)
ReadsStream coming piece (Err WouldBlock) new = new ≡ coming
ReadsStream coming piece (Err Lost) new = new ≡ coming
ReadsStream coming piece (Err NoMemory) new = new ≡ coming

-- the bytes that went, with more behind them
abbrev pub gone_more : Option (List ℕ) → List ℕ → Option (List ℕ)
gone_more None piece = None
gone_more (Some gone) piece = Some (gone ++ piece)

-- what writing did to the bytes that went
abbrev pub WritesStream : Option (List ℕ) → List ℕ → Result ℕ Halt → Option (List ℕ) → Type 0
WritesStream gone piece (Ok n) new = new ≡ gone_more gone (take n piece)
WritesStream gone piece (Err e) new = new ≡ gone

-- What reading into a buffer from a place on did: the bytes that came stand there; at the end nothing is to come.
abbrev pub ReadsAt : ℕ → List ℕ → Option (List ℕ) → Result ℕ Halt → List ℕ → Option (List ℕ) → Type 0
ReadsAt mark old coming (Ok n) new coming' =
    (piece : List ℕ) × (length piece ≡ n) × (take (mark + n) new ≡ take mark old ++ piece) × (mark + n ≤ length new) × (length new ≡ length old) × Comes coming piece coming'
ReadsAt mark old coming (Err Ended) new coming' = (take mark new ≡ take mark old) × IsEnd coming × (coming' ≡ coming)
ReadsAt mark old coming (Err WouldBlock) new coming' = (take mark new ≡ take mark old) × (coming' ≡ coming)
ReadsAt mark old coming (Err Lost) new coming' = (take mark new ≡ take mark old) × (coming' ≡ coming)
ReadsAt mark old coming (Err NoMemory) new coming' = (take mark new ≡ take mark old) × (coming' ≡ coming)

-- What reading into a list did: the bytes that came stand behind it; at the end nothing is to come; else nothing was done.
abbrev pub ReadsInto : List ℕ → Option (List ℕ) → Result ℕ Halt → List ℕ → Option (List ℕ) → Type 0
ReadsInto old coming (Ok n) new coming' = (piece : List ℕ) × (length piece ≡ n) × (new ≡ old ++ piece) × Comes coming piece coming'
ReadsInto old coming (Err Ended) new coming' = (new ≡ old) × IsEnd coming × (coming' ≡ coming)
ReadsInto old coming (Err WouldBlock) new coming' = (new ≡ old) × (coming' ≡ coming)
ReadsInto old coming (Err Lost) new coming' = (new ≡ old) × (coming' ≡ coming)
ReadsInto old coming (Err NoMemory) new coming' = (new ≡ old) × (coming' ≡ coming)

-- What writing a list to its end did: a beginning of it went, all where nothing stopped it, and what did not go still stands.
pub record WritesOut (old : List ℕ) (gone : Option (List ℕ)) (result : Result (Unit {0}) Halt) (new : List ℕ) (gone' : Option (List ℕ)) : Type 0 where
  pub went : List ℕ
  pub stands : old ≡ went ++ new
  pub told : gone' ≡ gone_more gone went
  pub whole : result ≡ Ok tt → new ≡ []
