-- A network over memory.
use Rattle.std.specs.Prelude.{ℕ, List, [], ◌∷◌, Option, Some, Result, Ok, Err}
use Rattle.record_link.specs.Memory.{MemoryState}
use Rattle.record_server.specs.declared.network.Refused.{Refused}

-- the bytes that each stream will give, of those that are still to be accepted
abbrev pub streams_in : List (Result MemoryState Refused) → List (Option (List ℕ))
streams_in [] = []
streams_in (Ok stream ∷ rest) = Some stream.coming ∷ streams_in rest
streams_in (Err refused ∷ rest) = streams_in rest
