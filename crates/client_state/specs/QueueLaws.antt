-- What holds of the request at the head of a client's queue.
use Rattle.std.specs.Prelude.{◌≡◌, Bool, true, false, ◌||◌, not, ◌==◌, length, Option, Some, None}
use Rattle.client_state.specs.declared.layout.Layout.{Layout}
use Rattle.client_state.specs.ClientQueue.{HeadStep, IsDone, IsWaiting, Asks, is_writing}

-- the layout is being given back, or a write under it is not told yet
abbrev pub is_under_way : Option Layout → Bool
is_under_way None = false
is_under_way (Some l) = not (is_writing l.stage) || not (length l.untold == 0)

-- A request that is kept, and for which nothing is asked, waits for something that is under way.
abbrev pub WaitsForCause : HeadStep → Type 0
WaitsForCause (IsDone r) = Unit {0}
WaitsForCause (IsWaiting c) = is_under_way c.layout ≡ true
WaitsForCause (Asks kind) = Unit {0}
