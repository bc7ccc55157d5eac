-- How many records are handed out before each connection has its turn.
use Rattle.std.specs.Prelude.{⊤, ◌≡◌, ℕ, ◌+◌, ◌-◌, ◌*◌, ◌≤◌, List, [], ◌∷◌}
use Rattle.record_server.specs.declared.server.TheConstants.{MOST_HANDED}
use Rattle.record_server.specs.Server.{ServingState, Begins, Accepts, Visits, Leaves, Makes, Misses, Pushes, Passes, Ends}
use Rattle.record_server.specs.History.{Event, Does, Hands, Puts, Excuses}

-- no round begins with it, nor ends all
abbrev pub IsInRound : Event → Type 0
IsInRound (Does (Begins time reported)) = ⊥
IsInRound (Does (Accepts number coming went faults)) = ⊤
IsInRound (Does (Visits came)) = ⊤
IsInRound (Does Leaves) = ⊤
IsInRound (Does (Makes number address coming went faults)) = ⊤
IsInRound (Does (Misses address)) = ⊤
IsInRound (Does (Pushes place)) = ⊤
IsInRound (Does (Passes could time)) = ⊤
IsInRound (Does Ends) = ⊥
IsInRound (Hands number message) = ⊤
IsInRound (Puts number message) = ⊤
IsInRound (Excuses number) = ⊤

-- how many connections were visited
abbrev pub visits_in : List Event → ℕ
visits_in [] = 0
visits_in (Does (Visits came) ∷ events) = visits_in events + 1
visits_in (event ∷ events) = visits_in events

-- how many records were handed out
abbrev pub hands_in : List Event → ℕ
hands_in [] = 0
hands_in (Hands number message ∷ events) = hands_in events + 1
hands_in (event ∷ events) = hands_in events

-- In a round the connections are visited in order, each once, and no more than so many records are handed out of each.
pub record IsFair (events : List Event) (old new : ServingState) : Type 0 where
  pub in_order : new.place ≡ old.place + visits_in events
  pub few : hands_in events ≤ MOST_HANDED * visits_in events + (MOST_HANDED - old.handed)
