-- A node by its rule: what comes to it, what it does then, and how it ends by itself.
use Rattle.std.specs.Prelude.{⊤, ◌≡◌, ℕ, Bool, true, nat_lt, List, [], ◌∷◌, ◌++◌, Option, None, Some, Result}
use Rattle.cluster_model.specs.declared.ids.NodeId.{NodeId}
use Rattle.cluster_model.specs.declared.answer.FailCause.{FailCause}
use Rattle.node_link.specs.declared.link.Arrival.{Arrival}

-- something comes to a node, at a moment in seconds
pub record NodeEvent : Type 0 where
  pub moment : ℕ
  pub arrival : Arrival

abbrev pub event_at : ℕ → Arrival → NodeEvent
event_at moment arrival = record { moment = moment; arrival = arrival }

-- A node is given a moment, as a tick, only where it is above the last one that it was given; the first counts. So what is to be asked again
-- at the next tick is asked again once in a second, however much comes in it.
abbrev pub is_new_moment : Option ℕ → ℕ → Bool
is_new_moment None moment = true
is_new_moment (Some last) moment = nat_lt last moment

-- records that are sent, each with the node that it goes to
abbrev pub SentRecords : Type 0
SentRecords = List (NodeId × List ℕ)

-- what an event makes of a node; what it sends then, in order; and the bytes that it writes to its sink
pub record NodeStep (S : Type 0) : Type 0 where
  pub state : S
  pub sends : SentRecords
  pub text : List ℕ

-- What an event does to a node; what the node came to, once it has ended by itself; whether it serves others, so that it ends well where nothing
-- more comes to it; and how many more arrivals it takes together with one, before it sends for any of them.
pub record NodeRule (S : Type 0) : Type 0 where
  pub step : S → NodeEvent → NodeStep S
  pub outcome : S → Option (Result (Unit {0}) FailCause)
  pub is_server : Bool
  pub more_at_once : ℕ

-- a node after these events, by its rule; the records that it sends over them, in order; and the bytes that it writes
abbrev pub state_after : {S : Type 0} → NodeRule S → S → List NodeEvent → S
state_after rule s [] = s
state_after rule s (e ∷ events) = state_after rule (rule.step s e).state events

abbrev pub sends_over : {S : Type 0} → NodeRule S → S → List NodeEvent → SentRecords
sends_over rule s [] = []
sends_over rule s (e ∷ events) = (rule.step s e).sends ++ sends_over rule (rule.step s e).state events

abbrev pub text_over : {S : Type 0} → NodeRule S → S → List NodeEvent → List ℕ
text_over rule s [] = []
text_over rule s (e ∷ events) = (rule.step s e).text ++ text_over rule (rule.step s e).state events

-- before each of these events it had not ended
abbrev pub HasNotEndedBefore : {S : Type 0} → NodeRule S → S → List NodeEvent → Type 0
HasNotEndedBefore rule s [] = ⊤
HasNotEndedBefore rule s (e ∷ events) = (rule.outcome s ≡ None) × HasNotEndedBefore rule (rule.step s e).state events
