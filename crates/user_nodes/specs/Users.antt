-- A client as a node: what comes to it, what its user asks of it, and what its answers say.
use Rattle.std.specs.Prelude.{◌≡◌, ℕ, ◌≤◌, Bool, true, false, ◌||◌, if◌then◌else◌, List, [], ◌∷◌, ◌++◌, map, Option, Some, None, Result, Ok, Err}
use Rattle.cluster_model.specs.declared.answer.UserAnswer.{UserAnswer}
use Rattle.cluster_model.specs.declared.answer.UserAnswer.TheVariants.{Opened, Committed, Returned, Failed}
use Rattle.cluster_model.specs.declared.answer.FailCause.{FailCause}
use Rattle.node_link.specs.declared.link.Arrival.{Arrival}
use Rattle.node_link.specs.declared.link.Arrival.TheVariants.{Record, TimedOut, Quiet, Closed}
use Rattle.node_link.specs.Clock.{GivesMoment}
use Rattle.client_state.specs.declared.request.UserRequest.{UserRequest}
use Rattle.client_state.specs.ClientStates.{ClientValue}
use Rattle.client_state.specs.ClientSends.{ClientStep, sends_none, and_then, spelled_send}
use Rattle.mirror_client.specs.ClientRule.{client_requested, client_recorded, client_late, client_ticked}
use Rattle.ff_node.specs.Nodes.{NodeEvent, SentRecords, is_new_moment}
use Rattle.ff_node.specs.Serve.{Beside}

-- ---- what comes

-- a record, or that the call of this number to a node timed out; where nothing came, nothing is done
abbrev pub client_hears : ℕ → Arrival → ClientValue → ClientStep
client_hears now (Record from bytes) c = client_recorded from bytes now c
client_hears now (TimedOut node xid) c = client_late node (Some xid) c
client_hears now Quiet c = sends_none c
client_hears now Closed c = sends_none c

abbrev pub says_quiet : Arrival → Bool
says_quiet Quiet = true
says_quiet arrival = false

-- Time passes for a client where the moment is above the last that it was given; and where nothing came for a while, in the same second too, so
-- that what waits for a tick is asked again.
abbrev pub time_passes : Option ℕ → NodeEvent → Bool
time_passes last e = is_new_moment last e.moment || says_quiet e.arrival

abbrev pub client_passes : Option ℕ → NodeEvent → ClientValue → ClientStep
client_passes last e c = if time_passes last e then client_ticked e.moment c else sends_none c

-- The moment comes first, as a tick, and then what arrived.
abbrev pub client_does : Option ℕ → NodeEvent → ClientValue → ClientStep
client_does last e c = and_then (client_passes last e c) (client_hears e.moment e.arrival)

abbrev pub records_of : ClientStep → SentRecords
records_of s = map spelled_send s.sends

-- ---- what its user asks, one after the other

unfoldable pub all_requested : List UserRequest → ClientValue → ClientStep
all_requested [] c = sends_none c
all_requested (r ∷ requests) c = and_then (client_requested r c) (all_requested requests)

-- a client was asked these, and sends what comes of it behind what it sent before
abbrev pub HasAsked : List UserRequest → ClientValue → SentRecords → ClientValue → SentRecords → Type 0
HasAsked requests c sends c' sends' = (c' ≡ (all_requested requests c).client) × (sends' ≡ sends ++ records_of (all_requested requests c))

-- ---- what its answers say

abbrev pub says_opened : UserAnswer → Bool
says_opened (Opened file) = true
says_opened answer = false

abbrev pub says_committed : UserAnswer → Bool
says_committed (Committed writes) = true
says_committed answer = false

abbrev pub says_returned : UserAnswer → Bool
says_returned Returned = true
says_returned answer = false

-- the first that says that a request was not done
abbrev pub first_failure : List UserAnswer → Option FailCause
first_failure [] = None
first_failure (Failed cause ∷ answers) = Some cause
first_failure (answer ∷ answers) = first_failure answers

-- the first of two
abbrev pub first_of_two : Option FailCause → Option FailCause → Option FailCause
first_of_two (Some cause) other = Some cause
first_of_two None other = other

-- its answers were taken from it
abbrev pub answers_taken : ClientValue → ClientValue
answers_taken c = record c { answers = [] }

-- what came to an end: it failed by this, or, if not, it is done
abbrev pub done_or_failed : Option FailCause → Bool → Option (Result (Unit {0}) FailCause)
done_or_failed (Some cause) done = Some (Err cause)
done_or_failed None true = Some (Ok tt)
done_or_failed None false = None

-- ---- its beginning

-- the clock was asked for a moment
abbrev pub AsksClock : Beside → ℕ → Beside → Type 0
AsksClock b m b' = (b.moment ≤ m) × GivesMoment b.moments b.moment m b'.moments × (b' ≡ record b { moments = b'.moments; moment = m })
