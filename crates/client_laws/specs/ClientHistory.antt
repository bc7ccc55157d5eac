-- The history of a client's run: what it heard, what it entered into the journal, and what it sent, in order.
use Rattle.std.specs.Prelude.{◌≡◌, ℕ, List, [], ◌∷◌, ◌++◌, map, ◌⊎◌}
use Rattle.cluster_model.specs.declared.ids.NodeId.{NodeId}
use Rattle.cluster_model.specs.declared.entry.Entry.{Entry}
use Rattle.client_state.specs.declared.request.UserRequest.{UserRequest}
use Rattle.client_state.specs.ClientStates.{ClientValue}
use Rattle.client_state.specs.ClientSends.{ClientSend, ClientStep, sends_none}
use Rattle.mirror_client.specs.ClientRule.{client_requested, client_recorded, client_timed_out, client_ticked, turned, strays}

-- What comes to a client: a request of its user; a record from a node at a moment, whatever its bytes; a timeout of its call to a
-- node; a tick at a moment; it leaves the protocol, and then sends a write to a mirror by its place.
pub data ClientInput : Type 0 where
  Requested : (request : UserRequest) → ClientInput
  Recorded : (from : NodeId) (bytes : List ℕ) (now : ℕ) → ClientInput
  TimeoutOf : (to : NodeId) → ClientInput
  Ticked : (now : ℕ) → ClientInput
  LeftProtocol : ClientInput
  Strayed : (place at : ℕ) (bytes : List ℕ) → ClientInput

-- by the rule of a client
abbrev pub input_step : ClientInput → ClientValue → ClientStep
input_step (Requested request) c = client_requested request c
input_step (Recorded from bytes now) c = client_recorded from bytes now c
input_step (TimeoutOf to) c = client_timed_out to c
input_step (Ticked now) c = client_ticked now c
input_step LeftProtocol c = sends_none (turned c)
input_step (Strayed place at bytes) c = strays c.file c.layout place at bytes c

pub data HistoryItem : Type 0 where
  Hears : (input : ClientInput) → HistoryItem
  Enters : (entry : Entry) → HistoryItem
  Sends : (send : ClientSend) → HistoryItem

abbrev pub entered : List Entry → List HistoryItem
entered entries = map Enters entries

abbrev pub sent : List ClientSend → List HistoryItem
sent sends = map Sends sends

-- what one input adds to a history
abbrev pub items_of : ClientInput → ClientStep → List HistoryItem
items_of input s = Hears input ∷ (entered s.entries ++ sent s.sends)

abbrev pub client_history : ClientValue → List ClientInput → List HistoryItem
client_history c [] = []
client_history c (input ∷ inputs) = items_of input (input_step input c) ++ client_history (input_step input c).client inputs

-- the client behind the inputs
abbrev pub client_after : ClientValue → List ClientInput → ClientValue
client_after c [] = c
client_after c (input ∷ inputs) = client_after (input_step input c).client inputs

-- ---- what is said of a history

-- these stand in it, in this order
abbrev pub InOrder : List HistoryItem → List HistoryItem → Type 0
InOrder [] history = Unit {0}
InOrder (item ∷ items) [] = ⊥
InOrder (item ∷ items) (x ∷ history) = ((item ≡ x) × InOrder items history) ⊎ InOrder (item ∷ items) history

abbrev pub HasItem : List HistoryItem → HistoryItem → Type 0
HasItem history item = InOrder (item ∷ []) history

-- each item is so, behind what came before it
abbrev pub Each : (List HistoryItem → HistoryItem → Type 0) → List HistoryItem → List HistoryItem → Type 0
Each P past [] = Unit {0}
Each P past (item ∷ items) = P past item × Each P (past ++ item ∷ []) items
