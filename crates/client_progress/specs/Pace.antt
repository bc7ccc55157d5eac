-- When a record of a client goes out again.
use Rattle.std.specs.Prelude.{⊤, ◌≡◌, ℕ, Bool, true, false, List, [], ◌∷◌, Option, Some}
use Rattle.std.specs.List.{filter}
use Rattle.cluster_model.specs.declared.entry.Entry.{Entry}
use Rattle.cluster_model.specs.declared.entry.Entry.TheVariants.{TimedOut}
use Rattle.client_state.specs.declared.asked.Asked.{Asked}
use Rattle.client_state.specs.ClientStates.{ClientValue}
use Rattle.client_state.specs.ClientSends.{ClientSend, CallsServer, CallsMds, RepeatsToServer, RepeatsToMds, RepliesToMds, ClientStep}
use Rattle.client_laws.specs.ClientHistory.{ClientInput, Requested, Recorded, TimeoutOf, Ticked, LeftProtocol, Strayed, input_step}

-- the record of a call that went before
abbrev pub is_again : ClientSend → Bool
is_again (CallsServer server xid name uid call) = false
is_again (CallsMds xid name call) = false
is_again (RepeatsToServer server xid name uid call) = true
is_again (RepeatsToMds xid message) = true
is_again (RepliesToMds reply) = false

-- those that go out again in a step
abbrev pub sent_again : ClientStep → List ClientSend
sent_again s = filter is_again s.sends

-- there is none, or one, of which this holds
abbrev pub AtMostOne : (ClientSend → Type 0) → List ClientSend → Type 0
AtMostOne P [] = ⊤
AtMostOne P (s ∷ []) = P s
AtMostOne P (s ∷ t ∷ more) = ⊥

-- it is the compound that is outstanding, as it was sent
abbrev pub IsOutstanding : Option Asked → ClientSend → Type 0
IsOutstanding asked s = (a : Asked) × (asked ≡ Some a) × (s ≡ RepeatsToMds a.xid a.message)

-- it is the call of this number
abbrev pub IsOfNumber : ℕ → ClientSend → Type 0
IsOfNumber xid (CallsServer server own name uid call) = ⊥
IsOfNumber xid (CallsMds own name call) = ⊥
IsOfNumber xid (RepeatsToServer server own name uid call) = own ≡ xid
IsOfNumber xid (RepeatsToMds own message) = own ≡ xid
IsOfNumber xid (RepliesToMds reply) = ⊥

-- the first entry is the timeout of this call
abbrev pub IsOfTimeout : List Entry → ClientSend → Type 0
IsOfTimeout (TimedOut node xid ∷ entries) s = IsOfNumber xid s
IsOfTimeout entries s = ⊥

-- What goes out again, by what came.
abbrev pub PacesInput : ClientInput → ClientValue → Type 0
PacesInput (Requested request) c = sent_again (input_step (Requested request) c) ≡ []
PacesInput (Recorded from bytes now) c = sent_again (input_step (Recorded from bytes now) c) ≡ []
PacesInput (TimeoutOf to) c = AtMostOne (IsOfTimeout (input_step (TimeoutOf to) c).entries) (sent_again (input_step (TimeoutOf to) c))
PacesInput (Ticked now) c = AtMostOne (IsOutstanding (input_step (Ticked now) c).client.asked) (sent_again (input_step (Ticked now) c))
PacesInput LeftProtocol c = sent_again (input_step LeftProtocol c) ≡ []
PacesInput (Strayed place at bytes) c = sent_again (input_step (Strayed place at bytes) c) ≡ []
