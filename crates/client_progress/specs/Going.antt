-- What a client waits for, and that it is never stuck.
use Rattle.std.specs.Prelude.{◌≡◌, ◌≢◌, ℕ, Bool, true, false, not, List, [], ◌∷◌, Option, Some, None, slice_get, ◌⊎◌}
use Rattle.cluster_model.specs.declared.ids.NodeId.{NodeId}
use Rattle.cluster_model.specs.declared.ids.NodeId.TheVariants.{Server}
use Rattle.mirror_writer.specs.declared.call.WriterCall.{WriterCall}
use Rattle.mirror_writer.specs.declared.call.WriterCall.TheVariants.{NoCall, OutWrite, OutCommit}
use Rattle.mirror_writer.specs.Writers.{WriterMirror, next_place}
use Rattle.client_mds_calls.specs.declared.ask.MdsAsk.{MdsAsk}
use Rattle.client_mds_calls.specs.declared.ask.MdsAsk.TheVariants as ask
use Rattle.client_state.specs.declared.stage.LayoutStage.{LayoutStage}
use Rattle.client_state.specs.declared.stage.LayoutStage.TheVariants.{Writing, Ending, Deferred, Returning}
use Rattle.client_state.specs.declared.request.UserRequest.{UserRequest}
use Rattle.client_state.specs.declared.layout.Layout.{Layout}
use Rattle.client_state.specs.declared.asked.Asked.{Asked}
use Rattle.client_state.specs.ClientStates.{ClientValue, fresh_client}
use Rattle.client_state.specs.ClientQueue.{is_writing}
use Rattle.mirror_client.specs.ClientRule.{outstanding_to}
use Rattle.client_laws.specs.ClientHistory.{ClientInput, Ticked, input_step, client_after}

-- ---- what waits for a tick

-- a LAYOUTRETURN was refused for now, and goes out again at the next tick
abbrev pub is_deferred_stage : LayoutStage → Bool
is_deferred_stage Writing = false
is_deferred_stage Ending = false
is_deferred_stage Deferred = true
is_deferred_stage Returning = false

abbrev pub is_deferred : Option Layout → Bool
is_deferred None = false
is_deferred (Some l) = is_deferred_stage l.stage

-- the SEQUENCE of the compound that is outstanding was answered DELAY, so its record goes out again at the next tick
abbrev pub has_late_record : Option Asked → Bool
has_late_record None = false
has_late_record (Some asked) = asked.is_late

-- nothing waits for the next tick: not the request at the head, not the layout's return, and not the record of a compound
pub record AwaitsNoTick (c : ClientValue) : Type 0 where
  pub head : c.waits ≡ false
  pub layout : is_deferred c.layout ≡ false
  pub compound : has_late_record c.asked ≡ false

-- ---- what a client has to do, and what it awaits

-- a request is at the head of the queue
abbrev pub has_request : List UserRequest → Bool
has_request [] = false
has_request (request ∷ rest) = true

-- the layout is to be given back
abbrev pub is_given_back : Option Layout → Bool
is_given_back None = false
is_given_back (Some l) = not (is_writing l.stage)

abbrev pub HasToDo : ClientValue → Type 0
HasToDo c = (has_request c.queue ≡ true) ⊎ (is_given_back c.layout ≡ true)

-- a call of it is outstanding at some node: the one compound, or a call to the mirror of its layout there
abbrev pub AwaitsAnswer : ClientValue → Type 0
AwaitsAnswer c = (to : NodeId) × (xid : ℕ) × (outstanding_to to c ≡ Some xid)

-- it is asked again at the next tick
abbrev pub AwaitsTick : ClientValue → Type 0
AwaitsTick c = (c.waits ≡ true) ⊎ (is_deferred c.layout ≡ true)

-- a client that has something to do awaits something, while a number is left for its next call
abbrev pub IsNeverStuck : ClientValue → Type 0
IsNeverStuck c = c.next_xid ≢ 0 → HasToDo c → AwaitsAnswer c ⊎ AwaitsTick c

-- the first mirror of the layout to which a call waits
abbrev pub waiting_place : Option Layout → Option ℕ
waiting_place None = None
waiting_place (Some l) = next_place l.writer

-- to no mirror a call waits, while a number is left: each one that has a write to send, or is to commit, has a call out
abbrev pub HasCalledMirrors : ClientValue → Type 0
HasCalledMirrors c = c.next_xid ≢ 0 → waiting_place c.layout ≡ None

-- the number of the call that is out at a mirror
abbrev pub number_of_call : WriterCall → Option ℕ
number_of_call NoCall = None
number_of_call (OutWrite xid write timeouts) = Some xid
number_of_call (OutCommit xid timeouts) = Some xid

-- what is outstanding at the data server of a mirror of the layout is the call that is out at this mirror
abbrev pub AwaitsOwnMirrors : ClientValue → Type 0
AwaitsOwnMirrors c =
    (l : Layout) (place : ℕ) (m : WriterMirror) → c.layout ≡ Some l → slice_get l.writer.mirrors place ≡ Some m → outstanding_to (Server m.id.server) c ≡ number_of_call m.call

-- what is to go out anew did go out, while a number is left
abbrev pub HasSentAnew : ClientValue → Type 0
HasSentAnew c = c.next_xid ≢ 0 → c.again ≡ None

-- behind a tick a client that has something to do, and has not left the protocol, awaits an answer
abbrev pub AsksAtTick : ClientValue → Type 0
AsksAtTick c =
    (now : ℕ) → c.has_left ≡ false → (input_step (Ticked now) c).client.next_xid ≢ 0 → HasToDo (input_step (Ticked now) c).client → AwaitsAnswer (input_step (Ticked now) c).client

-- ---- a layout whose return is out

abbrev pub is_returning_stage : LayoutStage → Bool
is_returning_stage Writing = false
is_returning_stage Ending = false
is_returning_stage Deferred = false
is_returning_stage Returning = true

abbrev pub is_returning : Option Layout → Bool
is_returning None = false
is_returning (Some l) = is_returning_stage l.stage

-- the compound that is outstanding asks this
abbrev pub IsOutFor : MdsAsk → Option Asked → Type 0
IsOutFor kind asked = (a : Asked) × (asked ≡ Some a) × (a.ask ≡ kind)

-- its LAYOUTRETURN is the compound that is outstanding, or is to go out anew
abbrev pub ReturnsByCompound : ClientValue → Type 0
ReturnsByCompound c = is_returning c.layout ≡ true → IsOutFor ask.LayoutReturn c.asked ⊎ (c.again ≡ Some ask.LayoutReturn)

-- ---- all of it

-- of a client behind each event of each run of it, whatever number, verifier and first number of a call it begins with
abbrev pub BehindEachEvent : (ClientValue → Type 0) → Type 0
BehindEachEvent P = (number verifier first_xid : ℕ) (inputs : List ClientInput) → P (client_after (fresh_client number verifier first_xid) inputs)
