-- The records that a client sends: each has a spelling, each call a number of its own, and each repeat is of a call that went out
-- (RFC 5531, section 9; RFC 8881, section 2.10.6).
use Rattle.std.specs.Prelude.{◌≡◌, ℕ, ◌<◌, ◌≤◌, ◌^◌, ◌⊎◌, List, [], ◌∷◌, length, Option, Some, None}
use Rattle.std.specs.List.{AllByRecursion}
use Rattle.cluster_model.specs.declared.limits.TheConstants.{MAX_FILE, PIECE_SIZE}
use Rattle.rpc_record.specs.CallNumbers.{IsBelow}
use Rattle.ds_calls.specs.DsCallLaws.{HasRecord}
use Rattle.client_mds_calls.specs.MdsCalls.{MdsCallValue}
use Rattle.client_mds_calls.specs.MdsCallLaws.{HasCompoundRecord}
use Rattle.client_mds_calls.specs.MdsCompounds.{mds_call_bytes}
use Rattle.client_state.specs.declared.request.UserRequest.{UserRequest}
use Rattle.client_state.specs.declared.request.UserRequest.TheVariants.{Open, Write, Through, Commit, Read, Return}
use Rattle.client_state.specs.ClientStates.{fresh_client}
use Rattle.client_state.specs.ClientSends.{ClientSend, CallsServer, CallsMds, RepeatsToServer, RepeatsToMds, RepliesToMds}
use Rattle.client_calls.specs.ClientLaws.{new_number}
use Rattle.client_laws.specs.ClientHistory.{ClientInput, Requested, Recorded, TimeoutOf, Ticked, LeftProtocol, Strayed, HistoryItem, Sends, HasItem, Each, client_history, client_after}

-- ---- what comes to it

-- a name has at most 255 bytes, and a piece of a file at most 65,536; places are those of a file
abbrev pub IsRequestInRange : UserRequest → Type 0
IsRequestInRange (Open name) = length name ≤ 255
IsRequestInRange (Write at bytes) = length bytes ≤ PIECE_SIZE
IsRequestInRange (Through at bytes) = length bytes ≤ PIECE_SIZE
IsRequestInRange Commit = Unit {0}
IsRequestInRange (Read at count) = (at ≤ MAX_FILE) × (count ≤ PIECE_SIZE)
IsRequestInRange Return = Unit {0}

-- numbers below 256
abbrev pub AreBytes : List ℕ → Type 0
AreBytes bytes = AllByRecursion (λ b. b < 256) bytes

-- records are of whatever bytes
abbrev pub IsInputInRange : ClientInput → Type 0
IsInputInRange (Requested request) = IsRequestInRange request
IsInputInRange (Recorded from bytes now) = AreBytes bytes
IsInputInRange (TimeoutOf to) = Unit {0}
IsInputInRange (Ticked now) = Unit {0}
IsInputInRange LeftProtocol = Unit {0}
IsInputInRange (Strayed place at bytes) = (at ≤ MAX_FILE) × (length bytes ≤ PIECE_SIZE)

-- its number and the number of its first call have four bytes, its verifier eight
pub record StartsInRange (number verifier first_xid : ℕ) : Type 0 where
  pub number_fits : number < 2 ^ 32
  pub verifier_fits : verifier < 2 ^ 64
  pub first_fits : first_xid < 2 ^ 32

-- ---- each record has a spelling

-- the numbers of the call fit their fields, and its lengths are within their maxima
abbrev pub HasSpelling : ClientSend → Type 0
HasSpelling (CallsServer server xid name uid call) = HasRecord (record { xid = xid; machine = name; user = uid; call = call })
HasSpelling (CallsMds xid name call) = HasCompoundRecord (record { xid = xid; owner = name; call = call })
HasSpelling (RepeatsToServer server xid name uid call) = HasRecord (record { xid = xid; machine = name; user = uid; call = call })
HasSpelling (RepeatsToMds xid message) = Unit {0}
HasSpelling (RepliesToMds reply) = reply.xid < 2 ^ 32

abbrev pub SendsSpelled : List HistoryItem → HistoryItem → Type 0
SendsSpelled past (Sends send) = HasSpelling send
SendsSpelled past item = Unit {0}

-- ---- each call has a number of its own

-- the numbers of all calls that stand there are below this one
abbrev pub CallsAreBelow : ℕ → List HistoryItem → Type 0
CallsAreBelow xid [] = Unit {0}
CallsAreBelow xid (Sends send ∷ items) = IsBelow xid (new_number send) × CallsAreBelow xid items
CallsAreBelow xid (item ∷ items) = CallsAreBelow xid items

-- from the first number on, within four bytes, above all before it
pub record IsNextNumber (first : ℕ) (past : List HistoryItem) (xid : ℕ) : Type 0 where
  pub from_first : first ≤ xid
  pub fits : xid < 2 ^ 32
  pub above : CallsAreBelow xid past

-- the compound of this number went out before, as this record
pub record WasAskedAs (past : List HistoryItem) (xid : ℕ) (message : List ℕ) : Type 0 where
  pub name : List ℕ
  pub call : MdsCallValue
  pub sent : HasItem past (Sends (CallsMds xid name call))
  pub same : message ≡ mds_call_bytes xid name call

abbrev pub NumbersSend : ℕ → List HistoryItem → ClientSend → Type 0
NumbersSend first past (CallsServer server xid name uid call) = IsNextNumber first past xid
NumbersSend first past (CallsMds xid name call) = IsNextNumber first past xid
NumbersSend first past (RepeatsToServer server xid name uid call) = HasItem past (Sends (CallsServer server xid name uid call))
NumbersSend first past (RepeatsToMds xid message) = WasAskedAs past xid message
NumbersSend first past (RepliesToMds reply) = Unit {0}

-- each number is a new call's once, and a repeat is of a call that went out
abbrev pub NumbersOn : ℕ → List HistoryItem → HistoryItem → Type 0
NumbersOn first past (Sends send) = NumbersSend first past send
NumbersOn first past item = Unit {0}

-- the number of the next call is above those of all before it and of no call before the first; or none is left
abbrev pub IsNumberedOn : ℕ → List HistoryItem → ℕ → Type 0
IsNumberedOn first history next = (next ≡ 0) ⊎ ((first ≤ next) × (next < 2 ^ 32) × CallsAreBelow next history)

-- ---- of every run

-- where the start and all that users ask is in range
abbrev pub EachRunIsSpelled : Type 0
EachRunIsSpelled =
    (number verifier first_xid : ℕ) (inputs : List ClientInput) → StartsInRange number verifier first_xid → AllByRecursion IsInputInRange inputs
    → Each SendsSpelled [] (client_history (fresh_client number verifier first_xid) inputs)

-- whatever comes; a client without a number, 0, sends no call
abbrev pub EachRunIsNumbered : Type 0
EachRunIsNumbered =
    (number verifier first_xid : ℕ) (inputs : List ClientInput) → first_xid < 2 ^ 32
    → Each (NumbersOn first_xid) [] (client_history (fresh_client number verifier first_xid) inputs)
    × IsNumberedOn first_xid (client_history (fresh_client number verifier first_xid) inputs) (client_after (fresh_client number verifier first_xid) inputs).next_xid
