-- The numbers of a client's compounds fit their forms (RFC 8881, sections 18.43, 18.44 and 18.46; RFC 8435, section 9.1.1).
use Rattle.std.specs.Prelude.{ℕ, List, []}
use Rattle.std.specs.List.{AllByRecursion}
use Rattle.client_mds_calls.specs.FittingCalls.{FitsAsked}
use Rattle.client_state.specs.ClientStates.{fresh_client}
use Rattle.client_state.specs.ClientSends.{CallsMds}
use Rattle.client_laws.specs.ClientHistory.{ClientInput, HistoryItem, Sends, Each, client_history}
use Rattle.client_records.specs.ClientRecords.{IsInputInRange, StartsInRange}

-- what a compound of a client says fits
abbrev pub AsksFit : List HistoryItem → HistoryItem → Type 0
AsksFit past (Sends (CallsMds xid name call)) = FitsAsked name call
AsksFit past item = Unit {0}

-- where the start and all that users ask is in range, and records are of bytes
abbrev pub EachRunAsksFit : Type 0
EachRunAsksFit =
    (number verifier first_xid : ℕ) (inputs : List ClientInput) → StartsInRange number verifier first_xid → AllByRecursion IsInputInRange inputs
    → Each AsksFit [] (client_history (fresh_client number verifier first_xid) inputs)
