-- What the results of a client's calls on itself and its session say (RFC 8881, section 18): those of the call's operations, in order,
-- each OK.
use Rattle.std.specs.Prelude.{Bool, false, ◌&&◌, List, [], ◌∷◌, Option, Some, None}
use Rattle.ff_xdr.specs.Form.{Value}
use Rattle.nfs4_types.specs.declared.ids.SessionId.{SessionId}
use Rattle.nfs4_compound.specs.Results.{resop4}
use Rattle.client_compounds.specs.MdsResults.{in_arm, is_done_result, done_as, sequence_ok}
use Rattle.client_session_calls.specs.declared.exchange_id.ClientGiven.{ClientGiven}

-- the client's number, and that of its next CREATE_SESSION (section 18.35)
abbrev pub exchange_id_ok : Value resop4 → Option ClientGiven
exchange_id_ok = in_arm 42 resop4 (done_as (λ (clientid, (sequence, rest)). Some (record { clientid = clientid; sequence = sequence }))) None

abbrev pub exchange_id_results : List (Value resop4) → Option ClientGiven
exchange_id_results (e ∷ []) = exchange_id_ok e
exchange_id_results results = None

-- the session (section 18.36)
abbrev pub create_session_ok : Value resop4 → Option SessionId
create_session_ok = in_arm 43 resop4 (done_as (λ (session, rest). Some (record { 0 = session }))) None

abbrev pub create_session_results : List (Value resop4) → Option SessionId
create_session_results (c ∷ []) = create_session_ok c
create_session_results results = None

-- (section 18.51)
abbrev pub reclaim_complete_ok : Value resop4 → Bool
reclaim_complete_ok = in_arm 58 resop4 is_done_result false

abbrev pub reclaim_complete_results : List (Value resop4) → Bool
reclaim_complete_results (s ∷ r ∷ []) = sequence_ok s && reclaim_complete_ok r
reclaim_complete_results results = false

-- SEQUENCE alone (section 18.46)
abbrev pub renew_results : List (Value resop4) → Bool
renew_results (s ∷ []) = sequence_ok s
renew_results results = false
