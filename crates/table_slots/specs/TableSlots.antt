-- Which requests of a slot take effect, over every list of calls of a table of clients (RFC 8881, section 2.10.6.1).
use Rattle.std.specs.Prelude.{◌≡◌, ℕ, Bool, true, ◌==◌, ◌&&◌, List, [], ◌∷◌, ◌++◌, length, if◌then◌else◌}
use Rattle.ff_xdr.specs.Laws.{IsBytes}
use Rattle.nfs4_types.specs.declared.ids.SessionId.{SessionId}
use Rattle.nfs4_types.specs.declared.sequence.Sequence.{Sequence}
use Rattle.nfs4_session.specs.Slots.{SlotAnswer, TakesEffect, Repeats, Refuses}
use Rattle.nfs4_session.specs.Clients.{SessionsState, no_clients, client_in, number_in}
use Rattle.nfs4_session.specs.Requests.{request_answer}
use Rattle.nfs4_session.specs.SlotsLaw.{AreNumbered, TakeEffectOnce}
use Rattle.nfs4_session.specs.TableLaw.{TableMove, ExchangeId, CreateSession, BeginRequest, FinishRequest, Bind, CallBack, DestroySession, DestroyClient, Expire, table_after}

-- the table reads an id by its client and its number
abbrev pub is_of_session : SessionId → SessionId → Bool
is_of_session session other = (client_in other == client_in session) && (number_in other == number_in session)

-- the request is of this slot of this session
abbrev pub is_of_slot : SessionId → ℕ → Sequence → Bool
is_of_slot session slot request = is_of_session session request.session && (request.slot == slot)

abbrev pub number_taken : Sequence → SlotAnswer → List ℕ
number_taken request TakesEffect = request.sequence ∷ []
number_taken request (Repeats reply) = []
number_taken request (Refuses status) = []

-- the number of a request of this slot that takes effect on the table
abbrev pub effect_on : SessionId → ℕ → SessionsState → Sequence → List ℕ
effect_on session slot s request = if is_of_slot session slot request then number_taken request (request_answer s request) else []

abbrev pub effect_of : SessionId → ℕ → SessionsState → TableMove → List ℕ
effect_of session slot s (BeginRequest request now) = effect_on session slot s request
effect_of session slot s (ExchangeId verifier owner now) = []
effect_of session slot s (CreateSession client sequence program node now) = []
effect_of session slot s (FinishRequest pass reply) = []
effect_of session slot s (Bind other node) = []
effect_of session slot s (CallBack client) = []
effect_of session slot s (DestroySession other) = []
effect_of session slot s (DestroyClient client) = []
effect_of session slot s (Expire now) = []

-- the table behind calls, and the numbers that took effect on a slot with them, in order
abbrev pub table_from : SessionsState → List TableMove → SessionsState
table_from s [] = s
table_from s (move ∷ moves) = table_from (table_after s move) moves

abbrev pub effects_from : SessionId → ℕ → SessionsState → List TableMove → List ℕ
effects_from session slot s [] = []
effects_from session slot s (move ∷ moves) = effect_of session slot s move ++ effects_from session slot (table_after s move) moves

-- an id as it comes over the wire
abbrev pub IsSessionId : SessionId → Type 0
IsSessionId id = (length id.0 ≡ 16) × IsBytes id.0

-- two of them that the table reads as one are one
abbrev pub ReadsEachId : Type 0
ReadsEachId = (session other : SessionId) → IsSessionId session → IsSessionId other → is_of_session session other ≡ true → other.0 ≡ session.0

-- Of each slot of each session, the kth request that takes effect has the number k modulo 2^32: among 2^32 that follow each other no
-- number takes effect twice.
abbrev pub UsesSlotsOnce : Type 0
UsesSlotsOnce =
    (boot : ℕ) (moves : List TableMove) (session : SessionId) (slot : ℕ)
    → AreNumbered (effects_from session slot (no_clients boot) moves) × TakeEffectOnce (effects_from session slot (no_clients boot) moves)
