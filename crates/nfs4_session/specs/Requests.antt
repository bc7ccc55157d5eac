-- What SEQUENCE comes to, and what ends its request (RFC 8881, section 18.46).
use Rattle.std.specs.Prelude.{◌≡◌, ℕ, List, Option, Some, None, slice_get, slice_set}
use Rattle.nfs4_types.specs.declared.sequence.Sequence.{Sequence}
use Rattle.nfs4_types.specs.declared.status.Stat4.TheVariants.{BadSession, BadSlot}
use Rattle.nfs4_session.specs.declared.begin.Begin.{Begin}
use Rattle.nfs4_session.specs.declared.begin.Begin.TheVariants.{New, Replay, Refused}
use Rattle.nfs4_session.specs.declared.begin.SlotPass.{SlotPass}
use Rattle.nfs4_session.specs.Slots.{SlotState, SlotAnswer, TakesEffect, Repeats, Refuses, slot_answer, slot_begun, slot_finished}
use Rattle.nfs4_session.specs.Clients.{SessionState, SessionsState, has_id, client_in, session_of, change_first, change_session, with_clients, with_slots, renewed_at}

-- ---- what it comes to

abbrev pub answer_by_slot : ℕ → Option SlotState → SlotAnswer
answer_by_slot number (Some slot) = slot_answer slot number
answer_by_slot number None = Refuses BadSlot

abbrev pub answer_by_session : Sequence → Option SessionState → SlotAnswer
answer_by_session request (Some session) = answer_by_slot request.sequence (slice_get session.slots request.slot)
answer_by_session request None = Refuses BadSession

abbrev pub request_answer : SessionsState → Sequence → SlotAnswer
request_answer s request = answer_by_session request (session_of s.clients request.session)

-- ---- what it leaves

abbrev pub change_at : {X : Type 0} → ℕ → (X → X) → List X → Option X → List X
change_at place change xs (Some x) = slice_set xs place (change x)
change_at place change xs None = xs

-- one slot of one session is changed
abbrev pub change_slot : ℕ → (SlotState → SlotState) → SessionState → SessionState
change_slot place change session = with_slots session (change_at place change session.slots (slice_get session.slots place))

-- the client's lease is renewed
abbrev pub after_request : SessionsState → Sequence → ℕ → SessionsState
after_request s request now =
    with_clients s (change_first (has_id (client_in request.session)) (renewed_at now) (change_session request.session (change_slot request.slot (λ slot. slot_begun request.sequence)) s.clients))

abbrev pub pass_of : Sequence → SlotPass
pass_of request = record { session = request.session; slot = request.slot; sequence = request.sequence }

abbrev pub IsReplayOf : List ℕ → Begin → Type 0
IsReplayOf reply (New client slot) = ⊥
IsReplayOf reply (Replay kept) = kept.now ≡ reply
IsReplayOf reply (Refused status) = ⊥

abbrev pub BeginsBy : SessionsState → Sequence → ℕ → Begin → SessionsState → SlotAnswer → Type 0
BeginsBy old request now result new TakesEffect = (result ≡ New (client_in request.session) (pass_of request)) × (new ≡ after_request old request now)
BeginsBy old request now result new (Repeats reply) = IsReplayOf reply result × (new ≡ old)
BeginsBy old request now result new (Refuses status) = (result ≡ Refused status) × (new ≡ old)

abbrev pub BeginsRequest : SessionsState → Sequence → ℕ → Begin → SessionsState → Type 0
BeginsRequest old request now result new = BeginsBy old request now result new (request_answer old request)

-- ---- the request is done

-- of a session that is gone nothing is done
abbrev pub after_finish : SessionsState → SlotPass → List ℕ → SessionsState
after_finish s pass reply = with_clients s (change_session pass.session (change_slot pass.slot (slot_finished pass.sequence reply)) s.clients)
