-- No more requests of a slot take effect than records came.
use Rattle.std.proofs.Common.{◌≤◌, ℕ, List, [], ◌∷◌, ◌++◌, length, Option, Some, None, arith}
use Rattle.std.proofs.lemmas.Bool.{cond_both}
use Rattle.std.proofs.lemmas.List.{length-append}
use Rattle.cluster_model.specs.declared.ids.NodeId.{NodeId}
use Rattle.nfs4_types.specs.declared.ids.SessionId.{SessionId}
use Rattle.nfs4_types.specs.declared.sequence.Sequence.{Sequence}
use Rattle.nfs4_session.specs.Slots.{SlotAnswer, TakesEffect, Repeats, Refuses}
use Rattle.nfs4_session.specs.Requests.{request_answer}
use Rattle.nfs4_session.specs.Clients.{SessionsState}
use Rattle.nfs4_session.specs.Bindings.{after_binding}
use Rattle.table_slots.specs.TableSlots.{is_of_slot, number_taken, effect_on}
use Rattle.mds_receive.specs.MdsReceive.{incoming_of}
use Rattle.mds_rule.specs.MdsStates.{MdsValue}
use Rattle.mds_walk.specs.MdsRuns.{MdsInput, Hears, IsTimedOut, Ticks, RecallsFile, Resilvers, MdsEvent, after_event}
use Rattle.mds_walk.specs.FirstRequests.{request_in}
use Rattle.mds_laws.specs.SlotUses.{effect_asked, effect_in, effects_in}
use Rattle.mds_room.specs.Room.{heard_with, records_heard}

one_number : (request : Sequence) (a : SlotAnswer) → length (number_taken request a) ≤ 1
one_number request TakesEffect = omega arith
one_number request (Repeats kept) = omega arith
one_number request (Refuses status) = omega arith

one_on : (session : SessionId) (slot : ℕ) (s : SessionsState) (request : Sequence) → length (effect_on session slot s request) ≤ 1
one_on session slot s request =
    cond_both (is_of_slot session slot request) (number_taken request (request_answer s request)) [] (λ (l : List ℕ). length l ≤ 1) (λ is. one_number request (request_answer s request)) (λ off. omega arith)

one_asked : (session : SessionId) (slot : ℕ) (m : MdsValue) (from : NodeId) (o : Option Sequence) → length (effect_asked session slot m from o) ≤ 1
one_asked session slot m from None = omega arith
one_asked session slot m from (Some request) = one_on session slot (after_binding m.sessions request.session from) request

one_in : (session : SessionId) (slot : ℕ) (m : MdsValue) (input : MdsInput) → length (effect_in session slot m input) ≤ heard_with input
one_in session slot m (Hears from bytes) = one_asked session slot m from (request_in (incoming_of bytes))
one_in session slot m (IsTimedOut to which) = omega arith
one_in session slot m Ticks = omega arith
one_in session slot m (RecallsFile file) = omega arith
one_in session slot m (Resilvers file) = omega arith

-- of each slot
pub few_effects : (session : SessionId) (slot : ℕ) (m : MdsValue) (events : List MdsEvent) → length (effects_in session slot m events) ≤ records_heard events
few_effects session slot m [] = omega arith
few_effects session slot m (e ∷ events) =
    let one = one_in session slot m e.input in
    let rest = few_effects session slot (after_event e m).mds events in
    let all = length-append (effect_in session slot m e.input) (effects_in session slot (after_event e m).mds events) in
    omega (arith, one, rest, all)

-- more events bring no fewer records
pub heard_before : (before after : List MdsEvent) → records_heard before ≤ records_heard (before ++ after)
heard_before [] after = omega arith
heard_before (e ∷ before) after = let rest = heard_before before after in omega (arith, rest)
