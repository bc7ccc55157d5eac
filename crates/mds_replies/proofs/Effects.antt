-- Each request of a client that takes effect has the number behind those before it.
use Rattle.std.proofs.Common.{◌≡◌, ◌<◌, ℕ, ◌+◌, Bool, true, List, [], ◌∷◌, ◌++◌, length, Some, refl, sym, ap, subst, ◌∙◌, arith, cond}
use Rattle.std.specs.Prelude.{◌==◌, ◌&&◌, slice_get}
use Rattle.std.proofs.Math.Nat.{mod-eq_of_lt}
use Rattle.std.proofs.lemmas.Bool.{eq-eqb}
use Rattle.std.proofs.lemmas.List.{append_assoc, append-nil, length-append}
use Rattle.std.proofs.lemmas.Option.{same_Some}
use Rattle.device_addr.specs.Universal.{AddressValue}
use Rattle.nfs4_types.specs.declared.ids.SessionId.{SessionId}
use Rattle.nfs4_types.specs.declared.sequence.Sequence.{Sequence}
use Rattle.nfs4_session.specs.Slots.{SlotAnswer}
use Rattle.nfs4_session.specs.Clients.{client_in, number_in}
use Rattle.nfs4_session.specs.Requests.{request_answer}
use Rattle.nfs4_session.specs.Bindings.{after_binding}
use Rattle.nfs4_session.specs.SlotsLaw.{AreNumbered}
use Rattle.table_slots.specs.TableSlots.{is_of_slot, number_taken, effect_on}
use Rattle.client_mds_calls.specs.MdsCalls.{SlotCallValue}
use Rattle.mds_receive.specs.MdsReceive.{IncomingValue}
use Rattle.mds_rule.specs.MdsStates.{MdsValue, new_mds}
use Rattle.mds_walk.specs.MdsRuns.{MdsEvent, after_event, run_from}
use Rattle.mds_walk.specs.FirstRequests.{first_request, request_in}
use Rattle.mds_laws.specs.SlotUses.{effect_asked, effect_in, effects_in, RequestsTakeEffectOnce}
use Rattle.mds_replies.specs.ClientCalls.{server_after}
use Rattle.mds_replies.specs.SlotReplies.{request_of, TookEffect, EffectsAreNumbered}

-- ---- effects of runs that go on

pub effects_behind : (session : SessionId) (slot : ℕ) (m : MdsValue) (before more : List MdsEvent)
    → effects_in session slot m (before ++ more) ≡ effects_in session slot m before ++ effects_in session slot (run_from m before).mds more
effects_behind session slot m [] more = refl
effects_behind session slot m (e ∷ before) more =
    ap (λ l. effect_in session slot m e.input ++ l) (effects_behind session slot (after_event e m).mds before more)
    ∙ sym (append_assoc (effect_in session slot m e.input) (effects_in session slot (after_event e m).mds before) (effects_in session slot (run_from (after_event e m).mds before).mds more))

-- ---- the effect of a request of a client

both_true : (a b : Bool) → a ≡ true → b ≡ true → (a && b) ≡ true
both_true true b first second = second
both_true b c first second = ap (λ x. x && c) first ∙ second

own_slot : (session : SessionId) (number : ℕ) (call : SlotCallValue) → is_of_slot session 0 (request_of session number call) ≡ true
own_slot session number call =
    both_true ((client_in session == client_in session) && (number_in session == number_in session)) (0 == 0)
    (both_true (client_in session == client_in session) (number_in session == number_in session) (eq-eqb (client_in session) (client_in session) refl) (eq-eqb (number_in session) (number_in session) refl)) refl

effect_now : (servers : List AddressValue) (mirrors : ℕ) (before : List MdsEvent) (e : MdsEvent) (session : SessionId) (number : ℕ) → TookEffect servers mirrors before e session number
    → effect_in session 0 (server_after servers mirrors before) e.input ≡ number ∷ []
effect_now servers mirrors before e session number took =
    let m : MdsValue = server_after servers mirrors before in
    let request : Sequence = request_of session number took.call in
    let answer : SlotAnswer = request_answer (after_binding m.sessions session took.node) request in
    let asked : first_request took.came.v.ops.values ≡ Some request = ap first_request took.came.is.ops in
    let taken : effect_on session 0 (after_binding m.sessions session took.node) request ≡ number_taken request answer =
    ap (λ (b : Bool). cond {A = List ℕ} b (number_taken request answer) []) (own_slot session number took.call) in
    ap (effect_in session 0 m) took.came.input
    ∙ ap (λ (x : IncomingValue). effect_asked session 0 m took.node (request_in x)) took.came.compound
    ∙ ap (effect_asked session 0 m took.node) asked ∙ taken ∙ ap (number_taken request) took.effect

effects_then : (servers : List AddressValue) (mirrors : ℕ) (before : List MdsEvent) (e : MdsEvent) (session : SessionId) (number : ℕ) → TookEffect servers mirrors before e session number
    → effects_in session 0 (new_mds servers mirrors) (before ++ e ∷ []) ≡ effects_in session 0 (new_mds servers mirrors) before ++ number ∷ []
effects_then servers mirrors before e session number took =
    effects_behind session 0 (new_mds servers mirrors) before (e ∷ [])
    ∙ ap (λ l. effects_in session 0 (new_mds servers mirrors) before ++ l) (append-nil (effect_in session 0 (server_after servers mirrors before) e.input) ∙ effect_now servers mirrors before e session number took)

-- ---- the last of a list

at_end : (xs : List ℕ) (x : ℕ) → slice_get (xs ++ x ∷ []) (length xs) ≡ Some x
at_end [] x = refl
at_end (y ∷ xs) x = at_end xs x

length_push : (xs : List ℕ) (x : ℕ) → length (xs ++ x ∷ []) ≡ length xs + 1
length_push xs x = length-append xs (x ∷ [])

last_number : (xs : List ℕ) (x : ℕ) → AreNumbered (xs ++ x ∷ []) → length xs + 1 < 4294967296 → x ≡ length xs + 1
last_number xs x all few =
    let there : length xs < length (xs ++ x ∷ []) = let size = length_push xs x in omega (arith, size) in
    same_Some x (length xs + 1) (sym (at_end xs x) ∙ all (length xs) there ∙ ap (λ (n : ℕ). Some n) (mod-eq_of_lt few))

pub effects_are_numbered : ((servers : List AddressValue) (mirrors : ℕ) (events : List MdsEvent) → RequestsTakeEffectOnce servers mirrors events) → EffectsAreNumbered
effects_are_numbered once servers mirrors events before after e session number calls at few took =
    let taken : List ℕ = effects_in session 0 (new_mds servers mirrors) before in
    let now : effects_in session 0 (new_mds servers mirrors) (before ++ e ∷ []) ≡ taken ++ number ∷ [] = effects_then servers mirrors before e session number took in (
      last_number taken number (subst AreNumbered now (once servers mirrors (before ++ e ∷ []) session 0).0) few,
      ap length now ∙ length_push taken number,
    )
