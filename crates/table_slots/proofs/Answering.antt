-- A request of the table, and its end, are those of the slot, or leave it as it is.
use Rattle.std.proofs.Common.{◌≡◌, ℕ, ◌≤◌, Bool, true, false, List, [], ◌∷◌, ◌++◌, refl, sym, ap, ◌∙◌, subst, arith, append-nil}
use Rattle.std.specs.Prelude.{◌==◌, ◌&&◌, ◌≢◌, if◌then◌else◌}
use Rattle.std.specs.List.{AllPairs, find}
use Rattle.std.proofs.lemmas.Bool.{eqb-true, eq-eqb}
use Rattle.nfs4_types.specs.declared.ids.SessionId.{SessionId}
use Rattle.nfs4_types.specs.declared.sequence.Sequence.{Sequence}
use Rattle.nfs4_session.specs.declared.begin.SlotPass.{SlotPass}
use Rattle.nfs4_session.specs.Slots.{SlotState, SlotAnswer, TakesEffect, Repeats, Refuses, slot_begun, slot_finished}
use Rattle.nfs4_session.specs.SlotsLaw.{SlotRun, Requests, Finishes, slot_run}
use Rattle.nfs4_session.specs.Clients.{ClientState, SessionState, SessionsState, has_id, has_number, client_in, number_in, session_of_client, with_sessions, change_first, change_session}
use Rattle.nfs4_session.specs.Requests.{request_answer, answer_by_session, change_slot, after_request, after_finish}
use Rattle.nfs4_session.specs.Beginning.{table_begun}
use Rattle.nfs4_session.specs.TableLaw.{IsTable}
use Rattle.table_slots.specs.TableSlots.{is_of_session, is_of_slot, number_taken}
use Rattle.table_slots.proofs.Lists.{all_from}
use Rattle.table_slots.proofs.Places.{AreAt}
use Rattle.table_slots.proofs.Changes.{renewed, elsewhere, here}
use Rattle.table_slots.proofs.Requesting.{Takes, takes, one_more, one_taken, none_done}
use Rattle.table_slots.proofs.Tracking.{Tracks, kept, stays}

-- this place of this session is that one
pub record IsSame (id : SessionId) (place : ℕ) (other : SessionId) (slot : ℕ) : Type 0 where
  pub client : client_in other ≡ client_in id
  pub number : number_in other ≡ number_in id
  pub at : slot ≡ place

all_true : (a b c : Bool) → ((a && b) && c) ≡ true → (a ≡ true) × (b ≡ true) × (c ≡ true)
all_true true true true is = (refl, refl, refl)
all_true true true false is = absurd (cc (is))
all_true true false c is = absurd (cc (is))
all_true false b c is = absurd (cc (is))

not_all : (a b c : Bool) → ((a && b) && c) ≡ false → a ≡ true → b ≡ true → c ≡ true → ⊥
not_all true true true is first second third = absurd (cc (is))
not_all true true false is first second third = absurd (cc (third))
not_all true false c is first second third = absurd (cc (second))
not_all false b c is first second third = absurd (cc (first))

same_if : (id : SessionId) (place : ℕ) (other : SessionId) (slot : ℕ) → (is_of_session id other && (slot == place)) ≡ true → IsSame id place other slot
same_if id place other slot is =
    let parts = all_true (client_in other == client_in id) (number_in other == number_in id) (slot == place) is in record {
      client = eqb-true (client_in other) (client_in id) parts.0;
      number = eqb-true (number_in other) (number_in id) parts.1;
      at = eqb-true slot place parts.2;
    }

other_if : (id : SessionId) (place : ℕ) (other : SessionId) (slot : ℕ) → (is_of_session id other && (slot == place)) ≡ false → client_in other ≡ client_in id → number_in other ≡ number_in id → place ≢ slot
other_if id place other slot is client number same =
    not_all (client_in other == client_in id) (number_in other == number_in id) (slot == place) is (eq-eqb (client_in other) (client_in id) client) (eq-eqb (number_in other) (number_in id) number) (eq-eqb slot place (sym same))

module _ (id : SessionId) (place : ℕ) (s : SessionsState) (effects : List ℕ) (table : IsTable s) (t : Tracks id place s effects) where
  abbrev At : SlotState → List ClientState → Type 0
  At slot cs = AreAt (client_in id) (number_in id) place slot s.numbers cs

  abbrev now_at : SlotState
  now_at = (slot_run t.moves).slot

  changed_here : (other : SessionId) (slot : ℕ) (change : SlotState → SlotState) → IsSame id place other slot → At (change now_at) (change_session other (change_slot slot change) s.clients)
  changed_here other slot change same =
      subst (λ p. At (change now_at) (change_session other (change_slot p change) s.clients)) (sym same.at)
      (subst (λ n. At (change now_at) (change_first (has_id (client_in other)) (λ c. with_sessions c (change_first (has_number n) (change_slot place change) c.sessions)) s.clients)) (sym same.number)
      (subst (λ k. At (change now_at) (change_first (has_id k) (λ c. with_sessions c (change_first (has_number (number_in id)) (change_slot place change) c.sessions)) s.clients)) (sym same.client)
      (here (client_in id) (number_in id) place now_at s.numbers change s.clients table.ids (all_from (λ c. AllPairs (λ (a b : SessionState). ¬ (a.number ≡ b.number)) c.sessions) s.clients table.numbers) t.stands)))

  changed_elsewhere : (other : SessionId) (slot : ℕ) (change : SlotState → SlotState) → (is_of_session id other && (slot == place)) ≡ false → At now_at (change_session other (change_slot slot change) s.clients)
  changed_elsewhere other slot change is =
      elsewhere (client_in id) (number_in id) place now_at s.numbers (client_in other) (number_in other) slot change (other_if id place other slot is) s.clients t.stands

  -- ---- the request is done

  pub finished : (pass : SlotPass) (reply : List ℕ) (b : Bool) → (is_of_session id pass.session && (pass.slot == place)) ≡ b → Tracks id place (after_finish s pass reply) (effects ++ [])
  finished pass reply false is = kept id place s effects t _ refl (changed_elsewhere pass.session pass.slot (slot_finished pass.sequence reply) is)
  finished pass reply true is =
      let more = one_more t.moves (Finishes pass.sequence reply) in record {
        moves = t.moves ++ Finishes pass.sequence reply ∷ [];
        told = append-nil effects ∙ t.told ∙ sym (ap (λ (r : SlotRun). r.effects) more);
        stands = subst (λ (r : SlotRun). At r.slot (after_finish s pass reply).clients) (sym more)
            (changed_here pass.session pass.slot (slot_finished pass.sequence reply) (same_if id place pass.session pass.slot is));
        fresh = λ low. ap (λ (r : SlotRun). r.slot) more ∙ ap (slot_finished pass.sequence reply) (t.fresh low) ∙ none_done pass.sequence reply;
      }

  -- ---- a request comes

  taken : (request : Sequence) → IsSame id place request.session request.slot → request_answer s request ≡ TakesEffect → Takes now_at (number_in id) s.numbers request.sequence
  taken request same is =
      takes (client_in id) (number_in id) place now_at s.numbers request s.clients t.stands same.at
      (subst (λ k. answer_by_session request (session_of_client (number_in id) (find (has_id k) s.clients)) ≡ TakesEffect) same.client
      (subst (λ n. answer_by_session request (session_of_client n (find (has_id (client_in request.session)) s.clients)) ≡ TakesEffect) same.number is))

  pub begun : (request : Sequence) (now : ℕ) (b : Bool) → is_of_slot id place request ≡ b → (a : SlotAnswer) → request_answer s request ≡ a
      → Tracks id place (table_begun s (after_request s request now) a) (effects ++ (if b then number_taken request a else []))
  begun request now false is TakesEffect takes_effect =
      kept id place s effects t _ refl
      (renewed (client_in id) (number_in id) place now_at s.numbers (client_in request.session) now _ (changed_elsewhere request.session request.slot (λ slot. slot_begun request.sequence) is))
  begun request now true is TakesEffect takes_effect =
      let same : IsSame id place request.session request.slot = same_if id place request.session request.slot is in
      let this : Takes now_at (number_in id) s.numbers request.sequence = taken request same takes_effect in
      let given : number_in id ≤ s.numbers = this.given in
      let more = one_taken t.moves request.sequence this.answer in record {
        moves = t.moves ++ Requests request.sequence ∷ [];
        told = ap (λ es. es ++ request.sequence ∷ []) t.told ∙ sym (ap (λ (r : SlotRun). r.effects) more);
        stands = subst (λ (r : SlotRun). At r.slot (after_request s request now).clients) (sym more)
            (renewed (client_in id) (number_in id) place (slot_begun request.sequence) s.numbers (client_in request.session) now _ (changed_here request.session request.slot (λ slot. slot_begun request.sequence) same));
        fresh = λ low. absurd (omega (arith, low, given));
      }
  begun request now true is (Repeats reply) takes_effect = stays id place s effects t
  begun request now true is (Refuses status) takes_effect = stays id place s effects t
  begun request now false is (Repeats reply) takes_effect = stays id place s effects t
  begun request now false is (Refuses status) takes_effect = stays id place s effects t
