-- What a request of a slot comes to, by what stands at the slot's place, and what it makes of the requests of the slot so far.
use Rattle.std.proofs.Common.{◌≡◌, ℕ, ◌≤◌, Bool, true, false, List, [], ◌∷◌, ◌++◌, Option, Some, None, refl, sym, ap, ◌∙◌, subst, arith}
use Rattle.std.specs.Prelude.{◌==◌, ◌&&◌, slice_get, if◌then◌else◌}
use Rattle.std.specs.List.{find}
use Rattle.std.proofs.lemmas.Bool.{eqb-true}
use Rattle.std.proofs.lemmas.List.Sums.{fold_push}
use Rattle.nfs4_types.specs.declared.sequence.Sequence.{Sequence}
use Rattle.nfs4_session.specs.Slots.{SlotState, TakesEffect, slot_answer, slot_begun, slot_finished, kept_as, new_slot}
use Rattle.nfs4_session.specs.SlotsLaw.{SlotMove, Requests, requested, slot_moved, slot_run}
use Rattle.nfs4_session.specs.Clients.{ClientState, SessionState, has_id, has_number, session_of_client}
use Rattle.nfs4_session.specs.Requests.{answer_by_slot, answer_by_session}
use Rattle.table_slots.proofs.Lists.{all_find, found_passes}
use Rattle.table_slots.proofs.Places.{IsSlot, IsAt, HasAt, AreAt}

-- a request that takes effect on the table takes effect on the slot, and its session was made
pub record Takes (slot : SlotState) (number numbers sequence : ℕ) : Type 0 where
  pub answer : slot_answer slot sequence ≡ TakesEffect
  pub given : number ≤ numbers

module _ (client number place : ℕ) (slot : SlotState) (numbers : ℕ) (request : Sequence) where
  takes_on : (o : Option SlotState) → IsSlot slot o → answer_by_slot request.sequence o ≡ TakesEffect → slot_answer slot request.sequence ≡ TakesEffect
  takes_on None is takes = absurd (cc (takes))
  takes_on (Some x) is takes = subst (λ y. slot_answer y request.sequence ≡ TakesEffect) is takes

  takes_in : (c : ClientState) → c.id ≡ client → HasAt client number place slot numbers c → request.slot ≡ place → (o : Option SessionState) → find (has_number number) c.sessions ≡ o
      → answer_by_session request o ≡ TakesEffect → Takes slot number numbers request.sequence
  takes_in c id has same None is takes = absurd (cc (takes))
  takes_in c id has same (Some s) is takes =
      let at : IsAt client number place slot numbers c.id s = all_find (has_number number) (IsAt client number place slot numbers c.id) c.sessions s is has in
      let this : s.number ≡ number = eqb-true s.number number (found_passes (has_number number) c.sessions s is) in
      let low : s.number ≤ numbers = at.0 in record {
        answer = takes_on (slice_get s.slots request.slot) (subst (λ p. IsSlot slot (slice_get s.slots p)) (sym same) (at.1 id this)) takes;
        given = omega (arith, low, this);
      }

  takes_of : (cs : List ClientState) → AreAt client number place slot numbers cs → request.slot ≡ place → (o : Option ClientState) → find (has_id client) cs ≡ o
      → answer_by_session request (session_of_client number o) ≡ TakesEffect → Takes slot number numbers request.sequence
  takes_of cs at same None is takes = absurd (cc (takes))
  takes_of cs at same (Some c) is takes =
      takes_in c (eqb-true c.id client (found_passes (has_id client) cs c is)) (all_find (has_id client) (HasAt client number place slot numbers) cs c is at) same
      (find (has_number number) c.sessions) refl takes

  pub takes : (cs : List ClientState) → AreAt client number place slot numbers cs → request.slot ≡ place → answer_by_session request (session_of_client number (find (has_id client) cs)) ≡ TakesEffect
      → Takes slot number numbers request.sequence
  takes cs at same is = takes_of cs at same (find (has_id client) cs) refl is

-- ---- the requests of a slot

-- one more
pub one_more : (moves : List SlotMove) (move : SlotMove) → slot_run (moves ++ move ∷ []) ≡ slot_moved (slot_run moves) move
one_more moves move = fold_push slot_moved (record { slot = new_slot; effects = [] }) moves move

pub one_taken : (moves : List SlotMove) (number : ℕ) → slot_answer (slot_run moves).slot number ≡ TakesEffect
    → slot_run (moves ++ Requests number ∷ []) ≡ record { slot = slot_begun number; effects = (slot_run moves).effects ++ number ∷ [] }
one_taken moves number is = one_more moves (Requests number) ∙ ap (requested (slot_run moves) number) is

-- of a new slot nothing is done
pub none_done : (number : ℕ) (reply : List ℕ) → slot_finished number reply new_slot ≡ new_slot
none_done number reply = by_case (0 == number)
  where
    by_case : (b : Bool) → (if b && false then record { last = number; reply = kept_as reply } else new_slot) ≡ new_slot
    by_case true = refl
    by_case false = refl
