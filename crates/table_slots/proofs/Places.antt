-- Where the slot of a session stands in a table: each session of this number of a client of this id has this slot at this place.
use Rattle.std.proofs.Common.{◌≡◌, ℕ, zero, suc, ◌≤◌, List, Option, Some, None, replicate, refl, sym, ap, subst}
use Rattle.std.specs.Prelude.{◌≢◌, slice_get}
use Rattle.std.specs.List.{AllByRecursion}
use Rattle.cluster_model.proofs.Elements.{slice_get-set_other, slice_get-set_same}
use Rattle.nfs4_session.specs.Slots.{SlotState, new_slot}
use Rattle.nfs4_session.specs.Clients.{ClientState, SessionState}
use Rattle.nfs4_session.specs.Requests.{change_at}

abbrev pub IsSlot : SlotState → Option SlotState → Type 0
IsSlot slot None = Unit {0}
IsSlot slot (Some other) = other ≡ slot

-- a session of the client of this id, where so many numbers are given
abbrev pub IsAt : (client number place : ℕ) → SlotState → (numbers id : ℕ) → SessionState → Type 0
IsAt client number place slot numbers id session = (session.number ≤ numbers) × (id ≡ client → session.number ≡ number → IsSlot slot (slice_get session.slots place))

abbrev pub HasAt : (client number place : ℕ) → SlotState → (numbers : ℕ) → ClientState → Type 0
HasAt client number place slot numbers c = AllByRecursion (IsAt client number place slot numbers c.id) c.sessions

abbrev pub AreAt : (client number place : ℕ) → SlotState → (numbers : ℕ) → List ClientState → Type 0
AreAt client number place slot numbers clients = AllByRecursion (HasAt client number place slot numbers) clients

-- each slot of a new session is new
pub new_slots : (n place : ℕ) → IsSlot new_slot (slice_get (replicate n new_slot) place)
new_slots zero place = tt
new_slots (suc n) zero = refl
new_slots (suc n) (suc place) = new_slots n place

-- another place is changed
pub slot_stays : (place other : ℕ) (slot : SlotState) (change : SlotState → SlotState) (slots : List SlotState) → place ≢ other
    → IsSlot slot (slice_get slots place) → IsSlot slot (slice_get (change_at other change slots (slice_get slots other)) place)
slot_stays place other slot change slots apart is = by_case (slice_get slots other)
  where
    by_case : (o : Option SlotState) → IsSlot slot (slice_get (change_at other change slots o) place)
    by_case None = is
    by_case (Some x) = subst (IsSlot slot) (sym (slice_get-set_other slots other place (change x) apart)) is

-- this place is changed
pub slot_changes : (place : ℕ) (slot : SlotState) (change : SlotState → SlotState) (slots : List SlotState)
    → IsSlot slot (slice_get slots place) → IsSlot (change slot) (slice_get (change_at place change slots (slice_get slots place)) place)
slot_changes place slot change slots is = by_case (slice_get slots place) refl is
  where
    by_case : (o : Option SlotState) → slice_get slots place ≡ o → IsSlot slot o → IsSlot (change slot) (slice_get (change_at place change slots o) place)
    by_case None at is = subst (IsSlot (change slot)) (sym at) tt
    by_case (Some x) at is = subst (IsSlot (change slot)) (sym (slice_get-set_same slots place x (change x) at)) (ap change is)
