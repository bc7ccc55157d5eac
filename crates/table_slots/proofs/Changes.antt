-- What each change of a table makes of a slot at its place.
use Rattle.std.proofs.Common.{◌≡◌, ℕ, ◌+◌, ◌≤◌, ◌<◌, Bool, true, false, List, [], ◌∷◌, ◌++◌, Option, Some, None, refl, sym, ◌∙◌, subst, arith}
use Rattle.std.specs.Prelude.{◌≢◌, slice_get}
use Rattle.std.specs.List.{AllPairs, AllByRecursion, find}
use Rattle.std.proofs.lemmas.Bool.{eqb-true, eq-eqb}
use Rattle.cluster_model.specs.declared.ids.NodeId.{NodeId}
use Rattle.nfs4_session.specs.Slots.{SlotState, new_slot}
use Rattle.nfs4_session.specs.Clients.{ClientState, SessionState, has_id, has_number, change_first, remove_first, with_sessions, new_session, renewed_at}
use Rattle.nfs4_session.specs.CreateSessions.{with_new_session}
use Rattle.nfs4_session.specs.Requests.{change_slot}
use Rattle.nfs4_session.specs.Bindings.{bound_to, bound_last, client_bound, client_called_back, called_back}
use Rattle.table_slots.proofs.Lists.{all_both, all_map, all_push, one_has, all_remove, all_change, all_change_one, all_find}
use Rattle.table_slots.proofs.Places.{IsSlot, IsAt, HasAt, AreAt, new_slots, slot_stays, slot_changes}

module _ (client number place : ℕ) (slot : SlotState) (numbers : ℕ) where
  -- ---- no slot is changed

  pub renewed : (id now : ℕ) (cs : List ClientState) → AreAt client number place slot numbers cs → AreAt client number place slot numbers (change_first (has_id id) (renewed_at now) cs)
  renewed id now cs at = all_change (has_id id) (HasAt client number place slot numbers) (renewed_at now) (λ c is has. has) cs at

  pub called : (id session : ℕ) (cs : List ClientState) → AreAt client number place slot numbers cs → AreAt client number place slot numbers (change_first (has_id id) (client_called_back session) cs)
  called id session cs at =
      all_change (has_id id) (HasAt client number place slot numbers) (client_called_back session)
      (λ c is has. all_change (has_number session) (IsAt client number place slot numbers c.id) called_back (λ s is at. at) c.sessions has) cs at

  pub bound : (id session : ℕ) (node : NodeId) (cs : List ClientState) → AreAt client number place slot numbers cs → AreAt client number place slot numbers (change_first (has_id id) (client_bound session node) cs)
  bound id session node cs at = all_change (has_id id) (HasAt client number place slot numbers) (client_bound session node) (λ c is has. by_case c has (find (has_number session) c.sessions) refl) cs at
    where
      by_case : (c : ClientState) → HasAt client number place slot numbers c → (o : Option SessionState) → find (has_number session) c.sessions ≡ o
          → AllByRecursion (IsAt client number place slot numbers c.id) (bound_last session node c.sessions o)
      by_case c has None is = has
      by_case c has (Some s) is =
          all_push (IsAt client number place slot numbers c.id) (remove_first (has_number session) c.sessions) (bound_to node s)
          (all_remove (has_number session) (IsAt client number place slot numbers c.id) c.sessions has)
          (all_find (has_number session) (IsAt client number place slot numbers c.id) c.sessions s is has)

  -- ---- records are taken out

  pub destroyed : (id session : ℕ) (cs : List ClientState) → AreAt client number place slot numbers cs
      → AreAt client number place slot numbers (change_first (has_id id) (λ c. with_sessions c (remove_first (has_number session) c.sessions)) cs)
  destroyed id session cs at =
      all_change (has_id id) (HasAt client number place slot numbers) (λ c. with_sessions c (remove_first (has_number session) c.sessions))
      (λ c is has. all_remove (has_number session) (IsAt client number place slot numbers c.id) c.sessions has) cs at

  pub removed : (test : ClientState → Bool) (cs : List ClientState) → AreAt client number place slot numbers cs → AreAt client number place slot numbers (remove_first test cs)
  removed test cs at = all_remove test (HasAt client number place slot numbers) cs at

  -- ---- records are added

  -- a new client has no session
  pub pushed : (cs : List ClientState) (c : ClientState) → c.sessions ≡ [] → AreAt client number place slot numbers cs → AreAt client number place slot numbers (cs ++ c ∷ [])
  pushed cs c none at = all_push (HasAt client number place slot numbers) cs c at (subst (AllByRecursion (IsAt client number place slot numbers c.id)) (sym none) tt)

  given_more : (c : ClientState) → HasAt client number place slot numbers c → HasAt client number place slot (numbers + 1) c
  given_more c has =
      all_map (IsAt client number place slot numbers c.id) (IsAt client number place slot (numbers + 1) c.id)
      (λ s at. let low : s.number ≤ numbers = at.0 in (omega (arith, low), at.1)) c.sessions has

  -- a new session has a new number
  pub added : (id program now : ℕ) (node : NodeId) (cs : List ClientState) → (numbers < number → slot ≡ new_slot) → AreAt client number place slot numbers cs
      → AreAt client number place slot (numbers + 1) (change_first (has_id id) (with_new_session (new_session (numbers + 1) node program) now) cs)
  added id program now node cs fresh at =
      all_change (has_id id) (HasAt client number place slot (numbers + 1)) (with_new_session (new_session (numbers + 1) node program) now)
      (λ c is has. all_push (IsAt client number place slot (numbers + 1) c.id) c.sessions (new_session (numbers + 1) node program) has (omega arith, λ same this. made (fresh (omega (arith, this)))))
      cs (all_map (HasAt client number place slot numbers) (HasAt client number place slot (numbers + 1)) given_more cs at)
    where
      made : slot ≡ new_slot → IsSlot slot (slice_get (new_session (numbers + 1) node program).slots place)
      made is = subst (λ x. IsSlot x (slice_get (new_session (numbers + 1) node program).slots place)) (sym is) (new_slots 8 place)

  -- ---- a slot is changed

  -- another one
  pub elsewhere : (id session other : ℕ) (change : SlotState → SlotState) → (id ≡ client → session ≡ number → place ≢ other) → (cs : List ClientState) → AreAt client number place slot numbers cs
      → AreAt client number place slot numbers (change_first (has_id id) (λ c. with_sessions c (change_first (has_number session) (change_slot other change) c.sessions)) cs)
  elsewhere id session other change apart cs at =
      all_change (has_id id) (HasAt client number place slot numbers) (λ c. with_sessions c (change_first (has_number session) (change_slot other change) c.sessions))
      (λ c is has. all_change (has_number session) (IsAt client number place slot numbers c.id) (change_slot other change) (λ s so at. keeps c s (eqb-true c.id id is) (eqb-true s.number session so) at) c.sessions has) cs at
    where
      keeps : (c : ClientState) (s : SessionState) → c.id ≡ id → s.number ≡ session → IsAt client number place slot numbers c.id s → IsAt client number place slot numbers c.id (change_slot other change s)
      keeps c s is so at = (at.0, λ same this. slot_stays place other slot change s.slots (apart (sym is ∙ same) (sym so ∙ this)) (at.1 same this))

  abbrev OtherNumbers : ClientState → Type 0
  OtherNumbers c = AllPairs (λ (a b : SessionState). ¬ (a.number ≡ b.number)) c.sessions

  -- this one, in the one session that has it
  pub here : (change : SlotState → SlotState) (cs : List ClientState) → AllPairs (λ (a b : ClientState). ¬ (a.id ≡ b.id)) cs → AllByRecursion OtherNumbers cs → AreAt client number place slot numbers cs
      → AreAt client number place (change slot) numbers (change_first (has_id client) (λ c. with_sessions c (change_first (has_number number) (change_slot place change) c.sessions)) cs)
  here change cs apart others at =
      all_change_one (has_id client) (λ c. OtherNumbers c × HasAt client number place slot numbers c) (HasAt client number place (change slot) numbers)
      (λ c. with_sessions c (change_first (has_number number) (change_slot place change) c.sessions)) in_client in_other cs (one_has (λ (c : ClientState). c.id) client cs apart)
      (all_both OtherNumbers (HasAt client number place slot numbers) (λ c. OtherNumbers c × HasAt client number place slot numbers c) (λ c p q. (p, q)) cs others at)
    where
      in_session : (id : ℕ) (s : SessionState) → IsAt client number place slot numbers id s → IsAt client number place (change slot) numbers id (change_slot place change s)
      in_session id s at = (at.0, λ same this. slot_changes place slot change s.slots (at.1 same this))

      beside : (id : ℕ) (s : SessionState) → has_number number s ≡ false → IsAt client number place slot numbers id s → IsAt client number place (change slot) numbers id s
      beside id s is at = (at.0, λ same this. absurd (cc (eq-eqb s.number number this, is)))

      in_client : (c : ClientState) → has_id client c ≡ true → OtherNumbers c × HasAt client number place slot numbers c
          → AllByRecursion (IsAt client number place (change slot) numbers c.id) (change_first (has_number number) (change_slot place change) c.sessions)
      in_client c is has =
          all_change_one (has_number number) (IsAt client number place slot numbers c.id) (IsAt client number place (change slot) numbers c.id) (change_slot place change)
          (λ s so at. in_session c.id s at) (λ s so at. beside c.id s so at) c.sessions (one_has (λ (s : SessionState). s.number) number c.sessions has.0) has.1

      in_other : (c : ClientState) → has_id client c ≡ false → OtherNumbers c × HasAt client number place slot numbers c → HasAt client number place (change slot) numbers c
      in_other c is has =
          all_map (IsAt client number place slot numbers c.id) (IsAt client number place (change slot) numbers c.id)
          (λ s at. (at.0, λ same this. absurd (cc (eq-eqb c.id client same, is)))) c.sessions has.1
