-- The session of a request that takes effect stands behind it.
use Rattle.std.proofs.Common.{◌≡◌, ℕ, Bool, true, false, cond, List, [], ◌∷◌, Option, Some, None, refl, ap, ◌∙◌}
use Rattle.std.specs.Prelude.{◌==◌, is_some}
use Rattle.std.specs.List.{find}
use Rattle.std.proofs.lemmas.Bool.{cond_both}
use Rattle.nfs4_types.specs.declared.ids.SessionId.{SessionId}
use Rattle.nfs4_session.specs.Slots.{TakesEffect, slot_begun}
use Rattle.nfs4_session.specs.Clients.{ClientState, SessionState, SessionsState, client_in, number_in, has_id, has_number, session_of_client, session_of, change_first, renewed_at, with_sessions}
use Rattle.nfs4_session.specs.Requests.{change_slot, answer_by_session, request_answer, after_request}
use Rattle.client_mds_calls.specs.MdsCalls.{SlotCallValue}
use Rattle.mds_replies.specs.SlotReplies.{request_of}

sessions_stand : (n : ℕ) (test : SessionState → Bool) (h : SessionState → SessionState) → ((x : SessionState) → (h x).number ≡ x.number) → (xs : List SessionState) → is_some (find (has_number n) (change_first test h xs)) ≡ is_some (find (has_number n) xs)
sessions_stand n test h numbers [] = refl
sessions_stand n test h numbers (x ∷ xs) =
    cond_both (test x) (h x ∷ xs) (x ∷ change_first test h xs) (λ (l : List SessionState). is_some (find (has_number n) l) ≡ is_some (find (has_number n) (x ∷ xs)))
    (λ is. ap (λ (k : ℕ). is_some (cond (k == n) (Some (h x)) (find (has_number n) xs))) (numbers x) ∙ hit (x.number == n))
    (λ off. miss (x.number == n) (sessions_stand n test h numbers xs))
  where
    hit : (b : Bool) → is_some (cond b (Some (h x)) (find (has_number n) xs)) ≡ is_some (cond b (Some x) (find (has_number n) xs))
    hit true = refl
    hit false = refl

    miss : (b : Bool) → is_some (find (has_number n) (change_first test h xs)) ≡ is_some (find (has_number n) xs) → is_some (cond b (Some x) (find (has_number n) (change_first test h xs))) ≡ is_some (cond b (Some x) (find (has_number n) xs))
    miss true rest = refl
    miss false rest = rest

clients_stand : (id n : ℕ) (test : ClientState → Bool) (g : ClientState → ClientState) → ((x : ClientState) → (g x).id ≡ x.id) → ((x : ClientState) → is_some (find (has_number n) (g x).sessions) ≡ is_some (find (has_number n) x.sessions)) → (xs : List ClientState)
    → is_some (session_of_client n (find (has_id id) (change_first test g xs))) ≡ is_some (session_of_client n (find (has_id id) xs))
clients_stand id n test g ids its [] = refl
clients_stand id n test g ids its (x ∷ xs) =
    cond_both (test x) (g x ∷ xs) (x ∷ change_first test g xs) (λ (l : List ClientState). is_some (session_of_client n (find (has_id id) l)) ≡ is_some (session_of_client n (find (has_id id) (x ∷ xs))))
    (λ is. ap (λ (k : ℕ). is_some (session_of_client n (cond (k == id) (Some (g x)) (find (has_id id) xs)))) (ids x) ∙ hit (x.id == id))
    (λ off. miss (x.id == id) (clients_stand id n test g ids its xs))
  where
    hit : (b : Bool) → is_some (session_of_client n (cond b (Some (g x)) (find (has_id id) xs))) ≡ is_some (session_of_client n (cond b (Some x) (find (has_id id) xs)))
    hit true = its x
    hit false = refl

    miss : (b : Bool) → is_some (session_of_client n (find (has_id id) (change_first test g xs))) ≡ is_some (session_of_client n (find (has_id id) xs))
        → is_some (session_of_client n (cond b (Some x) (find (has_id id) (change_first test g xs)))) ≡ is_some (session_of_client n (cond b (Some x) (find (has_id id) xs)))
    miss true rest = refl
    miss false rest = rest

pub stands_behind : (s : SessionsState) (session : SessionId) (number : ℕ) (call : SlotCallValue) (now : ℕ) → request_answer s (request_of session number call) ≡ TakesEffect
    → is_some (session_of (after_request s (request_of session number call) now).clients session) ≡ true
stands_behind s session number call now effect =
    let change : SessionState → SessionState = change_slot 0 (λ slot. slot_begun number) in
    let g : ClientState → ClientState = λ c. with_sessions c (change_first (has_number (number_in session)) change c.sessions) in
    clients_stand (client_in session) (number_in session) (has_id (client_in session)) (renewed_at now) (λ x. refl) (λ x. refl) (change_first (has_id (client_in session)) g s.clients)
    ∙ (clients_stand (client_in session) (number_in session) (has_id (client_in session)) g (λ x. refl) (λ x. sessions_stand (number_in session) (has_number (number_in session)) change (λ y. refl) x.sessions) s.clients
    ∙ there (session_of s.clients session) refl effect)
  where
    there : (o : Option SessionState) → session_of s.clients session ≡ o → answer_by_session (request_of session number call) o ≡ TakesEffect → is_some o ≡ true
    there None at is = absurd cc
    there (Some x) at is = refl
