-- What each call of a table of clients makes of a record: its next number, the session that it made last, and which sessions stand.
use Rattle.std.proofs.Common.{◌≡◌, ◌≤◌, ℕ, ◌+◌, Bool, true, false, List, [], ◌∷◌, ◌++◌, Option, Some, None, refl, sym, ap, subst, ◌∙◌, inl, inr, ◌⊎◌, arith}
use Rattle.std.specs.Prelude.{◌==◌, if◌then◌else◌}
use Rattle.std.specs.List.{find}
use Rattle.std.proofs.lemmas.Bool.{cond_both, eqb-true}
use Rattle.cluster_model.specs.declared.ids.NodeId.{NodeId}
use Rattle.cluster_model.specs.Members.{IsOneOf}
use Rattle.nfs4_types.specs.declared.sequence.Sequence.{Sequence}
use Rattle.nfs4_types.specs.declared.status.Stat4.{Stat4}
use Rattle.nfs4_session.specs.declared.faults.IdFault.{IdFault}
use Rattle.nfs4_session.specs.Slots.{SlotState, SlotAnswer, TakesEffect, Repeats, Refuses, sequence_after, slot_begun, slot_finished}
use Rattle.nfs4_session.specs.Clients.{ClientState, MadeSession, SessionState, SessionsState, client_id, has_id, has_number, client_in, number_in, change_first, remove_first, renewed_at, with_sessions}
use Rattle.nfs4_session.specs.ExchangeIds.{ExchangeCase, IsKnown, IsAgain, ReplacesUnconfirmed, Restarts, IsNewOwner, exchange_case, exchange_fault, new_client, after_exchange, is_unconfirmed_of}
use Rattle.nfs4_session.specs.CreateSessions.{CreateSessionCase, IsDue, IsReplay, IsMisordered, HasNoRoom, IsStale, create_session_case, after_creating, with_new_session, created_session, is_before_restart}
use Rattle.nfs4_session.specs.Requests.{change_slot, request_answer, after_request}
use Rattle.nfs4_session.specs.Beginning.{table_begun}
use Rattle.nfs4_session.specs.Bindings.{bound_to, bound_last, client_bound, last_session, called_back, client_called_back}
use Rattle.nfs4_session.specs.Ends.{without_client, destroy_client_fault, has_ended}
use Rattle.nfs4_session.specs.TableLaw.{TableMove, ExchangeId, CreateSession, BeginRequest, FinishRequest, Bind, CallBack, DestroySession, DestroyClient, Expire, table_after, exchanged_unless, called_back_by, destroyed_unless, expired_by}
use Rattle.mds_walk.proofs.Lists.{AllOf, all_push, found_passes}
use Rattle.mds_session_order.proofs.Numbered.{HasKey, has_change, has_more, has_last, stays_or_passes}

-- ---- one record behind a call

-- the call destroys no session
abbrev pub DestroysNone : TableMove → Type 0
DestroysNone (DestroySession session) = ⊥
DestroysNone (ExchangeId verifier owner now) = Unit {0}
DestroysNone (CreateSession client sequence program node now) = Unit {0}
DestroysNone (BeginRequest request now) = Unit {0}
DestroysNone (FinishRequest pass reply) = Unit {0}
DestroysNone (Bind session node) = Unit {0}
DestroysNone (CallBack client) = Unit {0}
DestroysNone (DestroyClient client) = Unit {0}
DestroysNone (Expire now) = Unit {0}

abbrev pub number_of : SessionState → ℕ
number_of session = session.number

-- one of the sessions has this number
abbrev pub HasSession : ℕ → List SessionState → Type 0
HasSession number sessions = HasKey number_of number sessions

-- nothing was made; and its sessions stand, where this is so
pub record Stays (E : Type 0) (c d : ClientState) : Type 0 where
  pub id : d.id ≡ c.id
  pub sequence : d.sequence ≡ c.sequence
  pub made : d.made ≡ c.made
  pub stand : E → (number : ℕ) → HasSession number c.sessions → HasSession number d.sessions

-- a session was made, with the number behind all others
pub record Makes (s : SessionsState) (c d : ClientState) : Type 0 where
  pub id : d.id ≡ c.id
  pub sequence : d.sequence ≡ sequence_after c.sequence
  pub made : d.made ≡ Some (record { sequence = c.sequence; number = s.numbers + 1 })
  pub new : HasSession (s.numbers + 1) d.sessions
  pub stand : (number : ℕ) → HasSession number c.sessions → HasSession number d.sessions

pub data Came (E : Type 0) (s : SessionsState) (ids numbers : ℕ) (d : ClientState) : Type 0 where
  Stood : (c : ClientState) → IsOneOf c s.clients → Stays E c d → Came E s ids numbers d
  Made : (c : ClientState) → IsOneOf c s.clients → Makes s c d → numbers ≡ s.numbers + 1 → Came E s ids numbers d
  IsNew : d.id ≡ client_id s.boot (s.ids + 1) → d.made ≡ None → ids ≡ s.ids + 1 → Came E s ids numbers d

all_self : {A : Type 0} (P : A → Type 0) (xs : List A) → ((x : A) → IsOneOf x xs → P x) → AllOf P xs
all_self P [] each = tt
all_self P (x ∷ xs) each = (each x (inl refl), all_self P xs (λ y inside. each y (inr inside)))

-- ---- the sessions of a record

bound_stand : (number : ℕ) (node : NodeId) (xs : List SessionState) (o : Option SessionState) → find (has_number number) xs ≡ o → (k : ℕ) → HasSession k xs → HasSession k (bound_last number node xs o)
bound_stand number node xs None at k h = h
bound_stand number node xs (Some y) at k h = by_place (stays_or_passes (has_number number) h.x xs h.inside)
  where
    by_place : IsOneOf h.x (remove_first (has_number number) xs) ⊎ (has_number number h.x ≡ true) → HasSession k (remove_first (has_number number) xs ++ bound_to node y ∷ [])
    by_place (inl stays) = has_more number_of k (remove_first (has_number number) xs) (bound_to node y ∷ []) (record { x = h.x; inside = stays; is = h.is })
    by_place (inr passes) =
        let same : y.number ≡ k = eqb-true y.number number (found_passes (has_number number) xs y at) ∙ sym (eqb-true h.x.number number passes) ∙ h.is in
        subst (λ (n : ℕ). HasSession n (remove_first (has_number number) xs ++ bound_to node y ∷ [])) same (has_last number_of (bound_to node y) (remove_first (has_number number) xs))

module _ (E : Type 0) (s : SessionsState) (ids numbers : ℕ) where
  -- what is left of records that were there
  abbrev Old : ClientState → Type 0
  Old d = (c : ClientState) × IsOneOf c s.clients × Stays E c d

  stays_self : (c : ClientState) → Stays E c c
  stays_self c = record { id = refl; sequence = refl; made = refl; stand = λ e number h. h }

  then_stays : (b c d : ClientState) → Stays E b c → Stays E c d → Stays E b d
  then_stays b c d first second = record {
    id = second.id ∙ first.id;
    sequence = second.sequence ∙ first.sequence;
    made = second.made ∙ first.made;
    stand = λ e number h. second.stand e number (first.stand e number h);
  }

  old_self : AllOf Old s.clients
  old_self = all_self Old s.clients (λ c inside. (c, inside, stays_self c))

  old_change : (test : ClientState → Bool) (g : ClientState → ClientState) → ((c : ClientState) → Stays E c (g c)) → (cs : List ClientState) → AllOf Old cs → AllOf Old (change_first test g cs)
  old_change test g same [] all = tt
  old_change test g same (c ∷ cs) all =
      cond_both (test c) (g c ∷ cs) (c ∷ change_first test g cs) (λ (l : List ClientState). AllOf Old l) (λ is. ((all.0.0, all.0.1, then_stays all.0.0 c (g c) all.0.2 (same c)), all.1)) (λ off. (all.0, old_change test g same cs all.1))

  old_remove : (test : ClientState → Bool) (cs : List ClientState) → AllOf Old cs → AllOf Old (remove_first test cs)
  old_remove test [] all = tt
  old_remove test (c ∷ cs) all = cond_both (test c) cs (c ∷ remove_first test cs) (λ (l : List ClientState). AllOf Old l) (λ is. all.1) (λ off. (all.0, old_remove test cs all.1))

  abbrev Comes : ClientState → Type 0
  Comes d = Came E s ids numbers d

  old_comes : (cs : List ClientState) → AllOf Old cs → AllOf Comes cs
  old_comes [] all = tt
  old_comes (c ∷ cs) all = (Stood all.0.0 all.0.1 all.0.2, old_comes cs all.1)

  kept : AllOf Comes s.clients
  kept = old_comes s.clients old_self

  changed : (test : ClientState → Bool) (g : ClientState → ClientState) → ((c : ClientState) → Stays E c (g c)) → AllOf Comes (change_first test g s.clients)
  changed test g same = old_comes (change_first test g s.clients) (old_change test g same s.clients old_self)

  removed : (test : ClientState → Bool) → AllOf Comes (remove_first test s.clients)
  removed test = old_comes (remove_first test s.clients) (old_remove test s.clients old_self)

  renewed : (now : ℕ) (c : ClientState) → Stays E c (renewed_at now c)
  renewed now c = record { id = refl; sequence = refl; made = refl; stand = λ e number h. h }

  -- its sessions are changed, and no number of theirs
  same_numbers : (test : SessionState → Bool) (g : SessionState → SessionState) → ((x : SessionState) → (g x).number ≡ x.number) → (c : ClientState) → Stays E c (with_sessions c (change_first test g c.sessions))
  same_numbers test g same c = record { id = refl; sequence = refl; made = refl; stand = λ e number h. has_change number_of test g same number c.sessions h }

  -- ---- the calls

  pushed : (cs : List ClientState) (verifier owner : List ℕ) (now : ℕ) → AllOf Old cs → ids ≡ s.ids + 1 → AllOf Comes (cs ++ new_client s verifier owner now ∷ [])
  pushed cs verifier owner now all is = all_push Comes cs (new_client s verifier owner now) (old_comes cs all) (IsNew refl refl is)

  exchanged_came : (verifier owner : List ℕ) (now : ℕ) (case : ExchangeCase) (fault : Option IdFault) → ids ≡ (exchanged_unless s (after_exchange s verifier owner now case) fault).ids
      → AllOf Comes (exchanged_unless s (after_exchange s verifier owner now case) fault).clients
  exchanged_came verifier owner now case (Some fault) is = kept
  exchanged_came verifier owner now (IsKnown client) None is = changed (has_id client.id) (renewed_at now) (renewed now)
  exchanged_came verifier owner now (IsAgain client) None is = changed (has_id client.id) (renewed_at now) (renewed now)
  exchanged_came verifier owner now ReplacesUnconfirmed None is = pushed (remove_first (is_unconfirmed_of owner) s.clients) verifier owner now (old_remove (is_unconfirmed_of owner) s.clients old_self) is
  exchanged_came verifier owner now Restarts None is = pushed s.clients verifier owner now old_self is
  exchanged_came verifier owner now IsNewOwner None is = pushed s.clients verifier owner now old_self is

  -- of records that were there, the first that passes makes a session
  abbrev Was : ClientState → Type 0
  Was d = IsOneOf d s.clients

  was_stay : (cs : List ClientState) → AllOf Was cs → AllOf Comes cs
  was_stay [] all = tt
  was_stay (c ∷ cs) all = (Stood c all.0 (stays_self c), was_stay cs all.1)

  was_remove : (test : ClientState → Bool) (cs : List ClientState) → AllOf Was cs → AllOf Was (remove_first test cs)
  was_remove test [] all = tt
  was_remove test (c ∷ cs) all = cond_both (test c) cs (c ∷ remove_first test cs) (λ (l : List ClientState). AllOf Was l) (λ is. all.1) (λ off. (all.0, was_remove test cs all.1))

  was_made : (test : ClientState → Bool) (program : ℕ) (node : NodeId) (now : ℕ) → numbers ≡ s.numbers + 1 → (cs : List ClientState) → AllOf Was cs
      → AllOf Comes (change_first test (with_new_session (created_session s program node) now) cs)
  was_made test program node now is [] all = tt
  was_made test program node now is (c ∷ cs) all =
      let g : ClientState → ClientState = with_new_session (created_session s program node) now in
      cond_both (test c) (g c ∷ cs) (c ∷ change_first test g cs) (λ (l : List ClientState). AllOf Comes l)
      (λ passes. (
        Made c all.0 (record {
          id = refl;
          sequence = refl;
          made = refl;
          new = has_last number_of (created_session s program node) c.sessions;
          stand = λ number h. has_more number_of number c.sessions (created_session s program node ∷ []) h;
        }) is,
        was_stay cs all.1,
      ))
      (λ off. (Stood c all.0 (stays_self c), was_made test program node now is cs all.1))

  created_came : (program : ℕ) (node : NodeId) (now : ℕ) (case : CreateSessionCase) → numbers ≡ (after_creating s program node now case).numbers → AllOf Comes (after_creating s program node now case).clients
  created_came program node now (IsDue c) is =
      was_made (has_id c.id) program node now is (remove_first (is_before_restart c) s.clients) (was_remove (is_before_restart c) s.clients (all_self Was s.clients (λ x inside. inside)))
  created_came program node now (IsReplay session) is = kept
  created_came program node now IsMisordered is = kept
  created_came program node now HasNoRoom is = kept
  created_came program node now IsStale is = kept

  begun_came : (after : SessionsState) (a : SlotAnswer) → AllOf Comes after.clients → AllOf Comes (table_begun s after a).clients
  begun_came after TakesEffect all = all
  begun_came after (Repeats reply) all = kept
  begun_came after (Refuses status) all = kept

  request_came : (request : Sequence) (now : ℕ) → AllOf Comes (after_request s request now).clients
  request_came request now =
      old_comes (after_request s request now).clients
      (old_change (has_id (client_in request.session)) (renewed_at now) (renewed now) _
      (old_change (has_id (client_in request.session)) (λ c. with_sessions c (change_first (has_number (number_in request.session)) (change_slot request.slot (λ slot. slot_begun request.sequence)) c.sessions))
      (λ c. same_numbers (has_number (number_in request.session)) (change_slot request.slot (λ slot. slot_begun request.sequence)) (λ x. refl) c) s.clients old_self))

  back_came : (client : ℕ) (o : Option SessionState) → AllOf Comes (called_back_by s client o).clients
  back_came client None = kept
  back_came client (Some session) = changed (has_id client) (client_called_back session.number) (λ c. same_numbers (has_number session.number) called_back (λ x. refl) c)

  destroyed_came : (client : ℕ) (fault : Option Stat4) → AllOf Comes (destroyed_unless s (without_client s client) fault).clients
  destroyed_came client None = removed (has_id client)
  destroyed_came client (Some status) = kept

  expired_came : (o : Option ClientState) → AllOf Comes (expired_by s o).clients
  expired_came None = kept
  expired_came (Some c) = removed (has_id c.id)

-- each record of the table behind a call
pub came_with : (s : SessionsState) (move : TableMove) → AllOf (Came (DestroysNone move) s (table_after s move).ids (table_after s move).numbers) (table_after s move).clients
came_with s (ExchangeId verifier owner now) =
    exchanged_came (Unit {0}) s _ (table_after s (ExchangeId verifier owner now)).numbers verifier owner now (exchange_case s.clients verifier owner) (exchange_fault s (exchange_case s.clients verifier owner)) refl
came_with s (CreateSession client sequence program node now) =
    created_came (Unit {0}) s (table_after s (CreateSession client sequence program node now)).ids _ program node now (create_session_case s client sequence) refl
came_with s (BeginRequest request now) =
    let t : SessionsState = table_begun s (after_request s request now) (request_answer s request) in
    begun_came (Unit {0}) s t.ids t.numbers (after_request s request now) (request_answer s request) (request_came (Unit {0}) s t.ids t.numbers request now)
came_with s (FinishRequest pass reply) =
    changed (Unit {0}) s s.ids s.numbers (has_id (client_in pass.session)) (λ c. with_sessions c (change_first (has_number (number_in pass.session)) (change_slot pass.slot (slot_finished pass.sequence reply)) c.sessions))
    (λ c. same_numbers (Unit {0}) s s.ids s.numbers (has_number (number_in pass.session)) (change_slot pass.slot (slot_finished pass.sequence reply)) (λ x. refl) c)
came_with s (Bind session node) =
    changed (Unit {0}) s s.ids s.numbers (has_id (client_in session)) (client_bound (number_in session) node)
    (λ c. record { id = refl; sequence = refl; made = refl; stand = λ e number h. bound_stand (number_in session) node c.sessions (find (has_number (number_in session)) c.sessions) refl number h })
came_with s (CallBack client) =
    let t : SessionsState = called_back_by s client (last_session (find (has_id client) s.clients)) in
    back_came (Unit {0}) s t.ids t.numbers client (last_session (find (has_id client) s.clients))
came_with s (DestroySession session) =
    changed ⊥ s s.ids s.numbers (has_id (client_in session)) (λ c. with_sessions c (remove_first (has_number (number_in session)) c.sessions)) (λ c. record { id = refl; sequence = refl; made = refl; stand = λ e number h. absurd e })
came_with s (DestroyClient client) =
    let t : SessionsState = destroyed_unless s (without_client s client) (destroy_client_fault (find (has_id client) s.clients)) in
    destroyed_came (Unit {0}) s t.ids t.numbers client (destroy_client_fault (find (has_id client) s.clients))
came_with s (Expire now) =
    let t : SessionsState = expired_by s (find (has_ended now) s.clients) in
    expired_came (Unit {0}) s t.ids t.numbers (find (has_ended now) s.clients)
