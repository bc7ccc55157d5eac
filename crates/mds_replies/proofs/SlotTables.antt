-- What holds of the first slot of each session, by its client and its number, over the calls of a table of clients.
use Rattle.std.proofs.Common.{◌≡◌, ℕ, ◌+◌, zero, suc, Bool, true, false, cond, List, [], ◌∷◌, Option, Some, None, refl, sym, ap, subst, ◌∙◌}
use Rattle.std.specs.Prelude.{◌&&◌, slice_get}
use Rattle.std.specs.List.{find}
use Rattle.std.proofs.lemmas.Bool.{cond_both, eqb-true, eq-eqb}
use Rattle.std.proofs.lemmas.Option.{same_Some, none-some}
use Rattle.cluster_model.specs.declared.ids.NodeId.{NodeId}
use Rattle.nfs4_types.specs.declared.ids.SessionId.{SessionId}
use Rattle.nfs4_types.specs.declared.sequence.Sequence.{Sequence}
use Rattle.nfs4_types.specs.declared.status.Stat4.{Stat4}
use Rattle.nfs4_types.specs.declared.status.Stat4.TheVariants.{BadSession}
use Rattle.nfs4_session.specs.declared.faults.IdFault.{IdFault}
use Rattle.nfs4_session.specs.declared.begin.SlotPass.{SlotPass}
use Rattle.nfs4_session.specs.Slots.{SlotState, SlotAnswer, Refuses, new_slot, slot_answer, slot_begun, slot_finished, kept_as}
use Rattle.nfs4_session.specs.Clients.{ClientState, SessionState, SessionsState, has_id, has_number, client_in, number_in, session_of_client, change_first, remove_first, renewed_at, with_sessions}
use Rattle.nfs4_session.specs.ExchangeIds.{ExchangeCase, IsKnown, IsAgain, ReplacesUnconfirmed, Restarts, IsNewOwner, exchange_case, exchange_fault, new_client, after_exchange, is_unconfirmed_of}
use Rattle.nfs4_session.specs.CreateSessions.{CreateSessionCase, IsDue, IsReplay, IsMisordered, HasNoRoom, IsStale, create_session_case, after_creating, with_new_session, created_session, is_before_restart}
use Rattle.nfs4_session.specs.Requests.{answer_by_slot, answer_by_session, request_answer, change_at, change_slot, after_request, after_finish}
use Rattle.nfs4_session.specs.Bindings.{bound_to, bound_last, client_bound, last_session, called_back, client_called_back}
use Rattle.nfs4_session.specs.Ends.{without_client, destroy_client_fault, has_ended}
use Rattle.nfs4_session.specs.TableLaw.{TableMove, ExchangeId, CreateSession, BeginRequest, FinishRequest, Bind, CallBack, DestroySession, DestroyClient, Expire, table_after, exchanged_unless, called_back_by, destroyed_unless, expired_by}
use Rattle.mds_walk.proofs.Parts.{IsNoTurn}
use Rattle.mds_laws.proofs.Keeping.{no_turn_no_request, IsNoRequest}
use Rattle.mds_walk.proofs.Lists.{AllOf, all_push, all_in, found_in, found_passes}

-- ---- lists of which the first that passes a test is changed or taken out

all_change : {X : Type 0} (P R : X → Type 0) (test : X → Bool) (g : X → X) → ((x : X) → P x → R x) → ((x : X) → test x ≡ true → P x → R (g x)) → (xs : List X) → AllOf P xs → AllOf R (change_first test g xs)
all_change P R test g stays changes [] all = tt
all_change {X = X} P R test g stays changes (x ∷ xs) all =
    cond_both (test x) (g x ∷ xs) (x ∷ change_first test g xs) (λ (l : List X). AllOf R l) (λ is. (changes x is all.0, all_stay xs all.1)) (λ off. (stays x all.0, all_change P R test g stays changes xs all.1))
  where
    all_stay : (ys : List X) → AllOf P ys → AllOf R ys
    all_stay [] each = tt
    all_stay (y ∷ ys) each = (stays y each.0, all_stay ys each.1)

all_remove : {X : Type 0} (P : X → Type 0) (test : X → Bool) (xs : List X) → AllOf P xs → AllOf P (remove_first test xs)
all_remove P test [] all = tt
all_remove {X = X} P test (x ∷ xs) all = cond_both (test x) xs (x ∷ remove_first test xs) (λ (l : List X). AllOf P l) (λ is. all.1) (λ off. (all.0, all_remove P test xs all.1))

pub all_more : {X : Type 0} (P R : X → Type 0) → ((x : X) → P x → R x) → (xs : List X) → AllOf P xs → AllOf R xs
all_more P R stays [] all = tt
all_more P R stays (x ∷ xs) all = (stays x all.0, all_more P R stays xs all.1)

-- the first is changed twice
hit : {X : Type 0} (test : X → Bool) (g : X → X) (x : X) (xs : List X) → test x ≡ true → change_first test g (x ∷ xs) ≡ g x ∷ xs
hit test g x xs is = ap (λ (b : Bool). cond b (g x ∷ xs) (x ∷ change_first test g xs)) is

miss : {X : Type 0} (test : X → Bool) (g : X → X) (x : X) (xs : List X) → test x ≡ false → change_first test g (x ∷ xs) ≡ x ∷ change_first test g xs
miss test g x xs is = ap (λ (b : Bool). cond b (g x ∷ xs) (x ∷ change_first test g xs)) is

change_twice : {X : Type 0} (test : X → Bool) (g h : X → X) → ((x : X) → test (h x) ≡ test x) → (xs : List X) → change_first test g (change_first test h xs) ≡ change_first test (λ x. g (h x)) xs
change_twice test g h keep [] = refl
change_twice {X = X} test g h keep (x ∷ xs) = by_test (test x) refl (change_twice test g h keep xs)
  where
    by_test : (b : Bool) → test x ≡ b → change_first test g (change_first test h xs) ≡ change_first test (λ y. g (h y)) xs → change_first test g (change_first test h (x ∷ xs)) ≡ change_first test (λ y. g (h y)) (x ∷ xs)
    by_test true is rest = ap (change_first test g) (hit test h x xs is) ∙ hit test g (h x) xs (keep x ∙ is) ∙ sym (hit test (λ y. g (h y)) x xs is)
    by_test false is rest =
        ap (change_first test g) (miss test h x xs is) ∙ miss test g x (change_first test h xs) is ∙ ap (λ (l : List X). x ∷ l) rest ∙ sym (miss test (λ y. g (h y)) x xs is)

-- ---- one slot of each session

-- there is a first slot
abbrev pub HasFirst : List SlotState → Type 0
HasFirst [] = ⊥
HasFirst (x ∷ slots) = Unit {0}

pub changed_first : (place : ℕ) (f : SlotState → SlotState) (slots : List SlotState) → HasFirst slots → HasFirst (change_at place f slots (slice_get slots place))
changed_first place f [] some = absurd some
changed_first zero f (x ∷ slots) some = tt
changed_first (suc place) f (x ∷ slots) some = by_slot (slice_get slots place)
  where
    by_slot : (o : Option SlotState) → HasFirst (change_at (suc place) f (x ∷ slots) o)
    by_slot None = tt
    by_slot (Some y) = tt

none_first : (slots : List SlotState) → HasFirst slots → slice_get slots 0 ≡ None → ⊥
none_first [] some is = some
none_first (x ∷ slots) some is = none-some x (sym is)

abbrev pub SessionSo : (ℕ → ℕ → SlotState → Type 0) → ℕ → SessionState → Type 0
SessionSo P client session = HasFirst session.slots × ((slot : SlotState) → slice_get session.slots 0 ≡ Some slot → P client session.number slot)

abbrev pub ClientSo : (ℕ → ℕ → SlotState → Type 0) → ClientState → Type 0
ClientSo P c = AllOf (SessionSo P c.id) c.sessions

abbrev pub TableSo : (ℕ → ℕ → SlotState → Type 0) → SessionsState → Type 0
TableSo P s = AllOf (ClientSo P) s.clients

-- a slot is changed: the first of them, or another one
change_so : (P R : SlotState → Type 0) (place : ℕ) (f : SlotState → SlotState) → ((slot : SlotState) → P slot → R slot) → ((slot : SlotState) → P slot → R (f slot)) → (slots : List SlotState)
    → ((slot : SlotState) → slice_get slots 0 ≡ Some slot → P slot) → (slot : SlotState) → slice_get (change_at place f slots (slice_get slots place)) 0 ≡ Some slot → R slot
change_so P R place f stays changes [] all slot is = by_none (slice_get {X = SlotState} [] place) is
  where
    by_none : (o : Option SlotState) → slice_get (change_at place f [] o) 0 ≡ Some slot → R slot
    by_none None at = absurd (none-some slot at)
    by_none (Some y) at = absurd (none-some slot at)
change_so P R zero f stays changes (x ∷ slots) all slot is = subst R (same_Some (f x) slot is) (changes x (all x refl))
change_so P R (suc place) f stays changes (x ∷ slots) all slot is = by_slot (slice_get slots place) is
  where
    by_slot : (o : Option SlotState) → slice_get (change_at (suc place) f (x ∷ slots) o) 0 ≡ Some slot → R slot
    by_slot None at = subst R (same_Some x slot at) (stays x (all x refl))
    by_slot (Some y) at = subst R (same_Some x slot at) (stays x (all x refl))

-- it is changed twice
twice_so : (P R : SlotState → Type 0) (f g : SlotState → SlotState) → ((slot : SlotState) → P slot → R (g (f slot))) → (slots : List SlotState) → ((slot : SlotState) → slice_get slots 0 ≡ Some slot → P slot) → (slot : SlotState)
    → slice_get (change_at 0 g (change_at 0 f slots (slice_get slots 0)) (slice_get (change_at 0 f slots (slice_get slots 0)) 0)) 0 ≡ Some slot → R slot
twice_so P R f g changes [] all slot is = absurd (none-some slot is)
twice_so P R f g changes (x ∷ slots) all slot is = subst R (same_Some (g (f x)) slot is) (changes x (all x refl))

pub table_more : (P R : ℕ → ℕ → SlotState → Type 0) → ((client number : ℕ) (slot : SlotState) → P client number slot → R client number slot) → (s : SessionsState) → TableSo P s → TableSo R s
table_more P R stays s all =
    all_more (ClientSo P) (ClientSo R) (λ c so. all_more (SessionSo P c.id) (SessionSo R c.id) (λ x p. (p.0, λ slot is. stays c.id x.number slot (p.1 slot is))) c.sessions so) s.clients all

-- the client's lease is renewed
pub renewed_so : (P : ℕ → ℕ → SlotState → Type 0) (client now : ℕ) (cs : List ClientState) → AllOf (ClientSo P) cs → AllOf (ClientSo P) (change_first (has_id client) (renewed_at now) cs)
renewed_so P client now cs all = all_change (ClientSo P) (ClientSo P) (has_id client) (renewed_at now) (λ c i. i) (λ c is i. i) cs all

module _ (P : ℕ → ℕ → SlotState → Type 0) where
  -- a request's end with this reply keeps it
  abbrev pub KeepsEnd : List ℕ → Type 0
  KeepsEnd reply = (client number sequence : ℕ) (slot : SlotState) → P client number slot → P client number (slot_finished sequence reply slot)

  -- what the call gives a slot to keep does
  abbrev pub KeepsEnds : TableMove → Type 0
  KeepsEnds (FinishRequest pass reply) = KeepsEnd reply
  KeepsEnds move = Unit {0}

  abbrev So : ClientState → Type 0
  So c = AllOf (SessionSo P c.id) c.sessions

  change : (test : ClientState → Bool) (g : ClientState → ClientState) → ((c : ClientState) → So c → So (g c)) → (cs : List ClientState) → AllOf (ClientSo P) cs → AllOf (ClientSo P) (change_first test g cs)
  change test g keeps cs all = all_change (ClientSo P) (ClientSo P) test g (λ c i. i) (λ c is i. keeps c i) cs all

  sessions_change : (k : ℕ) (test : SessionState → Bool) (g : SessionState → SessionState) → ((x : SessionState) → SessionSo P k x → SessionSo P k (g x)) → (xs : List SessionState) → AllOf (SessionSo P k) xs
      → AllOf (SessionSo P k) (change_first test g xs)
  sessions_change k test g keeps xs all = all_change (SessionSo P k) (SessionSo P k) test g (λ x i. i) (λ x is i. keeps x i) xs all

  exchanged_so : (s : SessionsState) (verifier owner : List ℕ) (now : ℕ) (case : ExchangeCase) (fault : Option IdFault) → TableSo P s → TableSo P (exchanged_unless s (after_exchange s verifier owner now case) fault)
  exchanged_so s verifier owner now case (Some fault) i = i
  exchanged_so s verifier owner now (IsKnown client) None i = change (has_id client.id) (renewed_at now) (λ c its. its) s.clients i
  exchanged_so s verifier owner now (IsAgain client) None i = change (has_id client.id) (renewed_at now) (λ c its. its) s.clients i
  exchanged_so s verifier owner now ReplacesUnconfirmed None i =
      all_push (ClientSo P) (remove_first (is_unconfirmed_of owner) s.clients) (new_client s verifier owner now) (all_remove (ClientSo P) (is_unconfirmed_of owner) s.clients i) tt
  exchanged_so s verifier owner now Restarts None i = all_push (ClientSo P) s.clients (new_client s verifier owner now) i tt
  exchanged_so s verifier owner now IsNewOwner None i = all_push (ClientSo P) s.clients (new_client s verifier owner now) i tt

  created_so : (s : SessionsState) (program : ℕ) (node : NodeId) (now : ℕ) (case : CreateSessionCase) → ((client : ℕ) → (after_creating s program node now case).numbers ≡ s.numbers + 1 → P client (s.numbers + 1) new_slot) → TableSo P s
      → TableSo P (after_creating s program node now case)
  created_so s program node now (IsDue c) new i =
      change (has_id c.id) (with_new_session (created_session s program node) now)
      (λ x its. all_push (SessionSo P x.id) x.sessions (created_session s program node) its (tt, λ slot is. subst (P x.id (s.numbers + 1)) (same_Some new_slot slot is) (new x.id refl)))
      (remove_first (is_before_restart c) s.clients) (all_remove (ClientSo P) (is_before_restart c) s.clients i)
  created_so s program node now (IsReplay session) new i = i
  created_so s program node now IsMisordered new i = i
  created_so s program node now HasNoRoom new i = i
  created_so s program node now IsStale new i = i

  bound_so : (k number : ℕ) (node : NodeId) (xs : List SessionState) (o : Option SessionState) → find (has_number number) xs ≡ o → AllOf (SessionSo P k) xs → AllOf (SessionSo P k) (bound_last number node xs o)
  bound_so k number node xs None at i = i
  bound_so k number node xs (Some x) at i =
      all_push (SessionSo P k) (remove_first (has_number number) xs) (bound_to node x) (all_remove (SessionSo P k) (has_number number) xs i) (all_in (SessionSo P k) xs x i (found_in (has_number number) xs x at))

  back_so : (s : SessionsState) (client : ℕ) (o : Option SessionState) → TableSo P s → TableSo P (called_back_by s client o)
  back_so s client None i = i
  back_so s client (Some session) i =
      change (has_id client) (client_called_back session.number) (λ c its. sessions_change c.id (has_number session.number) called_back (λ x so. so) c.sessions its) s.clients i

  destroyed_so : (s : SessionsState) (client : ℕ) (fault : Option Stat4) → TableSo P s → TableSo P (destroyed_unless s (without_client s client) fault)
  destroyed_so s client None i = all_remove (ClientSo P) (has_id client) s.clients i
  destroyed_so s client (Some status) i = i

  expired_so : (s : SessionsState) (o : Option ClientState) → TableSo P s → TableSo P (expired_by s o)
  expired_so s None i = i
  expired_so s (Some c) i = all_remove (ClientSo P) (has_id c.id) s.clients i

  -- where it holds of the slot of a session that is made
  pub move_by : (s : SessionsState) (move : TableMove) → KeepsEnds move → ((client : ℕ) → (table_after s move).numbers ≡ s.numbers + 1 → P client (s.numbers + 1) new_slot) → IsNoRequest move → TableSo P s → TableSo P (table_after s move)
  move_by s (ExchangeId verifier owner now) ends new is i = exchanged_so s verifier owner now (exchange_case s.clients verifier owner) (exchange_fault s (exchange_case s.clients verifier owner)) i
  move_by s (CreateSession client sequence program node now) ends new is i = created_so s program node now (create_session_case s client sequence) new i
  move_by s (BeginRequest request now) ends new is i = absurd is
  move_by s (FinishRequest pass reply) ends new is i =
      change (has_id (client_in pass.session)) (λ c. with_sessions c (change_first (has_number (number_in pass.session)) (change_slot pass.slot (slot_finished pass.sequence reply)) c.sessions))
      (λ c its. sessions_change c.id (has_number (number_in pass.session)) (change_slot pass.slot (slot_finished pass.sequence reply))
      (λ x so. (changed_first pass.slot (slot_finished pass.sequence reply) x.slots so.0, change_so (P c.id x.number) (P c.id x.number) pass.slot (slot_finished pass.sequence reply) (λ slot p. p) (λ slot p. ends c.id x.number pass.sequence slot p) x.slots so.1)) c.sessions its) s.clients i
  move_by s (Bind session node) ends new is i =
      change (has_id (client_in session)) (client_bound (number_in session) node) (λ c its. bound_so c.id (number_in session) node c.sessions (find (has_number (number_in session)) c.sessions) refl its) s.clients i
  move_by s (CallBack client) ends new is i = back_so s client (last_session (find (has_id client) s.clients)) i
  move_by s (DestroySession session) ends new is i =
      change (has_id (client_in session)) (λ c. with_sessions c (remove_first (has_number (number_in session)) c.sessions)) (λ c its. all_remove (SessionSo P c.id) (has_number (number_in session)) c.sessions its) s.clients i
  move_by s (DestroyClient client) ends new is i = destroyed_so s client (destroy_client_fault (find (has_id client) s.clients)) i
  move_by s (Expire now) ends new is i = expired_so s (find (has_ended now) s.clients) i

module _ (P : ℕ → ℕ → SlotState → Type 0) (finished : (client number sequence : ℕ) (reply : List ℕ) (slot : SlotState) → P client number slot → P client number (slot_finished sequence reply slot)) where
  any_ends : (move : TableMove) → KeepsEnds P move
  any_ends (FinishRequest pass reply) = λ client number sequence slot p. finished client number sequence reply slot p
  any_ends (ExchangeId verifier owner now) = tt
  any_ends (CreateSession client sequence program node now) = tt
  any_ends (BeginRequest request now) = tt
  any_ends (Bind session node) = tt
  any_ends (CallBack client) = tt
  any_ends (DestroySession session) = tt
  any_ends (DestroyClient client) = tt
  any_ends (Expire now) = tt

  pub move_with : (s : SessionsState) (move : TableMove) → ((client : ℕ) → (table_after s move).numbers ≡ s.numbers + 1 → P client (s.numbers + 1) new_slot) → IsNoRequest move → TableSo P s → TableSo P (table_after s move)
  move_with s move new is i = move_by P s move (any_ends move) new is i

module _ (P : ℕ → ℕ → SlotState → Type 0) (new : (client number : ℕ) → P client number new_slot) (finished : (client number sequence : ℕ) (reply : List ℕ) (slot : SlotState) → P client number slot → P client number (slot_finished sequence reply slot)) where
  pub move_so : (s : SessionsState) (move : TableMove) → IsNoRequest move → TableSo P s → TableSo P (table_after s move)
  move_so s move is i = move_with P finished s move (λ client due. new client (s.numbers + 1)) is i

module _ (P : ℕ → ℕ → SlotState → Type 0) where
  -- ---- a call that begins no request and ends none, and one that ends one

  other_ends : (move : TableMove) → IsNoTurn move → KeepsEnds P move
  other_ends (FinishRequest pass reply) none = absurd none
  other_ends (ExchangeId verifier owner now) none = tt
  other_ends (CreateSession client sequence program node now) none = tt
  other_ends (BeginRequest request now) none = tt
  other_ends (Bind session node) none = tt
  other_ends (CallBack client) none = tt
  other_ends (DestroySession session) none = tt
  other_ends (DestroyClient client) none = tt
  other_ends (Expire now) none = tt

  pub turn_so : ((client number : ℕ) → P client number new_slot) → (s : SessionsState) (move : TableMove) → IsNoTurn move → TableSo P s → TableSo P (table_after s move)
  turn_so new s move none i = move_by P s move (other_ends move none) (λ client due. new client (s.numbers + 1)) (no_turn_no_request move none) i

  pub end_so : ((client number : ℕ) → P client number new_slot) → (s : SessionsState) (pass : SlotPass) (reply : List ℕ) → KeepsEnd P reply → TableSo P s → TableSo P (after_finish s pass reply)
  end_so new s pass reply ends i = move_by P s (FinishRequest pass reply) ends (λ client due. new client (s.numbers + 1)) tt i

  -- ---- a request begins on the first slot

  pub request_so : (s : SessionsState) (request : Sequence) (now : ℕ) → request.slot ≡ 0 → P (client_in request.session) (number_in request.session) (slot_begun request.sequence) → TableSo P s → TableSo P (after_request s request now)
  request_so s request now at its i =
      renewed_so P (client_in request.session) now _
      (all_change (ClientSo P) (ClientSo P) (has_id (client_in request.session))
      (λ c. with_sessions c (change_first (has_number (number_in request.session)) (change_slot request.slot (λ slot. slot_begun request.sequence)) c.sessions)) (λ c so. so)
      (λ c is so.
      all_change (SessionSo P c.id) (SessionSo P c.id) (has_number (number_in request.session)) (change_slot request.slot (λ slot. slot_begun request.sequence)) (λ x p. p)
      (λ x one p. (
        changed_first request.slot (λ slot. slot_begun request.sequence) x.slots p.0,
        change_so (P c.id x.number) (P c.id x.number) request.slot (λ slot. slot_begun request.sequence) (λ slot q. q)
            (λ slot q. subst (λ (k : ℕ). P k x.number (slot_begun request.sequence)) (sym (eqb-true c.id (client_in request.session) is))
            (subst (λ (j : ℕ). P (client_in request.session) j (slot_begun request.sequence)) (sym (eqb-true x.number (number_in request.session) one)) its)) x.slots p.1,
      )) c.sessions so) s.clients i)

  -- it begins, and is done at once
  pub done_so : (s : SessionsState) (session : SessionId) (sequence highest : ℕ) (kept : Bool) (now : ℕ) (reply : List ℕ) → P (client_in session) (number_in session) (record { last = sequence; reply = kept_as reply }) → TableSo P s
      → TableSo P (after_finish (after_request s (record { session = session; sequence = sequence; slot = 0; highest = highest; cachethis = kept }) now) (record { session = session; slot = 0; sequence = sequence }) reply)
  done_so s session sequence highest kept now reply its i =
      let test : ClientState → Bool = has_id (client_in session) in
      let begin : SessionState → SessionState = change_slot 0 (λ slot. slot_begun sequence) in
      let finish : SessionState → SessionState = change_slot 0 (slot_finished sequence reply) in
      let g : ClientState → ClientState = λ c. with_sessions c (change_first (has_number (number_in session)) finish c.sessions) in
      let h : ClientState → ClientState = λ c. with_sessions c (change_first (has_number (number_in session)) begin c.sessions) in
      let one : change_first test g (change_first test (renewed_at now) (change_first test h s.clients)) ≡ change_first test (λ c. g (renewed_at now (h c))) s.clients =
      ap (change_first test g) (change_twice test (renewed_at now) h (λ c. refl) s.clients) ∙ change_twice test g (λ c. renewed_at now (h c)) (λ c. refl) s.clients in
      subst (λ (cs : List ClientState). AllOf (ClientSo P) cs) (sym one)
      (all_change (ClientSo P) (ClientSo P) test (λ c. g (renewed_at now (h c))) (λ c so. so)
      (λ c is so.
      subst (λ (xs : List SessionState). AllOf (SessionSo P c.id) xs) (sym (change_twice (has_number (number_in session)) finish begin (λ x. refl) c.sessions))
      (all_change (SessionSo P c.id) (SessionSo P c.id) (has_number (number_in session)) (λ x. finish (begin x)) (λ x p. p)
      (λ x same p. (
        changed_first 0 (slot_finished sequence reply) (change_at 0 (λ slot. slot_begun sequence) x.slots (slice_get x.slots 0)) (changed_first 0 (λ slot. slot_begun sequence) x.slots p.0),
        twice_so (P c.id x.number) (P c.id x.number) (λ slot. slot_begun sequence) (slot_finished sequence reply)
            (λ slot q.
            subst (P c.id x.number) (sym finished_is)
            (subst (λ (k : ℕ). P k x.number (record { last = sequence; reply = kept_as reply })) (sym (eqb-true c.id (client_in session) is))
            (subst (λ (j : ℕ). P (client_in session) j (record { last = sequence; reply = kept_as reply })) (sym (eqb-true x.number (number_in session) same)) its))) x.slots p.1,
      )) c.sessions so)) s.clients i)
    where
      finished_is : slot_finished sequence reply (slot_begun sequence) ≡ record { last = sequence; reply = kept_as reply }
      finished_is = ap (λ (b : Bool). cond {A = SlotState} (b && true) (record { last = sequence; reply = kept_as reply }) (slot_begun sequence)) (eq-eqb sequence sequence refl)

-- ---- what a request comes to

pub data SlotJudged (P : ℕ → ℕ → SlotState → Type 0) (session : SessionId) (number : ℕ) (a : SlotAnswer) : Type 0 where
  NoSession : a ≡ Refuses BadSession → SlotJudged P session number a
  BySlot : (slot : SlotState) → P (client_in session) (number_in session) slot → a ≡ slot_answer slot number → SlotJudged P session number a

module _ (P : ℕ → ℕ → SlotState → Type 0) (request : Sequence) (at_first : request.slot ≡ 0) where
  by_slot : (o : Option SlotState) → (o ≡ None → ⊥) → ((slot : SlotState) → o ≡ Some slot → P (client_in request.session) (number_in request.session) slot) → SlotJudged P request.session request.sequence (answer_by_slot request.sequence o)
  by_slot None some so = absurd (some refl)
  by_slot (Some slot) some so = BySlot slot (so slot refl) refl

  by_session : (k : ℕ) → k ≡ client_in request.session → (xs : List SessionState) → AllOf (SessionSo P k) xs → (o : Option SessionState) → find (has_number (number_in request.session)) xs ≡ o
      → SlotJudged P request.session request.sequence (answer_by_session request o)
  by_session k its xs all None at = NoSession refl
  by_session k its xs all (Some x) at =
      let its_own : SessionSo P k x = all_in (SessionSo P k) xs x all (found_in (has_number (number_in request.session)) xs x at) in
      by_slot (slice_get x.slots request.slot) (λ none. none_first x.slots its_own.0 (ap (slice_get x.slots) (sym at_first) ∙ none))
      (λ slot is.
      subst (λ (n : ℕ). P n (number_in request.session) slot) its
      (subst (λ (n : ℕ). P k n slot) (eqb-true x.number (number_in request.session) (found_passes (has_number (number_in request.session)) xs x at))
      (its_own.1 slot (ap (slice_get x.slots) (sym at_first) ∙ is))))

  by_client : (cs : List ClientState) → AllOf (ClientSo P) cs → (o : Option ClientState) → find (has_id (client_in request.session)) cs ≡ o
      → SlotJudged P request.session request.sequence (answer_by_session request (session_of_client (number_in request.session) o))
  by_client cs all None at = NoSession refl
  by_client cs all (Some c) at =
      by_session c.id (eqb-true c.id (client_in request.session) (found_passes (has_id (client_in request.session)) cs c at)) c.sessions (all_in (ClientSo P) cs c all (found_in (has_id (client_in request.session)) cs c at))
      (find (has_number (number_in request.session)) c.sessions) refl

  pub judged : (s : SessionsState) → TableSo P s → SlotJudged P request.session request.sequence (request_answer s request)
  judged s i = by_client s.clients i (find (has_id (client_in request.session)) s.clients) refl
