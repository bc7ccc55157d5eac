-- Whose the records of a table of clients are, over every call of it: a record keeps its id, its owner and its verifier, and a new one has
-- the id behind all others.
use Rattle.std.proofs.Common.{◌≡◌, ◌≤◌, ◌<◌, ℕ, ◌+◌, Bool, true, false, List, [], ◌∷◌, ◌++◌, Option, Some, None, refl, sym, subst, ◌∙◌, inl, inr, arith}
use Rattle.std.specs.Prelude.{◌==◌, nat_lt, if◌then◌else◌}
use Rattle.std.specs.List.{find}
use Rattle.std.proofs.lemmas.Bool.{cond_both, eq-eqb}
use Rattle.cluster_model.specs.declared.ids.NodeId.{NodeId}
use Rattle.cluster_model.specs.Members.{IsOneOf}
use Rattle.nfs4_types.specs.declared.sequence.Sequence.{Sequence}
use Rattle.nfs4_types.specs.declared.status.Stat4.{Stat4}
use Rattle.nfs4_session.specs.declared.faults.IdFault.{IdFault}
use Rattle.nfs4_session.specs.declared.faults.IdFault.TheVariants.{Full}
use Rattle.nfs4_session.specs.Slots.{SlotAnswer, TakesEffect, Repeats, Refuses, sequence_after}
use Rattle.nfs4_session.specs.Clients.{ClientState, MadeSession, SessionState, SessionsState, has_id, change_first, remove_first, renewed_at}
use Rattle.nfs4_session.specs.ExchangeIds.{ExchangeCase, IsKnown, IsAgain, ReplacesUnconfirmed, Restarts, IsNewOwner, exchange_case, exchange_fault, new_id_fault, ids_are_spent, known_owners, new_client, after_exchange, is_unconfirmed_of}
use Rattle.nfs4_session.specs.CreateSessions.{CreateSessionCase, IsDue, IsReplay, IsMisordered, HasNoRoom, IsStale, create_session_case, after_creating, with_new_session, created_session, is_before_restart}
use Rattle.nfs4_session.specs.Requests.{request_answer, after_request}
use Rattle.nfs4_session.specs.Beginning.{table_begun}
use Rattle.nfs4_session.specs.Bindings.{last_session}
use Rattle.nfs4_session.specs.Ends.{without_client, destroy_client_fault, has_ended}
use Rattle.nfs4_session.specs.declared.exchange.TheConstants.{MAX_OWNERS}
use Rattle.nfs4_session.specs.TableLaw.{TableMove, ExchangeId, CreateSession, BeginRequest, FinishRequest, Bind, CallBack, DestroySession, DestroyClient, Expire, table_after, exchanged_unless, called_back_by, destroyed_unless, expired_by}
use Rattle.mds_walk.proofs.Lists.{AllOf, all_push}

-- ---- one record behind a call

-- the numbers of its calls of CREATE_SESSION fit a word
abbrev pub FitsMade : Option MadeSession → Type 0
FitsMade None = Unit {0}
FitsMade (Some made) = made.sequence < 4294967296

abbrev pub FitsWord : ClientState → Type 0
FitsWord c = (c.sequence < 4294967296) × FitsMade c.made

pub record SameKey (c d : ClientState) : Type 0 where
  pub id : d.id ≡ c.id
  pub owner : d.owner ≡ c.owner
  pub verifier : d.verifier ≡ c.verifier
  pub sequence : FitsWord c → FitsWord d

-- it was there before, or it is new
pub data Came (s : SessionsState) (ids : ℕ) (verifier owner : List ℕ) (d : ClientState) : Type 0 where
  Was : (c : ClientState) → IsOneOf c s.clients → SameKey c d → Came s ids verifier owner d
  IsNew : (now : ℕ) → d ≡ new_client s verifier owner now → ids ≡ s.ids + 1 → Came s ids verifier owner d

-- of whom a call makes a new record
abbrev pub verifier_of : TableMove → List ℕ
verifier_of (ExchangeId verifier owner now) = verifier
verifier_of move = []

abbrev pub owner_of : TableMove → List ℕ
owner_of (ExchangeId verifier owner now) = owner
owner_of move = []

all_self : {A : Type 0} (P : A → Type 0) (xs : List A) → ((x : A) → IsOneOf x xs → P x) → AllOf P xs
all_self P [] each = tt
all_self P (x ∷ xs) each = (each x (inl refl), all_self P xs (λ y inside. each y (inr inside)))

after_fits : (n : ℕ) → n < 4294967296 → sequence_after n < 4294967296
after_fits n less =
    cond_both (n == 4294967295) 0 (n + 1) (λ (k : ℕ). k < 4294967296) (λ is. omega arith) (λ off. let ne : (n ≡ 4294967295 → ⊥) = λ is. not_so (sym (eq-eqb n 4294967295 is) ∙ off) in other ne)
  where
    not_so : true ≡ false → ⊥
    not_so is = absurd cc

    other : (n ≡ 4294967295 → ⊥) → n + 1 < 4294967296
    other ne = grind (arith, ne, less)

module _ (s : SessionsState) (ids : ℕ) (verifier owner : List ℕ) where
  -- what is left of records that were there
  abbrev Old : ClientState → Type 0
  Old d = (c : ClientState) × IsOneOf c s.clients × SameKey c d

  old_self : AllOf Old s.clients
  old_self = all_self Old s.clients (λ c inside. (c, inside, record { id = refl; owner = refl; verifier = refl; sequence = λ less. less }))

  old_change : (test : ClientState → Bool) (g : ClientState → ClientState) → ((c : ClientState) → SameKey c (g c)) → (cs : List ClientState) → AllOf Old cs → AllOf Old (change_first test g cs)
  old_change test g same [] all = tt
  old_change test g same (c ∷ cs) all =
      cond_both (test c) (g c ∷ cs) (c ∷ change_first test g cs) (λ (l : List ClientState). AllOf Old l)
      (λ is. ((all.0.0, all.0.1, record { id = (same c).id ∙ all.0.2.id; owner = (same c).owner ∙ all.0.2.owner; verifier = (same c).verifier ∙ all.0.2.verifier; sequence = λ less. (same c).sequence (all.0.2.sequence less) }), all.1))
      (λ off. (all.0, old_change test g same cs all.1))

  old_remove : (test : ClientState → Bool) (cs : List ClientState) → AllOf Old cs → AllOf Old (remove_first test cs)
  old_remove test [] all = tt
  old_remove test (c ∷ cs) all = cond_both (test c) cs (c ∷ remove_first test cs) (λ (l : List ClientState). AllOf Old l) (λ is. all.1) (λ off. (all.0, old_remove test cs all.1))

  abbrev Comes : ClientState → Type 0
  Comes d = Came s ids verifier owner d

  old_comes : (cs : List ClientState) → AllOf Old cs → AllOf Comes cs
  old_comes [] all = tt
  old_comes (c ∷ cs) all = (Was all.0.0 all.0.1 all.0.2, old_comes cs all.1)

  kept : AllOf Comes s.clients
  kept = old_comes s.clients old_self

  plain : (c d : ClientState) → d.id ≡ c.id → d.owner ≡ c.owner → d.verifier ≡ c.verifier → d.sequence ≡ c.sequence → d.made ≡ c.made → SameKey c d
  plain c d id owner verifier sequence made = record { id = id; owner = owner; verifier = verifier; sequence = λ less. (subst (λ (n : ℕ). n < 4294967296) (sym sequence) less.0, subst FitsMade (sym made) less.1) }

  changed : (test : ClientState → Bool) (g : ClientState → ClientState) → ((c : ClientState) → SameKey c (g c)) → AllOf Comes (change_first test g s.clients)
  changed test g same = old_comes (change_first test g s.clients) (old_change test g same s.clients old_self)

  pushed : (cs : List ClientState) (now : ℕ) → AllOf Old cs → ids ≡ s.ids + 1 → AllOf Comes (cs ++ new_client s verifier owner now ∷ [])
  pushed cs now all is = all_push Comes cs (new_client s verifier owner now) (old_comes cs all) (IsNew now refl is)

  exchanged_came : (now : ℕ) (case : ExchangeCase) (fault : Option IdFault) → ids ≡ (exchanged_unless s (after_exchange s verifier owner now case) fault).ids
      → AllOf Comes (exchanged_unless s (after_exchange s verifier owner now case) fault).clients
  exchanged_came now case (Some fault) is = kept
  exchanged_came now (IsKnown client) None is = changed (has_id client.id) (renewed_at now) (λ c. plain c (renewed_at now c) refl refl refl refl refl)
  exchanged_came now (IsAgain client) None is = changed (has_id client.id) (renewed_at now) (λ c. plain c (renewed_at now c) refl refl refl refl refl)
  exchanged_came now ReplacesUnconfirmed None is = pushed (remove_first (is_unconfirmed_of owner) s.clients) now (old_remove (is_unconfirmed_of owner) s.clients old_self) is
  exchanged_came now Restarts None is = pushed s.clients now old_self is
  exchanged_came now IsNewOwner None is = pushed s.clients now old_self is

  created_came : (program : ℕ) (node : NodeId) (now : ℕ) (case : CreateSessionCase) → AllOf Comes (after_creating s program node now case).clients
  created_came program node now (IsDue c) =
      let g : ClientState → ClientState = with_new_session (created_session s program node) now in
      old_comes (change_first (has_id c.id) g (remove_first (is_before_restart c) s.clients))
      (old_change (has_id c.id) g (λ x. record { id = refl; owner = refl; verifier = refl; sequence = λ less. (after_fits x.sequence less.0, less.0) }) (remove_first (is_before_restart c) s.clients) (old_remove (is_before_restart c) s.clients old_self))
  created_came program node now (IsReplay session) = kept
  created_came program node now IsMisordered = kept
  created_came program node now HasNoRoom = kept
  created_came program node now IsStale = kept

  begun_came : (after : SessionsState) (a : SlotAnswer) → AllOf Comes after.clients → AllOf Comes (table_begun s after a).clients
  begun_came after TakesEffect all = all
  begun_came after (Repeats reply) all = kept
  begun_came after (Refuses status) all = kept

  back_came : (client : ℕ) (o : Option SessionState) → AllOf Comes (called_back_by s client o).clients
  back_came client None = kept
  back_came client (Some session) = changed (has_id client) _ (λ c. plain c _ refl refl refl refl refl)

  destroyed_came : (client : ℕ) (fault : Option Stat4) → AllOf Comes (destroyed_unless s (without_client s client) fault).clients
  destroyed_came client None = old_comes (remove_first (has_id client) s.clients) (old_remove (has_id client) s.clients old_self)
  destroyed_came client (Some status) = kept

  expired_came : (o : Option ClientState) → AllOf Comes (expired_by s o).clients
  expired_came None = kept
  expired_came (Some c) = old_comes (remove_first (has_id c.id) s.clients) (old_remove (has_id c.id) s.clients old_self)

  request_came : (request : Sequence) (now : ℕ) → AllOf Comes (after_request s request now).clients
  request_came request now =
      old_comes (after_request s request now).clients
      (old_change _ (renewed_at now) (λ c. plain c (renewed_at now c) refl refl refl refl refl) _ (old_change _ _ (λ c. plain c _ refl refl refl refl refl) s.clients old_self))

-- each record of the table behind a call
pub came_with : (s : SessionsState) (move : TableMove) → AllOf (Came s (table_after s move).ids (verifier_of move) (owner_of move)) (table_after s move).clients
came_with s (ExchangeId verifier owner now) =
    exchanged_came s (table_after s (ExchangeId verifier owner now)).ids verifier owner now (exchange_case s.clients verifier owner) (exchange_fault s (exchange_case s.clients verifier owner)) refl
came_with s (CreateSession client sequence program node now) = created_came s _ [] [] program node now (create_session_case s client sequence)
came_with s (BeginRequest request now) = begun_came s _ [] [] (after_request s request now) (request_answer s request) (request_came s _ [] [] request now)
came_with s (FinishRequest pass reply) = changed s _ [] [] _ _ (λ c. plain s s.ids [] [] c _ refl refl refl refl refl)
came_with s (Bind session node) = changed s _ [] [] _ _ (λ c. plain s s.ids [] [] c _ refl refl refl refl refl)
came_with s (CallBack client) = back_came s _ [] [] client (last_session (find (has_id client) s.clients))
came_with s (DestroySession session) = changed s _ [] [] _ _ (λ c. plain s s.ids [] [] c _ refl refl refl refl refl)
came_with s (DestroyClient client) = destroyed_came s _ [] [] client (destroy_client_fault (find (has_id client) s.clients))
came_with s (Expire now) = expired_came s _ [] [] (find (has_ended now) s.clients)

-- ---- how many ids were given

pub record Grows (s t : SessionsState) : Type 0 where
  pub boot : t.boot ≡ s.boot
  pub more : s.ids ≤ t.ids
  pub few : s.ids ≤ 4294967295 → t.ids ≤ 4294967295

stays_grown : (s t : SessionsState) → t.boot ≡ s.boot → t.ids ≡ s.ids → Grows s t
stays_grown s t boot ids = record { boot = boot; more = omega (arith, ids); few = λ few. omega (arith, ids, few) }

not_spent : (s : SessionsState) → new_id_fault s ≡ None → (s.ids ≡ 4294967295 → ⊥)
not_spent s none last = by_test (ids_are_spent s) (eq-eqb s.ids 4294967295 last) none
  where
    by_test : (b : Bool) → b ≡ true → (if b then Some Full else None) ≡ None → ⊥
    by_test true is none = absurd cc
    by_test false is none = absurd cc

one_grown : (s t : SessionsState) → t.boot ≡ s.boot → t.ids ≡ s.ids + 1 → (s.ids ≡ 4294967295 → ⊥) → Grows s t
one_grown s t boot ids spare = record { boot = boot; more = omega (arith, ids); few = λ few. by_bound few }
  where
    by_bound : s.ids ≤ 4294967295 → t.ids ≤ 4294967295
    by_bound few = grind (arith, few, ids, spare)

owner_fault : (b : Bool) (o : Option IdFault) → (if b then o else Some Full) ≡ None → o ≡ None
owner_fault true o is = is
owner_fault false o is = absurd cc

exchanged_grows : (s : SessionsState) (verifier owner : List ℕ) (now : ℕ) (case : ExchangeCase) (fault : Option IdFault) → exchange_fault s case ≡ fault → Grows s (exchanged_unless s (after_exchange s verifier owner now case) fault)
exchanged_grows s verifier owner now case (Some fault) is = stays_grown s s refl refl
exchanged_grows s verifier owner now (IsKnown client) None is = stays_grown s _ refl refl
exchanged_grows s verifier owner now (IsAgain client) None is = stays_grown s _ refl refl
exchanged_grows s verifier owner now ReplacesUnconfirmed None is = one_grown s _ refl refl (not_spent s is)
exchanged_grows s verifier owner now Restarts None is = one_grown s _ refl refl (not_spent s is)
exchanged_grows s verifier owner now IsNewOwner None is = one_grown s _ refl refl (not_spent s (owner_fault (nat_lt (known_owners s.clients) MAX_OWNERS) (new_id_fault s) is))

pub grows_with : (s : SessionsState) (move : TableMove) → Grows s (table_after s move)
grows_with s (ExchangeId verifier owner now) = exchanged_grows s verifier owner now (exchange_case s.clients verifier owner) (exchange_fault s (exchange_case s.clients verifier owner)) refl
grows_with s (CreateSession client sequence program node now) = by_case (create_session_case s client sequence)
  where
    by_case : (case : CreateSessionCase) → Grows s (after_creating s program node now case)
    by_case (IsDue c) = stays_grown s _ refl refl
    by_case (IsReplay session) = stays_grown s s refl refl
    by_case IsMisordered = stays_grown s s refl refl
    by_case HasNoRoom = stays_grown s s refl refl
    by_case IsStale = stays_grown s s refl refl
grows_with s (BeginRequest request now) = by_case (request_answer s request)
  where
    by_case : (a : SlotAnswer) → Grows s (table_begun s (after_request s request now) a)
    by_case TakesEffect = stays_grown s _ refl refl
    by_case (Repeats reply) = stays_grown s s refl refl
    by_case (Refuses status) = stays_grown s s refl refl
grows_with s (FinishRequest pass reply) = stays_grown s _ refl refl
grows_with s (Bind session node) = stays_grown s _ refl refl
grows_with s (CallBack client) = by_case (last_session (find (has_id client) s.clients))
  where
    by_case : (o : Option SessionState) → Grows s (called_back_by s client o)
    by_case None = stays_grown s s refl refl
    by_case (Some session) = stays_grown s _ refl refl
grows_with s (DestroySession session) = stays_grown s _ refl refl
grows_with s (DestroyClient client) = by_case (destroy_client_fault (find (has_id client) s.clients))
  where
    by_case : (fault : Option Stat4) → Grows s (destroyed_unless s (without_client s client) fault)
    by_case None = stays_grown s _ refl refl
    by_case (Some status) = stays_grown s s refl refl
grows_with s (Expire now) = by_case (find (has_ended now) s.clients)
  where
    by_case : (o : Option ClientState) → Grows s (expired_by s o)
    by_case None = stays_grown s s refl refl
    by_case (Some c) = stays_grown s _ refl refl
