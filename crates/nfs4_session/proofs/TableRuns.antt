-- Over every list of calls the table is sound, and ids and numbers are given once.
use Rattle.std.proofs.Common.{◌≡◌, ℕ, ◌+◌, ◌<◌, ◌≤◌, Bool, true, false, List, [], ◌∷◌, ◌++◌, length, Option, Some, None, refl, sym, ap, ◌∙◌, subst, arith, append-nil}
use Rattle.std.specs.Prelude.{◌==◌, ◌&&◌, ◌||◌, not, fold, nat_lt, if◌then◌else◌}
use Rattle.std.specs.List.{All, AllPairs, AllByRecursion, find, list_any}
use Rattle.std.proofs.lemmas.Bool.{eq-eqb, eqb-true, ltb-true}
use Rattle.std.proofs.lemmas.List.{length_push}
use Rattle.std.proofs.lemmas.Slice.Eq.{bytes_eq-Decides}
use Rattle.cluster_model.specs.declared.ids.NodeId.{NodeId}
use Rattle.nfs4_types.specs.declared.sequence.Sequence.{Sequence}
use Rattle.nfs4_types.specs.declared.ids.SessionId.{SessionId}
use Rattle.nfs4_types.specs.declared.status.Stat4.{Stat4}
use Rattle.nfs4_session.specs.declared.faults.IdFault.TheVariants.{Full}
use Rattle.nfs4_session.specs.Slots.{SlotState, SlotAnswer, TakesEffect, Repeats, Refuses, slot_begun, slot_finished}
use Rattle.nfs4_session.specs.Clients.{ClientState, SessionState, MadeSession, SessionsState, no_clients, client_id, has_id, has_number, client_in, number_in, is_owned_by, change_first, remove_first, change_session, with_clients, with_sessions, renewed_at}
use Rattle.nfs4_session.specs.ExchangeIds.{ExchangeCase, IsKnown, IsAgain, ReplacesUnconfirmed, Restarts, IsNewOwner, is_by, is_unconfirmed_of, is_confirmed_of, case_of_others, case_of_unconfirmed, case_of_confirmed, exchange_case, new_id_fault, ids_are_spent, new_client, given_client, with_new_client, known_owners}
use Rattle.nfs4_session.specs.CreateSessions.{CreateSessionCase, IsDue, IsReplay, IsMisordered, HasNoRoom, IsStale, case_by_next, case_by_last, case_by_client, create_session_case, numbers_are_spent, after_creating}
use Rattle.nfs4_session.specs.Requests.{change_slot, request_answer, after_request}
use Rattle.nfs4_session.specs.Bindings.{called_back, client_bound, last_session}
use Rattle.nfs4_session.specs.Ends.{without_client, destroy_client_fault, has_ended}
use Rattle.nfs4_session.specs.Beginning.{table_begun}
use Rattle.nfs4_session.specs.TableLaw.{TableMove, ExchangeId, CreateSession, BeginRequest, FinishRequest, Bind, CallBack, DestroySession, DestroyClient, Expire, exchanged_unless, exchanged_by, called_back_by, destroyed_unless, expired_by, new_id_in, new_number_in, TableRun, table_moved, table_run, KeepsTable}
use Rattle.nfs4_session.proofs.Numbered.{NumberedBy, numbered_push}
use Rattle.nfs4_session.proofs.Known.{counted}
use Rattle.nfs4_session.proofs.Pairs.{all_of, pairs_of, all_map, none_left, none_pass, found_passes, found_any}
use Rattle.nfs4_session.proofs.Sound.{OtherId, OtherRecord, OtherNumber, AreFine, fine_none, fine_changed, fine_removed, fine_bound, slots_stay, IsSound, sound_changed, sound_removed, sound_pushed, sound_made, known_removed, known_pushed}

pub record IsGood (boot : ℕ) (run : TableRun) : Type 0 where
  pub boots : run.table.boot ≡ boot
  pub sound : IsSound boot run.table.ids run.table.numbers run.table.clients
  pub given : NumberedBy (λ k. client_id boot (k + 1)) run.ids
  pub given_all : length run.ids ≡ run.table.ids
  pub numbered : NumberedBy (λ k. k + 1) run.numbers
  pub numbered_all : length run.numbers ≡ run.table.numbers

module _ (boot : ℕ) (run : TableRun) (good : IsGood boot run) where
  abbrev s : SessionsState
  s = run.table

  -- only the records change
  kept : (cs : List ClientState) → IsSound boot s.ids s.numbers cs → IsGood boot (record { table = with_clients s cs; ids = run.ids ++ []; numbers = run.numbers ++ [] })
  kept cs sound = record {
    boots = good.boots;
    sound = sound;
    given = subst (NumberedBy (λ k. client_id boot (k + 1))) (sym (append-nil run.ids)) good.given;
    given_all = ap (λ (l : List ℕ). length l) (append-nil run.ids) ∙ good.given_all;
    numbered = subst (NumberedBy (λ k. k + 1)) (sym (append-nil run.numbers)) good.numbered;
    numbered_all = ap (λ (l : List ℕ). length l) (append-nil run.numbers) ∙ good.numbered_all;
  }

  stays : IsGood boot (record { table = s; ids = run.ids ++ []; numbers = run.numbers ++ [] })
  stays = kept s.clients good.sound

  changed : (test : ClientState → Bool) (f : List SessionState → List SessionState) → ((sessions : List SessionState) → AreFine s.numbers sessions → AreFine s.numbers (f sessions))
      → (cs : List ClientState) → IsSound boot s.ids s.numbers cs → IsSound boot s.ids s.numbers (change_first test (λ c. with_sessions c (f c.sessions)) cs)
  changed test f keeps cs sound = sound_changed boot s.ids s.numbers test (λ c. with_sessions c (f c.sessions)) (λ c. refl) (λ c. refl) (λ c. refl) (λ c fine. keeps c.sessions fine) cs sound

  renewed : (test : ClientState → Bool) (now : ℕ) (cs : List ClientState) → IsSound boot s.ids s.numbers cs → IsSound boot s.ids s.numbers (change_first test (renewed_at now) cs)
  renewed test now cs sound = sound_changed boot s.ids s.numbers test (renewed_at now) (λ c. refl) (λ c. refl) (λ c. refl) (λ c fine. fine) cs sound

  slot_changed : (session : SessionId) (slot : ℕ) (f : SlotState → SlotState) → IsSound boot s.ids s.numbers (change_session session (change_slot slot f) s.clients)
  slot_changed session slot f =
      changed (has_id (client_in session)) (change_first (has_number (number_in session)) (change_slot slot f))
      (λ sessions fine. fine_changed s.numbers (has_number (number_in session)) (change_slot slot f) (λ x. refl) (λ x. slots_stay slot f x) sessions fine) s.clients good.sound

  begun : (request : Sequence) (now : ℕ) (a : SlotAnswer) → IsGood boot (record { table = table_begun s (after_request s request now) a; ids = run.ids ++ []; numbers = run.numbers ++ [] })
  begun request now TakesEffect = kept _ (renewed (has_id (client_in request.session)) now _ (slot_changed request.session request.slot (λ x. slot_begun request.sequence)))
  begun request now (Repeats reply) = stays
  begun request now (Refuses status) = stays

  called : (client : ℕ) (o : Option SessionState) → IsGood boot (record { table = called_back_by s client o; ids = run.ids ++ []; numbers = run.numbers ++ [] })
  called client None = stays
  called client (Some session) =
      kept _ (changed (has_id client) (change_first (has_number session.number) called_back)
      (λ sessions fine. fine_changed s.numbers (has_number session.number) called_back (λ x. refl) (λ x. refl) sessions fine) s.clients good.sound)

  destroyed : (client : ℕ) (o : Option Stat4) → IsGood boot (record { table = destroyed_unless s (without_client s client) o; ids = run.ids ++ []; numbers = run.numbers ++ [] })
  destroyed client None = kept _ (sound_removed boot s.ids s.numbers (has_id client) s.clients good.sound)
  destroyed client (Some status) = stays

  ended : (o : Option ClientState) → IsGood boot (record { table = expired_by s o; ids = run.ids ++ []; numbers = run.numbers ++ [] })
  ended None = stays
  ended (Some c) = kept _ (sound_removed boot s.ids s.numbers (has_id c.id) s.clients good.sound)

  -- ---- CREATE_SESSION

  abbrev FitsDue : CreateSessionCase → Type 0
  FitsDue (IsDue c) = (find (has_id c.id) s.clients ≡ Some c) × (length c.sessions < 4)
  FitsDue (IsReplay session) = Unit {0}
  FitsDue IsMisordered = Unit {0}
  FitsDue HasNoRoom = Unit {0}
  FitsDue IsStale = Unit {0}

  due_next : (c : ClientState) (sequence : ℕ) → find (has_id c.id) s.clients ≡ Some c → FitsDue (case_by_next s c sequence)
  due_next c sequence is = by_case (not (sequence == c.sequence)) (nat_lt (length c.sessions) 4) refl (not (numbers_are_spent s))
    where
      by_case : (a b : Bool) → nat_lt (length c.sessions) 4 ≡ b → (free : Bool) → FitsDue (if a then IsMisordered else (if b && free then IsDue c else HasNoRoom))
      by_case true b room free = tt
      by_case false true room true = (is, ltb-true (length c.sessions) 4 room)
      by_case false true room false = tt
      by_case false false room true = tt
      by_case false false room false = tt

  due_last : (c : ClientState) (sequence : ℕ) → find (has_id c.id) s.clients ≡ Some c → (o : Option MadeSession) → FitsDue (case_by_last s c sequence o)
  due_last c sequence is None = due_next c sequence is
  due_last c sequence is (Some made) = by_case (sequence == made.sequence)
    where
      by_case : (a : Bool) → FitsDue (if a then IsReplay made.number else case_by_next s c sequence)
      by_case true = tt
      by_case false = due_next c sequence is

  due_client : (client sequence : ℕ) (o : Option ClientState) → find (has_id client) s.clients ≡ o → FitsDue (case_by_client s sequence o)
  due_client client sequence None is = tt
  due_client client sequence (Some c) is =
      let passes : has_id client c ≡ true = found_passes (has_id client) s.clients c is in
      let same : c.id ≡ client = eqb-true c.id client passes in
      due_last c sequence (ap (λ id. find (has_id id) s.clients) same ∙ is) c.made

  created : (client sequence program : ℕ) (node : NodeId) (now : ℕ) (case : CreateSessionCase) → FitsDue case
      → IsGood boot (record { table = after_creating s program node now case; ids = run.ids ++ []; numbers = run.numbers ++ new_number_in s case })
  created client sequence program node now (IsDue c) fits = record {
    boots = good.boots;
    sound = sound_made boot s.ids s.numbers node program now c s.clients fits.0 fits.1 good.sound;
    given = subst (NumberedBy (λ k. client_id boot (k + 1))) (sym (append-nil run.ids)) good.given;
    given_all = ap (λ (l : List ℕ). length l) (append-nil run.ids) ∙ good.given_all;
    numbered = numbered_push (λ k. k + 1) run.numbers (s.numbers + 1) good.numbered (ap (λ n. n + 1) (sym good.numbered_all));
    numbered_all = length_push run.numbers (s.numbers + 1) ∙ ap (λ n. n + 1) good.numbered_all;
  }
  created client sequence program node now (IsReplay session) fits = stays
  created client sequence program node now IsMisordered fits = stays
  created client sequence program node now HasNoRoom fits = stays
  created client sequence program node now IsStale fits = stays

  -- ---- EXCHANGE_ID

  none_given : (t : SessionsState) (id : ℕ) → t.ids ≡ s.ids → new_id_in s t id ≡ []
  none_given t id same = ap (λ b. if b then [] else id ∷ []) (eq-eqb t.ids s.ids same)

  one_given : (t : SessionsState) (id : ℕ) → t.ids ≡ s.ids + 1 → new_id_in s t id ≡ id ∷ []
  one_given t id more = by_case (t.ids == s.ids) refl
    where
      by_case : (b : Bool) → (t.ids == s.ids) ≡ b → (if b then [] else id ∷ []) ≡ id ∷ []
      by_case true is = let same = eqb-true t.ids s.ids is in absurd (omega (arith, same, more))
      by_case false is = refl

  abbrev after : SessionsState → ℕ → TableRun
  after t id = record { table = t; ids = run.ids ++ new_id_in s t id; numbers = run.numbers ++ [] }

  none_new : (cs : List ClientState) (id : ℕ) → IsSound boot s.ids s.numbers cs → IsGood boot (after (with_clients s cs) id)
  none_new cs id sound =
      subst (λ l. IsGood boot (record { table = with_clients s cs; ids = run.ids ++ l; numbers = run.numbers ++ [] })) (sym (none_given (with_clients s cs) id refl)) (kept cs sound)

  one_new : (others : List ClientState) (c : ClientState) → c.id ≡ client_id boot (s.ids + 1) → IsSound boot (s.ids + 1) s.numbers (others ++ c ∷ []) → IsGood boot (after (with_new_client s others c) c.id)
  one_new others c id sound =
      subst (λ l. IsGood boot (record { table = with_new_client s others c; ids = run.ids ++ l; numbers = run.numbers ++ [] })) (sym (one_given (with_new_client s others c) c.id refl)) (record {
        boots = good.boots;
        sound = sound;
        given = numbered_push (λ k. client_id boot (k + 1)) run.ids c.id good.given (id ∙ ap (λ n. client_id boot (n + 1)) (sym good.given_all));
        given_all = length_push run.ids c.id ∙ ap (λ n. n + 1) good.given_all;
        numbered = subst (NumberedBy (λ k. k + 1)) (sym (append-nil run.numbers)) good.numbered;
        numbered_all = ap (λ (l : List ℕ). length l) (append-nil run.numbers) ∙ good.numbered_all;
      })

  module _ (v o : List ℕ) (now : ℕ) where
    abbrev new : ClientState
    new = new_client s v o now

    new_id : new.id ≡ client_id boot (s.ids + 1)
    new_id = ap (λ b. client_id b (s.ids + 1)) good.boots

    -- none of these is an unconfirmed record of the owner
    abbrev NoneUnconfirmed : List ClientState → Type 0
    NoneUnconfirmed cs = AllByRecursion (λ c. is_unconfirmed_of o c ≡ false) cs

    others_differ : (c : ClientState) → is_unconfirmed_of o c ≡ false → OtherRecord c new
    others_differ c not_it same = absurd (clash (is_owned_by o c) c.confirmed not_it ((bytes_eq-Decides c.owner o).1 same.0) same.1)
      where
        clash : (a b : Bool) → (a && not b) ≡ false → a ≡ true → b ≡ false → ⊥
        clash true true is owned open_one = absurd (cc (open_one))
        clash true false is owned open_one = absurd (cc (is))
        clash false b is owned open_one = absurd (cc (owned))

    pushed : (others : List ClientState) → IsSound boot s.ids s.numbers others → NoneUnconfirmed others → known_owners (others ++ new ∷ []) ≤ 256 → IsSound boot (s.ids + 1) s.numbers (others ++ new ∷ [])
    pushed others sound none known =
        sound_pushed boot s.ids s.numbers others new sound new_id (all_map (λ c. is_unconfirmed_of o c ≡ false) (λ c. OtherRecord c new) others_differ others none) (fine_none s.numbers) known

    abbrev Fits : ExchangeCase → Type 0
    Fits (IsKnown c) = Unit {0}
    Fits (IsAgain c) = Unit {0}
    Fits ReplacesUnconfirmed = list_any (is_unconfirmed_of o) s.clients ≡ true
    Fits Restarts = (list_any (is_unconfirmed_of o) s.clients ≡ false) × (list_any (is_confirmed_of o) s.clients ≡ true)
    Fits IsNewOwner = list_any (is_unconfirmed_of o) s.clients ≡ false

    fits_others : Fits (case_of_others s.clients o)
    fits_others = by_case (list_any (is_unconfirmed_of o) s.clients) refl (list_any (is_confirmed_of o) s.clients) refl
      where
        by_case : (a : Bool) → list_any (is_unconfirmed_of o) s.clients ≡ a → (b : Bool) → list_any (is_confirmed_of o) s.clients ≡ b → Fits (if a then ReplacesUnconfirmed else (if b then Restarts else IsNewOwner))
        by_case true first b second = first
        by_case false first true second = (first, second)
        by_case false first false second = first

    fits_unconfirmed : (p : Option ClientState) → Fits (case_of_unconfirmed s.clients o p)
    fits_unconfirmed (Some c) = tt
    fits_unconfirmed None = fits_others

    fits_confirmed : (p : Option ClientState) → Fits (case_of_confirmed s.clients v o p)
    fits_confirmed (Some c) = tt
    fits_confirmed None = fits_unconfirmed (find (is_by false v o) s.clients)

    -- a confirmed record of the owner is one of the owner
    owned : (cs : List ClientState) → list_any (is_confirmed_of o) cs ≡ true → list_any (is_owned_by o) cs ≡ true
    owned [] is = absurd (cc (is))
    owned (c ∷ cs) is = by_case (is_owned_by o c) c.confirmed (list_any (is_confirmed_of o) cs) refl is (λ rest. owned cs rest)
      where
        by_case : (a b r : Bool) → list_any (is_confirmed_of o) cs ≡ r → ((a && b) || r) ≡ true → (list_any (is_confirmed_of o) cs ≡ true → list_any (is_owned_by o) cs ≡ true) → (a || list_any (is_owned_by o) cs) ≡ true
        by_case true b r rest is others = refl
        by_case false b true rest is others = others rest
        by_case false b false rest is others = absurd (cc (is))

    -- the unconfirmed record that is thrown away
    thrown : list_any (is_unconfirmed_of o) s.clients ≡ true → (c : ClientState) × (find (is_unconfirmed_of o) s.clients ≡ Some c) × (c.owner ≡ o)
    thrown is = let r = found_any (is_unconfirmed_of o) s.clients is in (r.0, r.1, (bytes_eq-Decides r.0.owner o).0 (front (is_owned_by o r.0) (not r.0.confirmed) r.2))
      where
        front : (a b : Bool) → (a && b) ≡ true → a ≡ true
        front true b is = refl
        front false b is = absurd (cc (is))

    replaced : list_any (is_unconfirmed_of o) s.clients ≡ true → IsGood boot (after (with_new_client s (remove_first (is_unconfirmed_of o) s.clients) new) new.id)
    replaced is =
        let t = thrown is in
        let rest : List ClientState = remove_first (is_unconfirmed_of o) s.clients in
        let before = known_removed (is_unconfirmed_of o) s.clients t.0 t.1 in
        let same : counted (list_any (is_owned_by t.0.owner) rest) ≡ counted (list_any (is_owned_by o) rest) = ap (λ p. counted (list_any (is_owned_by p) rest)) t.2 in
        let known = good.sound.known in
        one_new rest new new_id (pushed rest (sound_removed boot s.ids s.numbers (is_unconfirmed_of o) s.clients good.sound) (none_left (is_unconfirmed_of o) OtherRecord apart s.clients good.sound.records) (omega (arith, before, same, known, known_pushed rest new)))
      where
        apart : (a b : ClientState) → OtherRecord a b → is_unconfirmed_of o a ≡ true → is_unconfirmed_of o b ≡ false
        apart a b other is = by_case (is_owned_by o b) refl b.confirmed refl
          where
            both : (p q : Bool) → (p && not q) ≡ true → (p ≡ true) × (q ≡ false)
            both true true is = absurd (cc (is))
            both true false is = (refl, refl)
            both false q is = absurd (cc (is))

            by_case : (p : Bool) → is_owned_by o b ≡ p → (q : Bool) → b.confirmed ≡ q → (p && not q) ≡ false
            by_case true owned_b true confirmed_b = refl
            by_case true owned_b false confirmed_b =
                let first = both (is_owned_by o a) a.confirmed is in
                absurd (other ((bytes_eq-Decides a.owner o).0 first.0 ∙ sym ((bytes_eq-Decides b.owner o).0 owned_b), first.1 ∙ sym confirmed_b))
            by_case false owned_b q confirmed_b = refl

    added : list_any (is_unconfirmed_of o) s.clients ≡ false → known_owners (s.clients ++ new ∷ []) ≤ 256 → IsGood boot (after (with_new_client s s.clients new) new.id)
    added none known = one_new s.clients new new_id (pushed s.clients good.sound (none_pass (is_unconfirmed_of o) s.clients none) known)

    unless : (t : SessionsState) → IsGood boot (after t new.id) → (b : Bool) → IsGood boot (after (exchanged_unless s t (if b then Some Full else None)) new.id)
    unless t done true = none_new s.clients new.id good.sound
    unless t done false = done

    exchanged : (case : ExchangeCase) → Fits case → IsGood boot (after (exchanged_by s v o now case) (given_client s v o now case).id)
    exchanged (IsKnown c) fits = none_new _ c.id (renewed (has_id c.id) now s.clients good.sound)
    exchanged (IsAgain c) fits = none_new _ c.id (renewed (has_id c.id) now s.clients good.sound)
    exchanged ReplacesUnconfirmed fits = unless _ (replaced fits) (ids_are_spent s)
    exchanged Restarts fits = unless _ (added fits.0 (omega (arith, known, known_pushed s.clients new, one))) (ids_are_spent s)
      where
        known : known_owners s.clients ≤ 256
        known = good.sound.known

        one : counted (list_any (is_owned_by o) s.clients) ≡ 0
        one = ap counted (owned s.clients fits.1)
    exchanged IsNewOwner fits = by_case (nat_lt (known_owners s.clients) 256) refl
      where
        more : (b : Bool) → counted b ≤ 1
        more true = omega arith
        more false = omega arith

        by_case : (b : Bool) → nat_lt (known_owners s.clients) 256 ≡ b → IsGood boot (after (exchanged_unless s (with_new_client s s.clients new) (if b then new_id_fault s else Some Full)) new.id)
        by_case true is =
            let less = ltb-true (known_owners s.clients) 256 is in
            unless _ (added fits (omega (arith, less, known_pushed s.clients new, more (list_any (is_owned_by o) s.clients)))) (ids_are_spent s)
        by_case false is = none_new s.clients new.id good.sound

  -- ---- any call

  moved : (move : TableMove) → IsGood boot (table_moved run move)
  moved (ExchangeId verifier owner now) = exchanged verifier owner now (exchange_case s.clients verifier owner) (fits_confirmed verifier owner now (find (is_by true verifier owner) s.clients))
  moved (CreateSession client sequence program node now) =
      created client sequence program node now (create_session_case s client sequence) (due_client client sequence (find (has_id client) s.clients) refl)
  moved (BeginRequest request now) = begun request now (request_answer s request)
  moved (FinishRequest pass reply) = kept _ (slot_changed pass.session pass.slot (slot_finished pass.sequence reply))
  moved (Bind session node) =
      kept _ (sound_changed boot s.ids s.numbers (has_id (client_in session)) (client_bound (number_in session) node) (λ c. refl) (λ c. refl) (λ c. refl)
      (λ c fine. fine_bound s.numbers (number_in session) node c.sessions fine) s.clients good.sound)
  moved (CallBack client) = called client (last_session (find (has_id client) s.clients))
  moved (DestroySession session) =
      kept _ (changed (has_id (client_in session)) (remove_first (has_number (number_in session))) (λ sessions fine. fine_removed s.numbers (has_number (number_in session)) sessions fine) s.clients good.sound)
  moved (DestroyClient client) = destroyed client (destroy_client_fault (find (has_id client) s.clients))
  moved (Expire now) = ended (find (has_ended now) s.clients)

moved_all : (boot : ℕ) (moves : List TableMove) (run : TableRun) → IsGood boot run → IsGood boot (fold table_moved run moves)
moved_all boot [] run good = good
moved_all boot (move ∷ moves) run good = moved_all boot moves (table_moved run move) (moved boot run good move)

first : (boot : ℕ) → IsGood boot (record { table = no_clients boot; ids = []; numbers = [] })
first boot = record {
  boots = refl;
  sound = record { top = tt; apart = tt; records = tt; known = omega arith; fine = tt };
  given = λ k within. absurd (omega (arith, within));
  given_all = refl;
  numbered = λ k within. absurd (omega (arith, within));
  numbered_all = refl;
}

pub keeps_table : KeepsTable
keeps_table boot moves =
    let good : IsGood boot (table_run boot moves) = moved_all boot moves (record { table = no_clients boot; ids = []; numbers = [] }) (first boot) in
    let cs : List ClientState = (table_run boot moves).table.clients in
    let n : ℕ = (table_run boot moves).table.numbers in (
      record {
        ids = pairs_of OtherId cs good.sound.apart;
        owners = pairs_of OtherRecord cs good.sound.records;
        known = good.sound.known;
        sessions = all_of (λ c. length c.sessions ≤ 4) cs (all_map (λ c. AreFine n c.sessions) (λ c. length c.sessions ≤ 4) (λ c fine. fine.few) cs good.sound.fine);
        numbers = all_of (λ c. AllPairs (λ a b. ¬ (a.number ≡ b.number)) c.sessions) cs
            (all_map (λ c. AreFine n c.sessions) (λ c. AllPairs (λ a b. ¬ (a.number ≡ b.number)) c.sessions) (λ c fine. pairs_of OtherNumber c.sessions fine.apart) cs good.sound.fine);
        slots = all_of (λ c. All (λ (s : SessionState). length s.slots ≡ 8) c.sessions) cs
            (all_map (λ c. AreFine n c.sessions) (λ c. All (λ (s : SessionState). length s.slots ≡ 8) c.sessions) (λ c fine. all_of (λ (s : SessionState). length s.slots ≡ 8) c.sessions fine.wide) cs good.sound.fine);
      },
      record { ids = good.given; numbers = good.numbered },
    )
