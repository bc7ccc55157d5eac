-- What holds of the records of a table, and what keeps it.
use Rattle.std.proofs.Common.{◌≡◌, ℕ, suc, ◌+◌, ◌<◌, ◌≤◌, Bool, true, false, List, [], ◌∷◌, ◌++◌, length, Option, Some, None, refl, sym, ap, ◌∙◌, subst, arith}
use Rattle.std.specs.Prelude.{◌==◌, ◌&&◌, not, remove, slice_get, bytes_eq, if◌then◌else◌}
use Rattle.std.specs.List.{AllByRecursion, find, list_any, position}
use Rattle.std.proofs.lemmas.Option.{same_Some}
use Rattle.std.proofs.lemmas.Bool.{eq-eqb, eqb-true}
use Rattle.std.proofs.lemmas.List.{length-set, length_push}
use Rattle.std.proofs.lemmas.Slice.Eq.{bytes_eq-Decides}
use Rattle.cluster_model.specs.declared.ids.NodeId.{NodeId}
use Rattle.nfs4_session.specs.Slots.{SlotState}
use Rattle.nfs4_session.specs.Clients.{ClientState, SessionState, has_id, has_number, is_owned_by, client_id, change_first, remove_first, new_session}
use Rattle.nfs4_session.specs.ExchangeIds.{known_owners}
use Rattle.nfs4_session.specs.CreateSessions.{is_before_restart, with_new_session}
use Rattle.nfs4_session.specs.Requests.{change_at, change_slot}
use Rattle.nfs4_session.specs.Bindings.{bound_to, bound_last}
use Rattle.nfs4_session.proofs.FirstLemmas.{found, missing}
use Rattle.nfs4_session.proofs.Known.{owners_of, known_is, counted, is_owner, distinct, owned_is, distinct_push, distinct_remove}
use Rattle.nfs4_session.proofs.Kept.{map_at, map_push, map_remove}
use Rattle.nfs4_session.proofs.Pairs.{Pairs, all_map, all_push, pairs_push, all_remove, pairs_remove, all_change, pairs_change, all_find, all_change_found, pairs_change_found, none_left, apart_from, length_remove, length_taken, map_changed, find_left}

abbrev pub OtherNumber : SessionState → SessionState → Type 0
OtherNumber a b = ¬ (a.number ≡ b.number)

abbrev pub OtherId : ClientState → ClientState → Type 0
OtherId a b = ¬ (a.id ≡ b.id)

abbrev pub OtherRecord : ClientState → ClientState → Type 0
OtherRecord a b = ¬ ((a.owner ≡ b.owner) × (a.confirmed ≡ b.confirmed))

-- ---- the sessions of a client, where so many numbers are given

pub record AreFine (n : ℕ) (sessions : List SessionState) : Type 0 where
  pub few : length sessions ≤ 4
  pub apart : Pairs OtherNumber sessions
  pub wide : AllByRecursion (λ (s : SessionState). length s.slots ≡ 8) sessions
  pub given : AllByRecursion (λ (s : SessionState). s.number ≤ n) sessions

pub fine_none : (n : ℕ) → AreFine n []
fine_none n = record { few = omega arith; apart = tt; wide = tt; given = tt }

length_changed : {X : Type 0} (test : X → Bool) (f : X → X) (xs : List X) → length (change_first test f xs) ≡ length xs
length_changed test f [] = refl
length_changed test f (x ∷ xs) = by_case (test x) (length_changed test f xs)
  where
    by_case : (b : Bool) → length (change_first test f xs) ≡ length xs → length (if b then f x ∷ xs else x ∷ change_first test f xs) ≡ length (x ∷ xs)
    by_case true rest = refl
    by_case false rest = ap suc rest

pub fine_changed : (n : ℕ) (test : SessionState → Bool) (g : SessionState → SessionState) → ((s : SessionState) → (g s).number ≡ s.number) → ((s : SessionState) → length (g s).slots ≡ length s.slots)
    → (sessions : List SessionState) → AreFine n sessions → AreFine n (change_first test g sessions)
fine_changed n test g number slots sessions fine = record {
  few = let few = fine.few in omega (arith, few, length_changed test g sessions);
  apart = pairs_change test OtherNumber g (λ x y other same. other (sym (number x) ∙ same)) (λ x y other same. other (same ∙ number y)) sessions fine.apart;
  wide = all_change test (λ s. length s.slots ≡ 8) g (λ x is. slots x ∙ is) sessions fine.wide;
  given = all_change test (λ s. s.number ≤ n) g (λ x low. omega (arith, low, number x)) sessions fine.given;
}

pub fine_removed : (n : ℕ) (test : SessionState → Bool) (sessions : List SessionState) → AreFine n sessions → AreFine n (remove_first test sessions)
fine_removed n test sessions fine = record {
  few = let few = fine.few in omega (arith, few, length_remove test sessions);
  apart = pairs_remove test OtherNumber sessions fine.apart;
  wide = all_remove test (λ s. length s.slots ≡ 8) sessions fine.wide;
  given = all_remove test (λ s. s.number ≤ n) sessions fine.given;
}

pub fine_more : (n : ℕ) (sessions : List SessionState) → AreFine n sessions → AreFine (n + 1) sessions
fine_more n sessions fine = record { few = fine.few; apart = fine.apart; wide = fine.wide; given = all_map (λ s. s.number ≤ n) (λ s. s.number ≤ n + 1) (λ s low. omega (arith, low)) sessions fine.given }

pub fine_bound : (n number : ℕ) (node : NodeId) (sessions : List SessionState) → AreFine n sessions → AreFine n (bound_last number node sessions (find (has_number number) sessions))
fine_bound n number node sessions fine = by_case (find (has_number number) sessions) refl
  where
    by_case : (o : Option SessionState) → find (has_number number) sessions ≡ o → AreFine n (bound_last number node sessions o)
    by_case None is = fine
    by_case (Some session) is = let rest : AreFine n (remove_first (has_number number) sessions) = fine_removed n (has_number number) sessions fine in record {
      few = let few = fine.few in omega (arith, few, length_taken (has_number number) sessions session is, length_push (remove_first (has_number number) sessions) (bound_to node session));
      apart = pairs_push OtherNumber (remove_first (has_number number) sessions) (bound_to node session) rest.apart
          (apart_from (has_number number) OtherNumber (λ x y other same. other (sym same)) sessions session is fine.apart);
      wide = all_push (λ s. length s.slots ≡ 8) (remove_first (has_number number) sessions) (bound_to node session) rest.wide (all_find (has_number number) (λ s. length s.slots ≡ 8) sessions session is fine.wide);
      given = all_push (λ s. s.number ≤ n) (remove_first (has_number number) sessions) (bound_to node session) rest.given (all_find (has_number number) (λ s. s.number ≤ n) sessions session is fine.given);
    }

pub fine_added : (n : ℕ) (node : NodeId) (program : ℕ) (sessions : List SessionState) → length sessions < 4 → AreFine n sessions → AreFine (n + 1) (sessions ++ new_session (n + 1) node program ∷ [])
fine_added n node program sessions room fine = let more : AreFine (n + 1) sessions = fine_more n sessions fine in record {
  few = omega (arith, room, length_push sessions (new_session (n + 1) node program));
  apart = pairs_push OtherNumber sessions (new_session (n + 1) node program) fine.apart (all_map (λ s. s.number ≤ n) (λ s. ¬ (s.number ≡ n + 1)) (λ s low same. absurd (omega (arith, low, same))) sessions fine.given);
  wide = all_push (λ s. length s.slots ≡ 8) sessions (new_session (n + 1) node program) more.wide refl;
  given = all_push (λ s. s.number ≤ n + 1) sessions (new_session (n + 1) node program) more.given (omega arith);
}

length_change_at : (place : ℕ) (f : SlotState → SlotState) (xs : List SlotState) (o : Option SlotState) → length (change_at place f xs o) ≡ length xs
length_change_at place f xs None = refl
length_change_at place f xs (Some x) = length-set xs place (f x)

pub slots_stay : (place : ℕ) (f : SlotState → SlotState) (s : SessionState) → length (change_slot place f s).slots ≡ length s.slots
slots_stay place f s = length_change_at place f s.slots (slice_get s.slots place)

-- ---- the records, where so many ids and numbers are given

pub record IsSound (boot ids numbers : ℕ) (clients : List ClientState) : Type 0 where
  pub top : AllByRecursion (λ (c : ClientState). c.id ≤ client_id boot ids) clients
  pub apart : Pairs OtherId clients
  pub records : Pairs OtherRecord clients
  pub known : known_owners clients ≤ 256
  pub fine : AllByRecursion (λ (c : ClientState). AreFine numbers c.sessions) clients

known_changed : (test : ClientState → Bool) (f : ClientState → ClientState) → ((c : ClientState) → (f c).owner ≡ c.owner) → (cs : List ClientState) → known_owners (change_first test f cs) ≡ known_owners cs
known_changed test f owner cs = known_is (change_first test f cs) ∙ ap distinct (map_changed test (λ (c : ClientState). c.owner) f owner cs) ∙ sym (known_is cs)

-- how many owners are known when the first is taken out
pub known_removed : (test : ClientState → Bool) (cs : List ClientState) (c : ClientState) → find test cs ≡ Some c → known_owners cs ≡ known_owners (remove_first test cs) + counted (list_any (is_owned_by c.owner) (remove_first test cs))
known_removed test cs c is = by_case (position test cs) refl
  where
    by_case : (o : Option ℕ) → position test cs ≡ o → known_owners cs ≡ known_owners (remove_first test cs) + counted (list_any (is_owned_by c.owner) (remove_first test cs))
    by_case None at = let gone = (missing test cs at).finds in absurd (cc (gone, is))
    by_case (Some place) at =
        let there = found test cs place at in
        let same : there.item ≡ c = same_Some there.item c (sym there.finds ∙ is) in
        let rest : List ClientState = remove cs place in
        let moved : owners_of rest ≡ remove (owners_of cs) place = map_remove (λ (c : ClientState). c.owner) cs place in
        let before = distinct_remove (owners_of cs) place c.owner (map_at (λ (c : ClientState). c.owner) cs place there.item there.at ∙ ap (λ (x : ClientState). Some x.owner) same) in
        let after : known_owners rest ≡ distinct (remove (owners_of cs) place) = known_is rest ∙ ap distinct moved in
        let any : counted (list_any (is_owned_by c.owner) rest) ≡ counted (is_owner c.owner (remove (owners_of cs) place)) = ap counted (owned_is c.owner rest ∙ ap (is_owner c.owner) moved) in
        let all : known_owners cs ≡ known_owners rest + counted (list_any (is_owned_by c.owner) rest) = omega (arith, before, after, any, known_is cs) in
        subst (λ l. known_owners cs ≡ known_owners l + counted (list_any (is_owned_by c.owner) l)) (sym there.removes) all

pub known_pushed : (cs : List ClientState) (c : ClientState) → known_owners (cs ++ c ∷ []) ≡ known_owners cs + counted (list_any (is_owned_by c.owner) cs)
known_pushed cs c =
    let after = known_is (cs ++ c ∷ []) ∙ ap distinct (map_push (λ (c : ClientState). c.owner) cs c) ∙ distinct_push (owners_of cs) c.owner in
    let any : counted (list_any (is_owned_by c.owner) cs) ≡ counted (is_owner c.owner (owners_of cs)) = ap counted (owned_is c.owner cs) in
    omega (arith, after, any, known_is cs)

known_less : (test : ClientState → Bool) (cs : List ClientState) → known_owners (remove_first test cs) ≤ known_owners cs
known_less test cs = by_case (find test cs) refl
  where
    by_case : (o : Option ClientState) → find test cs ≡ o → known_owners (remove_first test cs) ≤ known_owners cs
    by_case (Some c) is = omega (arith, known_removed test cs c is)
    by_case None is = stays (position test cs) refl
      where
        stays : (p : Option ℕ) → position test cs ≡ p → known_owners (remove_first test cs) ≤ known_owners cs
        stays None at = let same : known_owners (remove_first test cs) ≡ known_owners cs = ap known_owners (missing test cs at).removes in omega (arith, same)
        stays (Some place) at = let there = (found test cs place at).finds in absurd (cc (there, is))

module _ (boot ids numbers : ℕ) where
  pub sound_changed : (test : ClientState → Bool) (f : ClientState → ClientState) → ((c : ClientState) → (f c).id ≡ c.id) → ((c : ClientState) → (f c).owner ≡ c.owner) → ((c : ClientState) → (f c).confirmed ≡ c.confirmed)
      → ((c : ClientState) → AreFine numbers c.sessions → AreFine numbers (f c).sessions) → (cs : List ClientState) → IsSound boot ids numbers cs → IsSound boot ids numbers (change_first test f cs)
  sound_changed test f id owner confirmed keeps cs sound = record {
    top = all_change test (λ c. c.id ≤ client_id boot ids) f (λ c low. omega (arith, low, id c)) cs sound.top;
    apart = pairs_change test OtherId f (λ x y other same. other (sym (id x) ∙ same)) (λ x y other same. other (same ∙ id y)) cs sound.apart;
    records = pairs_change test OtherRecord f (λ x y other same. other (sym (owner x) ∙ same.0, sym (confirmed x) ∙ same.1)) (λ x y other same. other (same.0 ∙ owner y, same.1 ∙ confirmed y)) cs sound.records;
    known = let known = sound.known in omega (arith, known, known_changed test f owner cs);
    fine = all_change test (λ c. AreFine numbers c.sessions) f keeps cs sound.fine;
  }

  pub sound_removed : (test : ClientState → Bool) (cs : List ClientState) → IsSound boot ids numbers cs → IsSound boot ids numbers (remove_first test cs)
  sound_removed test cs sound = record {
    top = all_remove test (λ c. c.id ≤ client_id boot ids) cs sound.top;
    apart = pairs_remove test OtherId cs sound.apart;
    records = pairs_remove test OtherRecord cs sound.records;
    known = let known = sound.known in omega (arith, known, known_less test cs);
    fine = all_remove test (λ c. AreFine numbers c.sessions) cs sound.fine;
  }

  pub sound_pushed : (cs : List ClientState) (c : ClientState) → IsSound boot ids numbers cs → c.id ≡ client_id boot (ids + 1) → AllByRecursion (λ b. OtherRecord b c) cs
      → AreFine numbers c.sessions → known_owners (cs ++ c ∷ []) ≤ 256 → IsSound boot (ids + 1) numbers (cs ++ c ∷ [])
  sound_pushed cs c sound id other fine known = record {
    top = all_push (λ c. c.id ≤ client_id boot (ids + 1)) cs c (all_map (λ c. c.id ≤ client_id boot ids) (λ c. c.id ≤ client_id boot (ids + 1)) (λ b low. omega (arith, low)) cs sound.top) (omega (arith, id));
    apart = pairs_push OtherId cs c sound.apart (all_map (λ c. c.id ≤ client_id boot ids) (λ b. OtherId b c) (λ b low same. absurd (omega (arith, low, same, id))) cs sound.top);
    records = pairs_push OtherRecord cs c sound.records other;
    known = known;
    fine = all_push (λ c. AreFine numbers c.sessions) cs c sound.fine fine;
  }

-- ---- a session is made

same_bytes : (a b : List ℕ) → a ≡ b → bytes_eq a b ≡ true
same_bytes a b = (bytes_eq-Decides a b).1

bytes_same : (a b : List ℕ) → bytes_eq a b ≡ true → a ≡ b
bytes_same a b = (bytes_eq-Decides a b).0

both_true : (a b c : Bool) → ((a && b) && c) ≡ true → (a ≡ true) × (b ≡ true)
both_true true true c is = (refl, refl)
both_true true false c is = absurd (cc (is))
both_true false b c is = absurd (cc (is))

-- one that is not the client before its restart is no confirmed record of its owner
not_before : (a b c : Bool) → ((a && b) && not c) ≡ false → c ≡ false → a ≡ true → b ≡ true → ⊥
not_before true true true is other owned confirmed = absurd (cc (other))
not_before true true false is other owned confirmed = absurd (cc (is))
not_before true false c is other owned confirmed = absurd (cc (confirmed))
not_before false b c is other owned confirmed = absurd (cc (owned))

not_eqb : (a b : ℕ) → ¬ (a ≡ b) → (a == b) ≡ false
not_eqb a b other = by_case (a == b) refl
  where
    by_case : (t : Bool) → (a == b) ≡ t → t ≡ false
    by_case true is = absurd (other (eqb-true a b is))
    by_case false is = refl

module _ (boot ids numbers : ℕ) (node : NodeId) (program now : ℕ) (c : ClientState) where
  abbrev made : ClientState → ClientState
  made = with_new_session (new_session (numbers + 1) node program) now

  abbrev before : ClientState → Bool
  before = is_before_restart c

  one_before : (a b : ClientState) → OtherRecord a b → before a ≡ true → before b ≡ false
  one_before a b other is = by_case (before b) refl
    where
      by_case : (t : Bool) → before b ≡ t → t ≡ false
      by_case true also =
          let first = both_true (is_owned_by c.owner a) a.confirmed (not (has_id c.id a)) is in
          let second = both_true (is_owned_by c.owner b) b.confirmed (not (has_id c.id b)) also in
          absurd (other (bytes_same a.owner c.owner first.0 ∙ sym (bytes_same b.owner c.owner second.0), first.1 ∙ sym second.1))
      by_case false also = refl

  clashes : (b : ClientState) → ¬ (b.id ≡ c.id) → before b ≡ false → b.owner ≡ c.owner → b.confirmed ≡ true → ⊥
  clashes b other not_it owner confirmed = not_before (is_owned_by c.owner b) b.confirmed (has_id c.id b) not_it (not_eqb b.id c.id other) (same_bytes b.owner c.owner owner) confirmed

  own : before c ≡ false
  own = by_case (is_owned_by c.owner c && c.confirmed) (c.id == c.id) (eq-eqb c.id c.id refl)
    where
      by_case : (a b : Bool) → b ≡ true → (a && not b) ≡ false
      by_case true true is = refl
      by_case false true is = refl
      by_case true false is = absurd (cc (is))
      by_case false false is = absurd (cc (is))

  pub sound_made : (cs : List ClientState) → find (has_id c.id) cs ≡ Some c → length c.sessions < 4 → IsSound boot ids numbers cs
      → IsSound boot ids (numbers + 1) (change_first (has_id c.id) made (remove_first before cs))
  sound_made cs is room sound =
      let rest : List ClientState = remove_first before cs in
      let left : IsSound boot ids numbers rest = sound_removed boot ids numbers before cs sound in
      let still : find (has_id c.id) rest ≡ Some c = find_left (has_id c.id) before cs c is own in
      let others : AllByRecursion (λ b. before b ≡ false) rest = none_left before OtherRecord one_before cs sound.records in record {
        top = all_change (has_id c.id) (λ c. c.id ≤ client_id boot ids) made (λ c low. low) rest left.top;
        apart = pairs_change (has_id c.id) OtherId made (λ x y other. other) (λ x y other. other) rest left.apart;
        records = pairs_change_found (has_id c.id) OtherRecord OtherId (λ b. before b ≡ false) made c
            (λ b other not_it same. clashes b (λ e. other (sym e)) not_it (sym same.0) (sym same.1)) (λ b other not_it same. clashes b other not_it same.0 same.1) rest still left.records left.apart others;
        known = let known = left.known in omega (arith, known, known_changed (has_id c.id) made (λ c. refl) rest);
        fine = all_change_found (has_id c.id) (λ c. AreFine (numbers + 1) c.sessions) made rest c still (all_map (λ c. AreFine numbers c.sessions) (λ c. AreFine (numbers + 1) c.sessions) (λ c fine. fine_more numbers c.sessions fine) rest left.fine)
            (fine_added numbers node program c.sessions room (all_find (has_id c.id) (λ c. AreFine numbers c.sessions) rest c still left.fine));
      }
