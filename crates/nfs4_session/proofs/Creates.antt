-- CREATE_SESSION makes the session that is due.
use Rattle.std.proofs.Common.{◌≡◌, ℕ, suc, ◌+◌, Bool, true, false, List, [], ◌∷◌, length, Option, Some, None, Result, Ok, Err, refl, sym, ap, ◌∙◌}
use Rattle.std.specs.Prelude.{◌==◌, ◌&&◌, not, IsSome, OnOk, is_err, if◌then◌else◌}
use Rattle.std.specs.List.{find, position, position_from}
use Rattle.std.proofs.lemmas.Iterator.Adapters.{position_from-zero}
use Rattle.std.specs.Option.{option_map}
use Rattle.std.proofs.lemmas.Option.{same_Some}
use Rattle.std.proofs.lemmas.Bool.{eq-eqb, eqb-true}
use Rattle.cluster_model.specs.declared.ids.NodeId.{NodeId}
use Rattle.nfs4_session.specs.Clients.{ClientState, SessionState, SessionsState, has_id, is_owned_by, session_id, change_first, remove_first, with_clients}
use Rattle.nfs4_session.specs.CreateSessions.{IsDue, is_before_restart, with_new_session, created_session, created_answer, after_creating}
use Rattle.nfs4_session.specs.Asked.{place_before_restart, id_at, without_place, CreatesDue}
use Rattle.nfs4_session.specs.Standing.{with_numbers}
use Rattle.nfs4_session.proofs.FirstLemmas.{found, missing}

pub length_changed : {X : Type 0} (test : X → Bool) (f : X → X) (xs : List X) → length (change_first test f xs) ≡ length xs
length_changed test f [] = refl
length_changed test f (x ∷ xs) = by_case (test x) (length_changed test f xs)
  where
    by_case : (b : Bool) → length (change_first test f xs) ≡ length xs → length (if b then f x ∷ xs else x ∷ change_first test f xs) ≡ length (x ∷ xs)
    by_case true rest = refl
    by_case false rest = ap suc rest

find_passes : {X : Type 0} (test : X → Bool) (xs : List X) (c : X) → find test xs ≡ Some c → test c ≡ true
find_passes test [] c is = absurd (cc (is))
find_passes test (x ∷ xs) c is = by_case (test x) refl is (find_passes test xs c)
  where
    by_case : (b : Bool) → test x ≡ b → (if b then Some x else find test xs) ≡ Some c → (find test xs ≡ Some c → test c ≡ true) → test c ≡ true
    by_case true passes is rest = ap test (sym (same_Some x c is)) ∙ passes
    by_case false fails is rest = rest is

-- one is changed and another is taken out, in either order
swapped : {X : Type 0} (h t : X → Bool) (f : X → X) (xs : List X) (c : X) → find h xs ≡ Some c → t c ≡ false → t (f c) ≡ false
    → remove_first t (change_first h f xs) ≡ change_first h f (remove_first t xs)
swapped h t f [] c is stay stay_changed = refl
swapped h t f (x ∷ xs) c is stay stay_changed = by_case (h x) refl is (swapped h t f xs c)
  where
    by_case : (b : Bool) → h x ≡ b → (if b then Some x else find h xs) ≡ Some c
        → (find h xs ≡ Some c → t c ≡ false → t (f c) ≡ false → remove_first t (change_first h f xs) ≡ change_first h f (remove_first t xs))
        → remove_first t (if b then f x ∷ xs else x ∷ change_first h f xs) ≡ change_first h f (if t x then xs else x ∷ remove_first t xs)
    by_case true passes is rest =
        let same : x ≡ c = same_Some x c is in
        let stays : t x ≡ false = ap t same ∙ stay in
        let stays' : t (f x) ≡ false = ap (λ y. t (f y)) same ∙ stay_changed in
        ap (λ b. if b then xs else f x ∷ remove_first t xs) stays'
        ∙ sym (ap (λ b. change_first h f (if b then xs else x ∷ remove_first t xs)) stays ∙ ap (λ b. if b then f x ∷ remove_first t xs else x ∷ change_first h f (remove_first t xs)) passes)
    by_case false fails is rest = inner (t x) (rest is stay stay_changed)
      where
        inner : (b : Bool) → remove_first t (change_first h f xs) ≡ change_first h f (remove_first t xs)
            → (if b then change_first h f xs else x ∷ remove_first t (change_first h f xs)) ≡ change_first h f (if b then xs else x ∷ remove_first t xs)
        inner true others = refl
        inner false others = ap (λ ys. x ∷ ys) others ∙ sym (ap (λ b. if b then f x ∷ remove_first t xs else x ∷ change_first h f (remove_first t xs)) fails)

same_place : {X : Type 0} (h t : X → Bool) (f : X → X) (i : ℕ) (xs : List X) (c : X) → find h xs ≡ Some c → t c ≡ false → t (f c) ≡ false
    → position_from t i (change_first h f xs) ≡ position_from t i xs
same_place h t f i [] c is stay stay_changed = refl
same_place h t f i (x ∷ xs) c is stay stay_changed = by_case (h x) is (same_place h t f (i + 1) xs c)
  where
    by_case : (b : Bool) → (if b then Some x else find h xs) ≡ Some c
        → (find h xs ≡ Some c → t c ≡ false → t (f c) ≡ false → position_from t (i + 1) (change_first h f xs) ≡ position_from t (i + 1) xs)
        → position_from t i (if b then f x ∷ xs else x ∷ change_first h f xs) ≡ (if t x then Some i else position_from t (i + 1) xs)
    by_case true is rest =
        let same : x ≡ c = same_Some x c is in
        ap (λ b. if b then Some i else position_from t (i + 1) xs) (ap (λ y. t (f y)) same ∙ stay_changed ∙ sym (ap t same ∙ stay))
    by_case false is rest = ap (λ o. if t x then Some i else o) (rest is stay stay_changed)

-- what stands at the place of the first is taken out
placed_out : (t : ClientState → Bool) (cs : List ClientState) (o : Option ℕ) → position t cs ≡ o → without_place cs o ≡ remove_first t cs
placed_out t cs (Some place) is = sym (found t cs place is).removes
placed_out t cs None is = sym (missing t cs is).removes

placed_id : (t : ClientState → Bool) (cs : List ClientState) (o : Option ℕ) → position t cs ≡ o → id_at cs o ≡ option_map (λ (c : ClientState). c.id) (find t cs)
placed_id t cs (Some place) is = let there = found t cs place is in ap (option_map (λ (c : ClientState). c.id)) (there.at ∙ sym there.finds)
placed_id t cs None is = sym (ap (option_map (λ (c : ClientState). c.id)) (missing t cs is).finds)

-- a record is not the one before its restart
not_itself : (a : Bool) (b : Bool) → b ≡ true → (a && not b) ≡ false
not_itself true true is = refl
not_itself false true is = refl
not_itself true false is = absurd (cc (is))
not_itself false false is = absurd (cc (is))

module _ (s : SessionsState) (client program : ℕ) (node : NodeId) (now : ℕ) (c : ClientState) (is : find (has_id client) s.clients ≡ Some c) where
  abbrev f : ClientState → ClientState
  f = with_new_session (created_session s program node) now

  abbrev t : ClientState → Bool
  t = is_before_restart c

  own : t c ≡ false
  own = not_itself (is_owned_by c.owner c && c.confirmed) (c.id == c.id) (eq-eqb c.id c.id refl)

  own' : t (f c) ≡ false
  own' = not_itself (is_owned_by c.owner (f c) && (f c).confirmed) (c.id == c.id) (eq-eqb c.id c.id refl)

  named : client ≡ c.id
  named = sym (eqb-true c.id client (find_passes (has_id client) s.clients c is))

  cleared : (place : Option ℕ) → place ≡ position t s.clients → without_place (change_first (has_id client) f s.clients) place ≡ change_first (has_id c.id) f (remove_first t s.clients)
  cleared place at =
      placed_out t (change_first (has_id client) f s.clients) place (position_from-zero t (change_first (has_id client) f s.clients) ∙ same_place (has_id client) t f 0 s.clients c is own own' ∙ sym (position_from-zero t s.clients) ∙ sym at)
      ∙ swapped (has_id client) t f s.clients c is own own'
      ∙ ap (λ id. change_first (has_id id) f (remove_first t s.clients)) named

  made : (place before : Option ℕ) (session : SessionState) (new : SessionsState) → place ≡ position t s.clients → before ≡ id_at s.clients place
      → new ≡ with_clients (with_numbers (with_clients s (change_first (has_id client) f s.clients)) (s.numbers + 1)) (without_place (change_first (has_id client) f s.clients) place)
      → (created_answer s client (IsDue c) ≡ Some (record { session = session_id client (s.numbers + 1); gone = before; replayed = false })) × (new ≡ after_creating s program node now (IsDue c))
  made place before session new at gone_is does = (
    sym (ap (λ (o : Option ℕ). Some (record { session = session_id client (s.numbers + 1); gone = o; replayed = false })) (gone_is ∙ placed_id t s.clients place (sym at))),
    does ∙ ap (λ cs. record { boot = s.boot; clients = cs; ids = s.ids; numbers = s.numbers + 1 }) (cleared place at),
  )

pub creates_due : (s new : SessionsState) (client program : ℕ) (node : NodeId) (now : ℕ) (place gone : Option ℕ) → IsSome (find (has_id client) s.clients)
    → place ≡ place_before_restart s.clients (find (has_id client) s.clients) → gone ≡ id_at s.clients place
    → new ≡ with_clients (with_numbers (with_clients s (change_first (has_id client) (with_new_session (created_session s program node) now) s.clients)) (s.numbers + 1)) (without_place (change_first (has_id client) (with_new_session (created_session s program node) now) s.clients) place)
    → CreatesDue s (find (has_id client) s.clients) client program node now (Ok (record { session = session_id client (s.numbers + 1); gone = gone; replayed = false })) new
creates_due s new client program node now place gone some at gone_is does = by_case (find (has_id client) s.clients) refl some at
  where
    by_case : (o : Option ClientState) → find (has_id client) s.clients ≡ o → IsSome o → place ≡ place_before_restart s.clients o
        → CreatesDue s o client program node now (Ok (record { session = session_id client (s.numbers + 1); gone = gone; replayed = false })) new
    by_case (Some c) is some at = made s client program node now c is place gone (created_session s program node) new at gone_is does
    by_case None is some at = absurd (cc (some))

-- what was said at `Ok`, where it is no error
pub no_error : {T E P : Type 0} (r : Result T E) (b : Bool) → b ≡ is_err r → b ≡ false → OnOk r P → P
no_error (Ok x) b is not fact = fact
no_error (Err e) b is not fact = absurd (cc (is, not))
