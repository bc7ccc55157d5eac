-- How many owners are known, of a list of owners.
use Rattle.std.proofs.Common.{◌≡◌, ℕ, zero, suc, ◌+◌, ◌≤◌, Bool, true, false, List, [], ◌∷◌, ◌++◌, length, map, Some, refl, sym, ap, ◌∙◌, arith}
use Rattle.std.specs.Prelude.{slice_get, remove, bytes_eq, ◌||◌, if◌then◌else◌}
use Rattle.std.specs.List.{list_any}
use Rattle.std.proofs.lemmas.Slice.Eq.{bytes_eq-Decides}
use Rattle.std.proofs.lemmas.List.Folds.{list_any-append}
use Rattle.std.proofs.lemmas.Option.{same_Some}
use Rattle.nfs4_session.specs.Clients.{ClientState, is_owned_by}
use Rattle.nfs4_session.specs.ExchangeIds.{known_owners}

abbrev pub owners_of : List ClientState → List (List ℕ)
owners_of clients = map (λ (c : ClientState). c.owner) clients

-- the owner is among them
abbrev pub is_owner : List ℕ → List (List ℕ) → Bool
is_owner o os = list_any (λ p. bytes_eq p o) os

-- an owner counts where it is not among these
abbrev pub counted : Bool → ℕ
counted b = if b then 0 else 1

abbrev pub distinct : List (List ℕ) → ℕ
distinct [] = 0
distinct (o ∷ os) = counted (is_owner o os) + distinct os

pub owned_is : (o : List ℕ) (cs : List ClientState) → list_any (is_owned_by o) cs ≡ is_owner o (owners_of cs)
owned_is o [] = refl
owned_is o (c ∷ cs) = ap (λ b. bytes_eq c.owner o || b) (owned_is o cs)

pub known_is : (cs : List ClientState) → known_owners cs ≡ distinct (owners_of cs)
known_is [] = refl
known_is (c ∷ cs) = ap (λ b. counted b + known_owners cs) (owned_is c.owner cs) ∙ ap (λ n. counted (is_owner c.owner (owners_of cs)) + n) (known_is cs)

pub distinct_le : (os : List (List ℕ)) → distinct os ≤ length os
distinct_le [] = omega arith
distinct_le (o ∷ os) = by_case (is_owner o os) (distinct_le os)
  where
    by_case : (b : Bool) → distinct os ≤ length os → counted b + distinct os ≤ suc (length os)
    by_case true h = omega (arith, h)
    by_case false h = omega (arith, h)

-- the same bytes are the same owner, either way round
same_owner : (o p : List ℕ) → bytes_eq o p ≡ true → o ≡ p
same_owner o p = (bytes_eq-Decides o p).0

owner_same : (o p : List ℕ) → o ≡ p → bytes_eq o p ≡ true
owner_same o p = (bytes_eq-Decides o p).1

other_owner : (o p : List ℕ) → bytes_eq o p ≡ false → bytes_eq p o ≡ false
other_owner o p not = by_case (bytes_eq p o) refl
  where
    by_case : (b : Bool) → bytes_eq p o ≡ b → b ≡ false
    by_case true is = let yes : bytes_eq o p ≡ true = owner_same o p (sym (same_owner p o is)) in absurd (cc (yes, not))
    by_case false is = refl

-- one that is there is found
any_at : {X : Type 0} (p : X → Bool) (xs : List X) (i : ℕ) (x : X) → slice_get xs i ≡ Some x → p x ≡ true → list_any p xs ≡ true
any_at p [] i x at is = absurd (cc (at))
any_at p (y ∷ xs) zero x at is = let same : y ≡ x = same_Some y x at in rw same (rw is refl)
any_at p (y ∷ xs) (suc i) x at is = by_case (p y) (any_at p xs i x at is)
  where
    by_case : (b : Bool) → list_any p xs ≡ true → (b || list_any p xs) ≡ true
    by_case true rest = refl
    by_case false rest = rest

-- one that is not it may go
any_remove : {X : Type 0} (p : X → Bool) (xs : List X) (i : ℕ) (x : X) → slice_get xs i ≡ Some x → p x ≡ false → list_any p xs ≡ list_any p (remove xs i)
any_remove p [] i x at not = absurd (cc (at))
any_remove p (y ∷ xs) zero x at not = let same : y ≡ x = same_Some y x at in rw same (rw not refl)
any_remove p (y ∷ xs) (suc i) x at not = ap (λ b. p y || b) (any_remove p xs i x at not)

pub distinct_remove : (os : List (List ℕ)) (i : ℕ) (o : List ℕ) → slice_get os i ≡ Some o → distinct os ≡ distinct (remove os i) + counted (is_owner o (remove os i))
distinct_remove [] i o at = absurd (cc (at))
distinct_remove (x ∷ xs) zero o at =
    let same : x ≡ o = same_Some x o at in
    rw same (omega arith)
distinct_remove (x ∷ xs) (suc i) o at = by_case (bytes_eq x o) refl (distinct_remove xs i o at)
  where
    rest : List (List ℕ)
    rest = remove xs i

    by_case : (b : Bool) → bytes_eq x o ≡ b → distinct xs ≡ distinct (remove xs i) + counted (is_owner o (remove xs i))
        → counted (is_owner x xs) + distinct xs ≡ (counted (is_owner x (remove xs i)) + distinct (remove xs i)) + counted (b || is_owner o (remove xs i))
    by_case true is before =
        let same : x ≡ o = same_owner x o is in
        let there : is_owner x xs ≡ true = any_at (λ p. bytes_eq p x) xs i o at (owner_same o x (sym same)) in
        let one : counted (is_owner x xs) ≡ 0 = ap counted there in
        let alike : counted (is_owner x (remove xs i)) ≡ counted (is_owner o (remove xs i)) = ap (λ p. counted (is_owner p (remove xs i))) same in
        omega (arith, before, one, alike)
    by_case false is before =
        let kept : counted (is_owner x xs) ≡ counted (is_owner x (remove xs i)) = ap counted (any_remove (λ p. bytes_eq p x) xs i o at (other_owner x o is)) in
        omega (arith, before, kept)

pub distinct_push : (os : List (List ℕ)) (o : List ℕ) → distinct (os ++ o ∷ []) ≡ distinct os + counted (is_owner o os)
distinct_push [] o = omega arith
distinct_push (x ∷ xs) o = by_case (bytes_eq x o) refl (bytes_eq o x) refl (distinct_push xs o)
  where
    by_case : (b : Bool) → bytes_eq x o ≡ b → (r : Bool) → bytes_eq o x ≡ r → distinct (xs ++ o ∷ []) ≡ distinct xs + counted (is_owner o xs)
        → counted (is_owner x (xs ++ o ∷ [])) + distinct (xs ++ o ∷ []) ≡ (counted (is_owner x xs) + distinct xs) + counted (b || is_owner o xs)
    by_case true is r back before =
        let same : x ≡ o = same_owner x o is in
        let there : (is_owner x xs || (bytes_eq o x || false)) ≡ true = either (is_owner x xs) (bytes_eq o x) (owner_same o x (sym same)) in
        let one : counted (is_owner x (xs ++ o ∷ [])) ≡ 0 = ap counted (list_any-append (λ p. bytes_eq p x) xs (o ∷ []) ∙ there) in
        let alike : counted (is_owner x xs) ≡ counted (is_owner o xs) = ap (λ p. counted (is_owner p xs)) same in
        omega (arith, before, one, alike)
      where
        either : (a b : Bool) → b ≡ true → (a || (b || false)) ≡ true
        either true b e = refl
        either false true e = refl
        either false false e = absurd (cc (e))
    by_case false is r back before =
        let neither : (is_owner x xs || (bytes_eq o x || false)) ≡ is_owner x xs = only (is_owner x xs) (bytes_eq o x) (other_owner x o is) in
        let kept : counted (is_owner x (xs ++ o ∷ [])) ≡ counted (is_owner x xs) = ap counted (list_any-append (λ p. bytes_eq p x) xs (o ∷ []) ∙ neither) in
        omega (arith, before, kept)
      where
        only : (a b : Bool) → b ≡ false → (a || (b || false)) ≡ a
        only true b e = refl
        only false false e = refl
        only false true e = absurd (cc (e))
