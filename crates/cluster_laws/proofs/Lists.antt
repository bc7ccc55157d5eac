-- Lists, by places and by numbers from 1.
use Rattle.std.proofs.Common.{◌≡◌, ◌≢◌, ℕ, zero, suc, ◌+◌, ◌-◌, ◌<◌, ◌≤◌, Bool, true, false, eqb, cond, List, [], ◌∷◌, ◌++◌, length, set, Option, Some, None, refl, sym, ap, ◌∙◌, arith, append_assoc, subst}
use Rattle.std.specs.Prelude.{slice_get}
use Rattle.std.specs.List.{AllByRecursion, position, position_from}
use Rattle.std.proofs.lemmas.Iterator.Adapters.{position_from-zero}
use Rattle.std.proofs.lemmas.Bool.{cond_both, eqb-false, ne_eqb}
use Rattle.std.proofs.lemmas.Option.{same_Some, slice_get_within}
use Rattle.cluster_laws.specs.Machine.{numbered_at}

-- ---- all of a list

pub all_append : {A : Type 0} (P : A → Type 0) (xs ys : List A) → AllByRecursion P xs → AllByRecursion P ys → AllByRecursion P (xs ++ ys)
all_append P [] ys h k = k
all_append P (x ∷ xs) ys h k = (h.0, all_append P xs ys h.1 k)

pub all_more : {A : Type 0} (P Q : A → Type 0) (xs : List A) → ((x : A) → P x → Q x) → AllByRecursion P xs → AllByRecursion Q xs
all_more P Q [] f h = h
all_more P Q (x ∷ xs) f h = (f x h.0, all_more P Q xs f h.1)

pub all_any : {A : Type 0} (P : A → Type 0) (xs : List A) → ((x : A) → P x) → AllByRecursion P xs
all_any P [] f = tt
all_any P (x ∷ xs) f = (f x, all_any P xs f)

pub all_at : {A : Type 0} (P : A → Type 0) (xs : List A) (i : ℕ) (x : A) → AllByRecursion P xs → slice_get xs i ≡ Some x → P x
all_at P [] i x h e = absurd cc
all_at P (y ∷ xs) zero x h e = subst P (same_Some y x e) h.0
all_at P (y ∷ xs) (suc i) x h e = all_at P xs i x h.1 e

pub all_set : {A : Type 0} (P : A → Type 0) (xs : List A) (i : ℕ) (x : A) → AllByRecursion P xs → P x → AllByRecursion P (set xs i x)
all_set P [] i x h k = h
all_set P (y ∷ xs) zero x h k = (k, h.1)
all_set P (y ∷ xs) (suc i) x h k = (h.0, all_set P xs i x h.1 k)

pub all_split : {A : Type 0} (P : A → Type 0) (xs : List A) (x : A) (ys : List A) → AllByRecursion P (xs ++ x ∷ ys) → P x
all_split P [] x ys h = h.0
all_split P (y ∷ xs) x ys h = all_split P xs x ys h.1

-- ---- elements

pub set_other : {A : Type 0} (xs : List A) (i j : ℕ) (x : A) → j ≢ i → slice_get (set xs i x) j ≡ slice_get xs j
set_other [] i j x ne = refl
set_other (y ∷ ys) zero zero x ne = absurd (ne refl)
set_other (y ∷ ys) zero (suc j) x ne = refl
set_other (y ∷ ys) (suc i) zero x ne = refl
set_other (y ∷ ys) (suc i) (suc j) x ne = set_other ys i j x (λ e. ne (ap suc e))

pub set_same : {A : Type 0} (xs : List A) (i : ℕ) (x y : A) → slice_get xs i ≡ Some x → slice_get (set xs i y) i ≡ Some y
set_same [] i x y e = absurd (cc)
set_same (z ∷ xs) zero x y e = refl
set_same (z ∷ xs) (suc i) x y e = set_same xs i x y e

pub push_old : {A : Type 0} (xs ys : List A) (i : ℕ) (x : A) → slice_get xs i ≡ Some x → slice_get (xs ++ ys) i ≡ Some x
push_old [] ys i x e = absurd (cc)
push_old (z ∷ xs) ys zero x e = e
push_old (z ∷ xs) ys (suc i) x e = push_old xs ys i x e

pub push_last : {A : Type 0} (xs : List A) (x : A) → slice_get (xs ++ x ∷ []) (length xs) ≡ Some x
push_last [] x = refl
push_last (y ∷ xs) x = push_last xs x

-- ---- what has a number from 1

numbered_by : {A : Type 0} (b : Bool) (found : Option A) (x : A) → cond b None found ≡ Some x → (b ≡ false) × (found ≡ Some x)
numbered_by true found x e = absurd cc
numbered_by false found x e = (refl, e)

-- the place that it has
pub place_of : {A : Type 0} (all : List A) (n : ℕ) (x : A) → numbered_at all n ≡ Some x → (n ≢ 0) × (slice_get all (n - 1) ≡ Some x)
place_of all n x e = let parts = numbered_by (eqb n 0) (slice_get all (n - 1)) x e in (eqb-false n 0 parts.0, parts.1)

pub at_number : {A : Type 0} (all : List A) (n : ℕ) (x : A) → n ≢ 0 → slice_get all (n - 1) ≡ Some x → numbered_at all n ≡ Some x
at_number all n x ne e = ap (λ (b : Bool). cond b None (slice_get all (n - 1))) (ne_eqb n 0 ne) ∙ e

pub within_number : {A : Type 0} (all : List A) (n : ℕ) (x : A) → numbered_at all n ≡ Some x → (0 < n) × (n ≤ length all)
within_number all n x e =
    let p = place_of all n x e in
    let less = slice_get_within all (n - 1) x p.1 in
    let ne = p.0 in
    (omega (arith, ne), omega (arith, ne, less))

-- one is put in a number's place
pub put_same : {A : Type 0} (all : List A) (n : ℕ) (x y : A) → numbered_at all n ≡ Some x → numbered_at (set all (n - 1) y) n ≡ Some y
put_same all n x y e = let p = place_of all n x e in at_number (set all (n - 1) y) n y p.0 (set_same all (n - 1) x y p.1)

pub put_other : {A : Type 0} (all : List A) (n k : ℕ) (x y : A) → numbered_at all n ≡ Some x → k ≢ n → numbered_at (set all (n - 1) y) k ≡ numbered_at all k
put_other {A = A} all n k x y e ne =
    let p = place_of all n x e in
    cond_both (eqb k 0) None (slice_get (set all (n - 1) y) (k - 1)) (λ (found : Option A). found ≡ numbered_at all k)
    (λ z. sym (ap (λ (b : Bool). cond b None (slice_get all (k - 1))) z))
    (λ z. set_other all (n - 1) (k - 1) y (apart k n (eqb-false k 0 z) p.0 ne) ∙ sym (ap (λ (b : Bool). cond b None (slice_get all (k - 1))) z))
  where
    apart : (a b : ℕ) → a ≢ 0 → b ≢ 0 → a ≢ b → a - 1 ≢ b - 1
    apart a b na nb ne same = ne (omega (arith, na, nb, same))

pub same_numbered : {A : Type 0} (all : List A) (n : ℕ) (x y : A) → numbered_at all n ≡ Some x → numbered_at all n ≡ Some y → x ≡ y
same_numbered all n x y e f = same_Some x y (sym e ∙ f)

-- ---- each element, with what stands around it

pub all_by_split : {A : Type 0} (P : A → Type 0) (before xs : List A) → ((front : List A) (x : A) (rest : List A) → before ++ xs ≡ front ++ x ∷ rest → P x) → AllByRecursion P xs
all_by_split P before [] h = tt
all_by_split P before (x ∷ xs) h = (h before x xs refl, all_by_split P (before ++ x ∷ []) xs (λ front y rest e. h front y rest (sym (append_assoc before (x ∷ []) xs) ∙ e)))

pub at_place : {A : Type 0} (xs : List A) (i : ℕ) → i < length xs → (x : A) × (slice_get xs i ≡ Some x)
at_place [] i less = absurd (omega (arith, less))
at_place (x ∷ xs) zero less = (x, refl)
at_place (x ∷ xs) (suc i) less = at_place xs i (omega (arith, less))

-- a number that is not past the end is there
pub there_is : {A : Type 0} (all : List A) (n : ℕ) → 0 < n → n ≤ length all → (x : A) × (numbered_at all n ≡ Some x)
there_is all n some up =
    let x = at_place all (n - 1) (omega (arith, some, up)) in
    (x.0, at_number all n x.0 (λ z. absurd (omega (arith, z, some))) x.1)

-- ---- what a search finds

search_found : {A : Type 0} (test : A → Bool) (k : ℕ) (xs : List A) (i : ℕ) → position_from test k xs ≡ Some i → (j : ℕ) × (i ≡ k + j) × ((x : A) × (slice_get xs j ≡ Some x) × (test x ≡ true))
search_found test k [] i e = absurd cc
search_found {A = A} test k (x ∷ xs) i e = by_test (test x) refl e (search_found test (k + 1) xs i)
  where
    by_test : (b : Bool) → test x ≡ b → cond b (Some k) (position_from test (k + 1) xs) ≡ Some i
        → (position_from test (k + 1) xs ≡ Some i → (j : ℕ) × (i ≡ k + 1 + j) × ((y : A) × (slice_get xs j ≡ Some y) × (test y ≡ true)))
        → (j : ℕ) × (i ≡ k + j) × ((y : A) × (slice_get (x ∷ xs) j ≡ Some y) × (test y ≡ true))
    by_test true is f more = let at : k ≡ i = same_Some k i f in (0, omega (arith, at), (x, refl, is))
    by_test false is f more =
        let rest = more f in
        let at = rest.1 in
        (suc rest.0, omega (arith, at), rest.2)

pub found_at : {A : Type 0} (test : A → Bool) (xs : List A) (i : ℕ) → position test xs ≡ Some i → (x : A) × (slice_get xs i ≡ Some x) × (test x ≡ true)
found_at test xs i e =
    let found = search_found test 0 xs i (sym (position_from-zero test xs) ∙ e) in
    let same : found.0 ≡ i = omega (arith, found.1) in
    let x = found.2 in
    (x.0, ap (slice_get xs) (sym same) ∙ x.1, x.2)
