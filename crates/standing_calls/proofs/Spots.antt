-- Places to which calls go: the server of each, and the number of the call that is out to it, where one is. What a step leaves of a list of
-- them.
use Rattle.std.proofs.Common.{◌≡◌, ℕ, zero, suc, Bool, true, false, List, [], ◌∷◌, ◌++◌, Option, Some, None, refl, sym, ap, subst, ◌∙◌, ◌⊎◌, inl, inr}
use Rattle.std.specs.Prelude.{◌==◌, ◌&&◌, ◌||◌, filter, map, position, remove, slice_get, slice_set}
use Rattle.std.specs.List.{list_any}
use Rattle.std.proofs.lemmas.Bool.{cond_both, and_parts, eqb-true, eq-eqb}
use Rattle.std.proofs.lemmas.List.Quantifiers.{position-Some}
use Rattle.std.proofs.lemmas.Option.{none-some, same_Some, get_or_from_slice_get}

abbrev pub Spot : Type 0
Spot = ℕ × Option ℕ

abbrev pub is_number : ℕ → Option ℕ → Bool
is_number n None = false
is_number n (Some k) = k == n

-- the call of this number is out to it, on this server
abbrev pub is_at : ℕ → ℕ → Spot → Bool
is_at server n p = p.0 == server && is_number n p.1

abbrev pub has_at : ℕ → ℕ → List Spot → Bool
has_at server n ps = list_any (is_at server n) ps

abbrev pub is_spot_of : ℕ → Spot → Bool
is_spot_of n p = is_number n p.1

abbrev pub has_number : ℕ → List Spot → Bool
has_number n ps = list_any (is_spot_of n) ps

-- no number is out twice
abbrev pub Once : List Spot → Type 0
Once [] = Unit {0}
Once (p ∷ ps) = ((n : ℕ) → is_number n p.1 ≡ true → has_number n ps ≡ false) × Once ps

-- ---- tests

pub not_both : true ≡ false → ⊥
not_both e = absurd cc

pub or_split : (a b : Bool) → (a || b) ≡ true → (a ≡ true) ⊎ (b ≡ true)
or_split true b is = inl refl
or_split false b is = inr is

pub or_none : (a b : Bool) → (a || b) ≡ false → (a ≡ false) × (b ≡ false)
or_none true b is = absurd cc
or_none false b is = (refl, is)

pub or_first : (a b : Bool) → a ≡ true → (a || b) ≡ true
or_first a b is = ap (λ x. x || b) is

pub or_second : (a b : Bool) → b ≡ true → (a || b) ≡ true
or_second true b is = refl
or_second false b is = is

pub or_false : (a b : Bool) → a ≡ false → b ≡ false → (a || b) ≡ false
or_false a b off other = ap (λ x. x || b) off ∙ other

pub and_true : (a b : Bool) → a ≡ true → b ≡ true → (a && b) ≡ true
and_true a b is its = ap (λ x. x && b) is ∙ its

pub no_number : (n : ℕ) (o : Option ℕ) → o ≡ None → is_number n o ≡ false
no_number n o none = ap (is_number n) none

pub number_is : (n : ℕ) (o : Option ℕ) → is_number n o ≡ true → o ≡ Some n
number_is n None is = absurd cc
number_is n (Some k) is = ap Some (eqb-true k n is)

-- where a test cannot be so, it is not
pub is_off : (b : Bool) → (b ≡ true → ⊥) → b ≡ false
is_off true never = absurd (never refl)
is_off false never = refl

pub at_number : (server n : ℕ) (ps : List Spot) → has_at server n ps ≡ true → has_number n ps ≡ true
at_number server n [] is = is
at_number server n (p ∷ ps) is = by_case (or_split (is_at server n p) (has_at server n ps) is) (at_number server n ps)
  where
    by_case : (is_at server n p ≡ true) ⊎ (has_at server n ps ≡ true) → (has_at server n ps ≡ true → has_number n ps ≡ true) → has_number n (p ∷ ps) ≡ true
    by_case (inl here) rest = or_first (is_number n p.1) (has_number n ps) (and_parts (p.0 == server) (is_number n p.1) here).1
    by_case (inr there) rest = or_second (is_number n p.1) (has_number n ps) (rest there)

pub number_at : (n : ℕ) (ps : List Spot) → has_number n ps ≡ true → (server : ℕ) × (has_at server n ps ≡ true)
number_at n [] is = absurd cc
number_at n (p ∷ ps) is = by_case (or_split (is_number n p.1) (has_number n ps) is) (number_at n ps)
  where
    by_case : (is_number n p.1 ≡ true) ⊎ (has_number n ps ≡ true) → (has_number n ps ≡ true → (server : ℕ) × (has_at server n ps ≡ true)) → (server : ℕ) × (has_at server n (p ∷ ps) ≡ true)
    by_case (inl here) rest = (p.0, or_first (is_at p.0 n p) (has_at p.0 n ps) (and_true (p.0 == p.0) (is_number n p.1) (eq-eqb p.0 p.0 refl) here))
    by_case (inr there) rest = let more : (server : ℕ) × (has_at server n ps ≡ true) = rest there in (more.0, or_second (is_at more.0 n p) (has_at more.0 n ps) more.1)

-- ---- what is left of a list

pub record IsLeft (ys xs : List Spot) : Type 0 where
  pub at : (server n : ℕ) → has_at server n ys ≡ true → has_at server n xs ≡ true
  pub number : (n : ℕ) → has_number n xs ≡ false → has_number n ys ≡ false
  pub once : Once xs → Once ys

pub left_same : (xs : List Spot) → IsLeft xs xs
left_same xs = record { at = λ server n is. is; number = λ n off. off; once = λ o. o }

pub left_then : (zs ys xs : List Spot) → IsLeft zs ys → IsLeft ys xs → IsLeft zs xs
left_then zs ys xs l k = record { at = λ server n is. k.at server n (l.at server n is); number = λ n off. l.number n (k.number n off); once = λ o. l.once (k.once o) }

-- the call is out no more, or all is as it was
abbrev pub Less : Spot → Spot → Type 0
Less p q = (q.1 ≡ None) ⊎ (q ≡ p)

-- place for place; behind the end no call is out
abbrev pub Thin : List Spot → List Spot → Type 0
Thin [] xs = Unit {0}
Thin (y ∷ ys) [] = (y.1 ≡ None) × Thin ys []
Thin (y ∷ ys) (x ∷ xs) = Less x y × Thin ys xs

less_number : (p q : Spot) (n : ℕ) → Less p q → is_number n q.1 ≡ true → is_number n p.1 ≡ true
less_number p q n (inl none) is = absurd (not_both (sym is ∙ no_number n q.1 none))
less_number p q n (inr same) is = subst (λ (x : Spot). is_number n x.1 ≡ true) same is

less_at : (p q : Spot) (server n : ℕ) → Less p q → is_at server n q ≡ true → is_at server n p ≡ true
less_at p q server n (inl none) is = absurd (not_both (sym (and_parts (q.0 == server) (is_number n q.1) is).1 ∙ no_number n q.1 none))
less_at p q server n (inr same) is = subst (λ (x : Spot). is_at server n x ≡ true) same is

none_at : (server n : ℕ) (q : Spot) → q.1 ≡ None → is_at server n q ≡ true → ⊥
none_at server n q none is = not_both (sym (and_parts (q.0 == server) (is_number n q.1) is).1 ∙ no_number n q.1 none)

thin_at : (ys xs : List Spot) → Thin ys xs → (server n : ℕ) → has_at server n ys ≡ true → has_at server n xs ≡ true
thin_at [] xs t server n is = absurd cc
thin_at (y ∷ ys) [] t server n is = by_case (or_split (is_at server n y) (has_at server n ys) is) (thin_at ys [] t.1 server n)
  where
    by_case : (is_at server n y ≡ true) ⊎ (has_at server n ys ≡ true) → (has_at server n ys ≡ true → false ≡ true) → false ≡ true
    by_case (inl here) rest = absurd (none_at server n y t.0 here)
    by_case (inr there) rest = rest there
thin_at (y ∷ ys) (x ∷ xs) t server n is = by_case (or_split (is_at server n y) (has_at server n ys) is) (thin_at ys xs t.1 server n)
  where
    by_case : (is_at server n y ≡ true) ⊎ (has_at server n ys ≡ true) → (has_at server n ys ≡ true → has_at server n xs ≡ true) → has_at server n (x ∷ xs) ≡ true
    by_case (inl here) rest = or_first (is_at server n x) (has_at server n xs) (less_at x y server n t.0 here)
    by_case (inr there) rest = or_second (is_at server n x) (has_at server n xs) (rest there)

thin_number : (ys xs : List Spot) → Thin ys xs → (n : ℕ) → has_number n xs ≡ false → has_number n ys ≡ false
thin_number [] xs t n off = refl
thin_number (y ∷ ys) [] t n off = or_false (is_number n y.1) (has_number n ys) (no_number n y.1 t.0) (thin_number ys [] t.1 n refl)
thin_number (y ∷ ys) (x ∷ xs) t n off =
    let both = or_none (is_number n x.1) (has_number n xs) off in
    or_false (is_number n y.1) (has_number n ys) (is_off (is_number n y.1) (λ is. not_both (sym (less_number x y n t.0 is) ∙ both.0))) (thin_number ys xs t.1 n both.1)

thin_once : (ys xs : List Spot) → Thin ys xs → Once xs → Once ys
thin_once [] xs t once = tt
thin_once (y ∷ ys) [] t once = (λ n is. absurd (not_both (sym is ∙ no_number n y.1 t.0)), thin_once ys [] t.1 tt)
thin_once (y ∷ ys) (x ∷ xs) t once = (λ n is. thin_number ys xs t.1 n (once.0 n (less_number x y n t.0 is)), thin_once ys xs t.1 once.1)

pub thin_left : (ys xs : List Spot) → Thin ys xs → IsLeft ys xs
thin_left ys xs t = record { at = thin_at ys xs t; number = thin_number ys xs t; once = thin_once ys xs t }

pub thin_same : (xs : List Spot) → Thin xs xs
thin_same [] = tt
thin_same (x ∷ xs) = (inr refl, thin_same xs)

-- no call is out to any of them
abbrev pub AreNone : List Spot → Type 0
AreNone [] = Unit {0}
AreNone (y ∷ ys) = (y.1 ≡ None) × AreNone ys

pub none_thin : (ys xs : List Spot) → AreNone ys → Thin ys xs
none_thin [] xs none = tt
none_thin (y ∷ ys) [] none = (none.0, none_thin ys [] none.1)
none_thin (y ∷ ys) (x ∷ xs) none = (inl none.0, none_thin ys xs none.1)

pub none_left : (ys xs : List Spot) → AreNone ys → IsLeft ys xs
none_left ys xs none = thin_left ys xs (none_thin ys xs none)

pub none_number : (n : ℕ) (ys : List Spot) → AreNone ys → has_number n ys ≡ false
none_number n ys none = thin_number ys [] (none_thin ys [] none) n refl

pub map_none : {A : Type 0} (f : A → Spot) → ((x : A) → (f x).1 ≡ None) → (xs : List A) → AreNone (map f xs)
map_none f each [] = tt
map_none f each (x ∷ xs) = (each x, map_none f each xs)

pub map_thin : {A : Type 0} (f : A → Spot) (h : A → A) → ((x : A) → Less (f x) (f (h x))) → (xs : List A) → Thin (map f (map h xs)) (map f xs)
map_thin f h each [] = tt
map_thin f h each (x ∷ xs) = (each x, map_thin f h each xs)

-- one more, to which no call is out
pub push_thin : (xs : List Spot) (y : Spot) → y.1 ≡ None → Thin (xs ++ y ∷ []) xs
push_thin [] y none = (none, tt)
push_thin (x ∷ xs) y none = (inr refl, push_thin xs y none)

pub map_push : {A B : Type 0} (f : A → B) (xs : List A) (x : A) → map f (xs ++ x ∷ []) ≡ map f xs ++ f x ∷ []
map_push f [] x = refl
map_push f (y ∷ ys) x = ap (λ l. f y ∷ l) (map_push f ys x)

-- ---- one of them is set

pub map_set : {A B : Type 0} (f : A → B) (xs : List A) (i : ℕ) (x : A) → map f (slice_set xs i x) ≡ slice_set (map f xs) i (f x)
map_set f [] i x = refl
map_set f (y ∷ ys) zero x = refl
map_set f (y ∷ ys) (suc i) x = ap (λ l. f y ∷ l) (map_set f ys i x)

pub map_get : {A B : Type 0} (f : A → B) (xs : List A) (i : ℕ) (x : A) → slice_get xs i ≡ Some x → slice_get (map f xs) i ≡ Some (f x)
map_get f [] i x is = absurd (none-some x is)
map_get f (y ∷ ys) zero x is = ap (λ z. Some (f z)) (same_Some y x is)
map_get f (y ∷ ys) (suc i) x is = map_get f ys i x is

pub set_thin : (xs : List Spot) (i : ℕ) (x q : Spot) → slice_get xs i ≡ Some x → Less x q → Thin (slice_set xs i q) xs
set_thin [] i x q at less = tt
set_thin (y ∷ ys) zero x q at less = (subst (λ (z : Spot). Less z q) (sym (same_Some y x at)) less, thin_same ys)
set_thin (y ∷ ys) (suc i) x q at less = (inr refl, set_thin ys i x q at less)

pub got_number : (n : ℕ) (xs : List Spot) (i : ℕ) (x : Spot) → slice_get xs i ≡ Some x → is_number n x.1 ≡ true → has_number n xs ≡ true
got_number n [] i x at is = absurd (none-some x at)
got_number n (y ∷ ys) zero x at is = or_first (is_number n y.1) (has_number n ys) (subst (λ (z : Spot). is_number n z.1 ≡ true) (sym (same_Some y x at)) is)
got_number n (y ∷ ys) (suc i) x at is = or_second (is_number n y.1) (has_number n ys) (got_number n ys i x at is)

-- the one to which a number is out is out no more, and no other is
pub set_taken : (n : ℕ) (xs : List Spot) (i : ℕ) (x q : Spot) → slice_get xs i ≡ Some x → is_number n x.1 ≡ true → q.1 ≡ None → Once xs → has_number n (slice_set xs i q) ≡ false
set_taken n [] i x q at is none once = refl
set_taken n (y ∷ ys) zero x q at is none once =
    or_false (is_number n q.1) (has_number n ys) (no_number n q.1 none) (once.0 n (subst (λ (z : Spot). is_number n z.1 ≡ true) (sym (same_Some y x at)) is))
set_taken n (y ∷ ys) (suc i) x q at is none once =
    or_false (is_number n y.1) (has_number n (slice_set ys i q)) (is_off (is_number n y.1) (λ its. not_both (sym (got_number n ys i x at is) ∙ once.0 n its))) (set_taken n ys i x q at is none once.1)

-- the first that passes does
pub first_passes : {X : Type 0} (test : X → Bool) (xs : List X) (i : ℕ) (y : X) → position test xs ≡ Some i → slice_get xs i ≡ Some y → test y ≡ true
first_passes test xs i y is at = ap test (sym (get_or_from_slice_get xs i y y at)) ∙ (position-Some test xs i y is).1

pub got_at : (server n : ℕ) (xs : List Spot) (i : ℕ) (x : Spot) → slice_get xs i ≡ Some x → is_at server n x ≡ true → has_at server n xs ≡ true
got_at server n [] i x at is = absurd (none-some x at)
got_at server n (y ∷ ys) zero x at is = or_first (is_at server n y) (has_at server n ys) (subst (λ (z : Spot). is_at server n z ≡ true) (sym (same_Some y x at)) is)
got_at server n (y ∷ ys) (suc i) x at is = or_second (is_at server n y) (has_at server n ys) (got_at server n ys i x at is)

-- ---- one of them goes

pub remove_at : (server n : ℕ) (xs : List Spot) (i : ℕ) (q : Spot) → has_at server n (remove xs i) ≡ true → has_at server n (slice_set xs i q) ≡ true
remove_at server n [] zero q is = is
remove_at server n [] (suc i) q is = is
remove_at server n (y ∷ ys) zero q is = or_second (is_at server n q) (has_at server n ys) is
remove_at server n (y ∷ ys) (suc i) q is = by_case (or_split (is_at server n y) (has_at server n (remove ys i)) is) (remove_at server n ys i q)
  where
    by_case : (is_at server n y ≡ true) ⊎ (has_at server n (remove ys i) ≡ true) → (has_at server n (remove ys i) ≡ true → has_at server n (slice_set ys i q) ≡ true) → has_at server n (y ∷ slice_set ys i q) ≡ true
    by_case (inl here) rest = or_first (is_at server n y) (has_at server n (slice_set ys i q)) here
    by_case (inr there) rest = or_second (is_at server n y) (has_at server n (slice_set ys i q)) (rest there)

remove_number : (n : ℕ) (xs : List Spot) (i : ℕ) (q : Spot) → has_number n (slice_set xs i q) ≡ false → has_number n (remove xs i) ≡ false
remove_number n [] zero q off = off
remove_number n [] (suc i) q off = off
remove_number n (y ∷ ys) zero q off = (or_none (is_number n q.1) (has_number n ys) off).1
remove_number n (y ∷ ys) (suc i) q off =
    let both = or_none (is_number n y.1) (has_number n (slice_set ys i q)) off in
    or_false (is_number n y.1) (has_number n (remove ys i)) both.0 (remove_number n ys i q both.1)

remove_once : (xs : List Spot) (i : ℕ) (q : Spot) → Once (slice_set xs i q) → Once (remove xs i)
remove_once [] zero q once = once
remove_once [] (suc i) q once = once
remove_once (y ∷ ys) zero q once = once.1
remove_once (y ∷ ys) (suc i) q once = (λ n is. remove_number n ys i q (once.0 n is), remove_once ys i q once.1)

pub remove_left : (xs : List Spot) (i : ℕ) (q : Spot) → IsLeft (remove xs i) (slice_set xs i q)
remove_left xs i q = record { at = λ server n is. remove_at server n xs i q is; number = λ n off. remove_number n xs i q off; once = remove_once xs i q }

pub map_remove : {A B : Type 0} (f : A → B) (xs : List A) (i : ℕ) → map f (remove xs i) ≡ remove (map f xs) i
map_remove f [] zero = refl
map_remove f [] (suc i) = refl
map_remove f (y ∷ ys) zero = refl
map_remove f (y ∷ ys) (suc i) = ap (λ l. f y ∷ l) (map_remove f ys i)

-- ---- one more, fewer, and one in front of both

pub left_none : (ys xs : List Spot) (y : Spot) → y.1 ≡ None → IsLeft ys xs → IsLeft (y ∷ ys) xs
left_none ys xs y none l = record {
  at = λ server n is. by_case server n (or_split (is_at server n y) (has_at server n ys) is);
  number = λ n off. or_false (is_number n y.1) (has_number n ys) (no_number n y.1 none) (l.number n off);
  once = λ o. (λ n is. absurd (not_both (sym is ∙ no_number n y.1 none)), l.once o);
}
  where
    by_case : (server n : ℕ) → (is_at server n y ≡ true) ⊎ (has_at server n ys ≡ true) → has_at server n xs ≡ true
    by_case server n (inl here) = absurd (none_at server n y none here)
    by_case server n (inr there) = l.at server n there

pub left_drop : (ys xs : List Spot) (x : Spot) → IsLeft ys xs → IsLeft ys (x ∷ xs)
left_drop ys xs x l = record {
  at = λ server n is. or_second (is_at server n x) (has_at server n xs) (l.at server n is);
  number = λ n off. l.number n (or_none (is_number n x.1) (has_number n xs) off).1;
  once = λ o. l.once o.1;
}

pub left_keep : (ys xs : List Spot) (x : Spot) → IsLeft ys xs → IsLeft (x ∷ ys) (x ∷ xs)
left_keep ys xs x l = record {
  at = λ server n is. by_case server n (or_split (is_at server n x) (has_at server n ys) is);
  number = λ n off. let both = or_none (is_number n x.1) (has_number n xs) off in or_false (is_number n x.1) (has_number n ys) both.0 (l.number n both.1);
  once = λ o. (λ n is. l.number n (o.0 n is), l.once o.1);
}
  where
    by_case : (server n : ℕ) → (is_at server n x ≡ true) ⊎ (has_at server n ys ≡ true) → has_at server n (x ∷ xs) ≡ true
    by_case server n (inl here) = or_first (is_at server n x) (has_at server n xs) here
    by_case server n (inr there) = or_second (is_at server n x) (has_at server n xs) (l.at server n there)

pub filter_left : {A : Type 0} (f : A → Spot) (test : A → Bool) (xs : List A) → IsLeft (map f (filter test xs)) (map f xs)
filter_left f test [] = left_same []
filter_left {A = A} f test (x ∷ xs) =
    cond_both (test x) (x ∷ filter test xs) (filter test xs) (λ (l : List A). IsLeft (map f l) (f x ∷ map f xs)) (λ is. left_keep (map f (filter test xs)) (map f xs) (f x) (filter_left f test xs))
    (λ off. left_drop (map f (filter test xs)) (map f xs) (f x) (filter_left f test xs))

-- the one to which a number is out is filtered out
pub filter_gone : {A : Type 0} (f : A → Spot) (test : A → Bool) (n : ℕ) (xs : List A) (i : ℕ) (x : A) → slice_get xs i ≡ Some x → is_number n (f x).1 ≡ true → test x ≡ false → Once (map f xs) → has_number n (map f (filter test xs)) ≡ false
filter_gone f test n [] i x at is off once = refl
filter_gone {A = A} f test n (y ∷ ys) zero x at is off once =
    let same : y ≡ x = same_Some y x at in
    let fails : test y ≡ false = ap test same ∙ off in
    let rest : has_number n (map f (filter test ys)) ≡ false = (filter_left f test ys).number n (once.0 n (subst (λ (z : A). is_number n (f z).1 ≡ true) (sym same) is)) in
    cond_both (test y) (y ∷ filter test ys) (filter test ys) (λ (l : List A). has_number n (map f l) ≡ false) (λ passes. absurd (not_both (sym passes ∙ fails))) (λ its. rest)
filter_gone {A = A} f test n (y ∷ ys) (suc i) x at is off once =
    let rest : has_number n (map f (filter test ys)) ≡ false = filter_gone f test n ys i x at is off once.1 in
    let other : is_number n (f y).1 ≡ false = is_off (is_number n (f y).1) (λ its. not_both (sym (got_number n (map f ys) i (f x) (map_get f ys i x at) is) ∙ once.0 n its)) in
    cond_both (test y) (y ∷ filter test ys) (filter test ys) (λ (l : List A). has_number n (map f l) ≡ false) (λ passes. or_false (is_number n (f y).1) (has_number n (map f (filter test ys))) other rest) (λ its. rest)

-- ---- a call goes out to one of them

pub out_at : (server n : ℕ) (xs : List Spot) (i : ℕ) (q : Spot) → has_at server n (slice_set xs i q) ≡ true → (is_at server n q ≡ true) ⊎ (has_at server n xs ≡ true)
out_at server n [] i q is = inr is
out_at server n (y ∷ ys) zero q is = by_case (or_split (is_at server n q) (has_at server n ys) is)
  where
    by_case : (is_at server n q ≡ true) ⊎ (has_at server n ys ≡ true) → (is_at server n q ≡ true) ⊎ (has_at server n (y ∷ ys) ≡ true)
    by_case (inl here) = inl here
    by_case (inr there) = inr (or_second (is_at server n y) (has_at server n ys) there)
out_at server n (y ∷ ys) (suc i) q is = by_case (or_split (is_at server n y) (has_at server n (slice_set ys i q)) is) (out_at server n ys i q)
  where
    further : (is_at server n q ≡ true) ⊎ (has_at server n ys ≡ true) → (is_at server n q ≡ true) ⊎ (has_at server n (y ∷ ys) ≡ true)
    further (inl new) = inl new
    further (inr old) = inr (or_second (is_at server n y) (has_at server n ys) old)

    by_case : (is_at server n y ≡ true) ⊎ (has_at server n (slice_set ys i q) ≡ true) → (has_at server n (slice_set ys i q) ≡ true → (is_at server n q ≡ true) ⊎ (has_at server n ys ≡ true))
        → (is_at server n q ≡ true) ⊎ (has_at server n (y ∷ ys) ≡ true)
    by_case (inl here) rest = inr (or_first (is_at server n y) (has_at server n ys) here)
    by_case (inr there) rest = further (rest there)

pub number_set : (n : ℕ) (xs : List Spot) (i : ℕ) (q : Spot) → has_number n (slice_set xs i q) ≡ true → (is_number n q.1 ≡ true) ⊎ (has_number n xs ≡ true)
number_set n [] i q is = inr is
number_set n (y ∷ ys) zero q is = by_case (or_split (is_number n q.1) (has_number n ys) is)
  where
    by_case : (is_number n q.1 ≡ true) ⊎ (has_number n ys ≡ true) → (is_number n q.1 ≡ true) ⊎ (has_number n (y ∷ ys) ≡ true)
    by_case (inl here) = inl here
    by_case (inr there) = inr (or_second (is_number n y.1) (has_number n ys) there)
number_set n (y ∷ ys) (suc i) q is = by_case (or_split (is_number n y.1) (has_number n (slice_set ys i q)) is) (number_set n ys i q)
  where
    further : (is_number n q.1 ≡ true) ⊎ (has_number n ys ≡ true) → (is_number n q.1 ≡ true) ⊎ (has_number n (y ∷ ys) ≡ true)
    further (inl new) = inl new
    further (inr old) = inr (or_second (is_number n y.1) (has_number n ys) old)

    by_case : (is_number n y.1 ≡ true) ⊎ (has_number n (slice_set ys i q) ≡ true) → (has_number n (slice_set ys i q) ≡ true → (is_number n q.1 ≡ true) ⊎ (has_number n ys ≡ true))
        → (is_number n q.1 ≡ true) ⊎ (has_number n (y ∷ ys) ≡ true)
    by_case (inl here) rest = inr (or_first (is_number n y.1) (has_number n ys) here)
    by_case (inr there) rest = further (rest there)

out_number : (n : ℕ) (xs : List Spot) (i : ℕ) (q : Spot) → has_number n xs ≡ false → is_number n q.1 ≡ false → has_number n (slice_set xs i q) ≡ false
out_number n [] i q off other = off
out_number n (y ∷ ys) zero q off other = or_false (is_number n q.1) (has_number n ys) other (or_none (is_number n y.1) (has_number n ys) off).1
out_number n (y ∷ ys) (suc i) q off other =
    let both = or_none (is_number n y.1) (has_number n ys) off in
    or_false (is_number n y.1) (has_number n (slice_set ys i q)) both.0 (out_number n ys i q both.1 other)

-- under a number that was not out
pub out_once : (next : ℕ) (xs : List Spot) (i : ℕ) (q : Spot) → q.1 ≡ Some next → has_number next xs ≡ false → Once xs → Once (slice_set xs i q)
out_once next [] i q is off once = once
out_once next (y ∷ ys) zero q is off once = (
  λ n its.
      let same : next ≡ n = same_Some next n (sym is ∙ number_is n q.1 its) in
      subst (λ (k : ℕ). has_number k ys ≡ false) same (or_none (is_number next y.1) (has_number next ys) off).1,
  once.1,
)
out_once next (y ∷ ys) (suc i) q is off once =
    let both = or_none (is_number next y.1) (has_number next ys) off in (
      λ n its.
          out_number n ys i q (once.0 n its)
          (is_off (is_number n q.1) (λ new.
          let same : next ≡ n = same_Some next n (sym is ∙ number_is n q.1 new) in
          not_both (sym (subst (λ (k : ℕ). is_number k y.1 ≡ true) (sym same) its) ∙ both.0))),
      out_once next ys i q is both.1 once.1,
    )

-- ---- a test of what stands there

pub map_any : {A B : Type 0} (test : B → Bool) (f : A → B) (xs : List A) → list_any test (map f xs) ≡ list_any (λ x. test (f x)) xs
map_any test f [] = refl
map_any test f (x ∷ xs) = ap (λ b. test (f x) || b) (map_any test f xs)

pub any_same : {A : Type 0} (p q : A → Bool) → ((x : A) → p x ≡ q x) → (xs : List A) → list_any p xs ≡ list_any q xs
any_same p q same [] = refl
any_same p q same (x ∷ xs) = ap (λ b. b || list_any p xs) (same x) ∙ ap (λ b. q x || b) (any_same p q same xs)
