-- Elements by their places.
use Rattle.std.proofs.Common.{◌≡◌, ℕ, zero, suc, Bool, true, false, List, [], ◌∷◌, length, cond, Some, None, refl, sym, ap, subst, ◌∙◌, inl, inr, ◌⊎◌}
use Rattle.std.specs.Prelude.{slice_get, slice_set, nat_lt, map, ◌&&◌, ◌||◌, ◌==◌}
use Rattle.std.specs.List.{list_all, find, position, position_or_len, filter}
use Rattle.std.proofs.lemmas.List.Folds.{find_at}
use Rattle.std.proofs.lemmas.Option.{none-some, same_Some, slice_get_within}
use Rattle.std.proofs.lemmas.Bool.{eq-eqb, eqb-true, lt-ltb}
use Rattle.mirror_writer.specs.declared.call.WriteAnswer.{WriteAnswer}
use Rattle.mirror_writer.specs.Writers.{WriterMirror, covered_by, covered_flag}
use Rattle.client_laws.proofs.Stands.{AtEach, Every}

pub at_set : (P : WriterMirror → Type 0) (xs : List WriterMirror) (i : ℕ) (y : WriterMirror) → AtEach xs P → P y → AtEach (slice_set xs i y) P
at_set P [] i y all new place m there = absurd (none-some m there)
at_set P (x ∷ xs) zero y all new zero m there = subst P (same_Some y m there) new
at_set P (x ∷ xs) zero y all new (suc place) m there = all (suc place) m there
at_set P (x ∷ xs) (suc i) y all new zero m there = all zero m there
at_set P (x ∷ xs) (suc i) y all new (suc place) m there = at_set P xs i y (λ k n at. all (suc k) n at) new place m there

pub map_set : {A B : Type 0} (f : A → B) (xs : List A) (i : ℕ) (x y : A) → slice_get xs i ≡ Some x → f y ≡ f x → map f (slice_set xs i y) ≡ map f xs
map_set f [] i x y there same = absurd (none-some x there)
map_set f (z ∷ xs) zero x y there same = ap (λ b. b ∷ map f xs) (same ∙ sym (ap f (same_Some z x there)))
map_set f (z ∷ xs) (suc i) x y there same = ap (λ l. f z ∷ l) (map_set f xs i x y there same)

pub record Found {A : Type 0} (test : A → Bool) (xs : List A) (x : A) : Type 0 where
  pub passes : test x ≡ true
  pub place : ℕ
  pub there : slice_get xs place ≡ Some x

pub found : {A : Type 0} (test : A → Bool) (xs : List A) (x : A) → find test xs ≡ Some x → Found test xs x
found test [] x is = absurd (none-some x is)
found test (y ∷ ys) x is = by_test (test y) refl is (λ e. found test ys x e)
  where
    further : Found test ys x → Found test (y ∷ ys) x
    further f = record { passes = f.passes; place = suc f.place; there = f.there }

    by_test : (b : Bool) → test y ≡ b → cond b (Some y) (find test ys) ≡ Some x → (find test ys ≡ Some x → Found test ys x) → Found test (y ∷ ys) x
    by_test true passes is rest = record { passes = ap test (sym (same_Some y x is)) ∙ passes; place = 0; there = is }
    by_test false passes is rest = further (rest is)

-- the first that passes a test passes it
pub position_passes : {A : Type 0} (test : A → Bool) (xs : List A) (i : ℕ) (x : A) → position test xs ≡ Some i → slice_get xs i ≡ Some x → test x ≡ true
position_passes test xs i x is there = by_test (nat_lt (position_or_len test xs) (length xs)) is
  where
    by_test : (b : Bool) → cond b (Some (position_or_len test xs)) None ≡ Some i → test x ≡ true
    by_test true is = (found test xs x (find_at test xs ∙ ap (slice_get xs) (same_Some (position_or_len test xs) i is) ∙ there)).passes
    by_test false is = absurd (none-some i is)

-- where one passes there is a first
pub record FirstPlace {A : Type 0} (test : A → Bool) (xs : List A) : Type 0 where
  pub place : ℕ
  pub element : A
  pub first : position test xs ≡ Some place
  pub there : slice_get xs place ≡ Some element
  pub passes : test element ≡ true

finds : {A : Type 0} (test : A → Bool) (xs : List A) (i : ℕ) (x : A) → slice_get xs i ≡ Some x → test x ≡ true → (y : A) × (find test xs ≡ Some y)
finds test [] i x there passes = absurd (none-some x there)
finds {A} test (y ∷ ys) zero x there passes = (y, ap (λ b. cond b (Some y) (find test ys)) (ap test (same_Some y x there) ∙ passes))
finds {A} test (y ∷ ys) (suc i) x there passes = by_test (test y) (finds test ys i x there passes)
  where
    by_test : (b : Bool) → (z : A) × (find test ys ≡ Some z) → (z : A) × (cond b (Some y) (find test ys) ≡ Some z)
    by_test true rest = (y, refl)
    by_test false rest = rest

pub first_place : {A : Type 0} (test : A → Bool) (xs : List A) (i : ℕ) (x : A) → slice_get xs i ≡ Some x → test x ≡ true → FirstPlace test xs
first_place {A} test xs i x there passes = by_found (finds test xs i x there passes)
  where
    by_found : (y : A) × (find test xs ≡ Some y) → FirstPlace test xs
    by_found (y, is) =
        let at : slice_get xs (position_or_len test xs) ≡ Some y = sym (find_at test xs) ∙ is in
        record {
          place = position_or_len test xs;
          element = y;
          first = ap (λ b. cond b (Some (position_or_len test xs)) None) (lt-ltb (position_or_len test xs) (length xs) (slice_get_within xs (position_or_len test xs) y at));
          there = at;
          passes = (found test xs y is).passes;
        }

both_true : (a b : Bool) → a && b ≡ true → (a ≡ true) × (b ≡ true)
both_true true b is = (refl, is)
both_true false b is = absurd cc

pub all_at : {A : Type 0} (test : A → Bool) (xs : List A) → list_all test xs ≡ true → (i : ℕ) (x : A) → slice_get xs i ≡ Some x → test x ≡ true
all_at test [] all i x there = absurd (none-some x there)
all_at test (y ∷ ys) all zero x there = ap test (sym (same_Some y x there)) ∙ (both_true (test y) (list_all test ys) all).0
all_at test (y ∷ ys) all (suc i) x there = all_at test ys (both_true (test y) (list_all test ys) all).1 i x there

pub all_from : {A : Type 0} (test : A → Bool) (xs : List A) → ((i : ℕ) (x : A) → slice_get xs i ≡ Some x → test x ≡ true) → list_all test xs ≡ true
all_from test [] each = refl
all_from test (y ∷ ys) each = joined (test y) (list_all test ys) (each 0 y refl) (all_from test ys (λ i x there. each (suc i) x there))
  where
    joined : (a b : Bool) → a ≡ true → b ≡ true → a && b ≡ true
    joined true b first second = second
    joined false b first second = first

-- ---- flags

pub flag_set : (flags : List Bool) (i n : ℕ) → covered_flag (slice_get (slice_set flags i true) n) ≡ true → (covered_flag (slice_get flags n) ≡ true) ⊎ (n ≡ i)
flag_set [] i n is = inl is
flag_set (b ∷ flags) zero zero is = inr refl
flag_set (b ∷ flags) zero (suc n) is = inl is
flag_set (b ∷ flags) (suc i) zero is = inl is
flag_set (b ∷ flags) (suc i) (suc n) is = further (flag_set flags i n is)
  where
    further : (covered_flag (slice_get flags n) ≡ true) ⊎ (n ≡ i) → (covered_flag (slice_get flags n) ≡ true) ⊎ (suc n ≡ suc i)
    further (inl is) = inl is
    further (inr same) = inr (ap suc same)

pub flag_stays : (flags : List Bool) (i n : ℕ) (b : Bool) → slice_get flags n ≡ Some true → slice_get (slice_set flags i true) n ≡ Some true
flag_stays [] i n b is = is
flag_stays (x ∷ flags) zero zero b is = refl
flag_stays (x ∷ flags) zero (suc n) b is = is
flag_stays (x ∷ flags) (suc i) zero b is = is
flag_stays (x ∷ flags) (suc i) (suc n) b is = flag_stays flags i n b is

-- a flag that is set now was set, or its write has one of these answers
pub covered_now : (P : WriteAnswer → Type 0) (answered : List WriteAnswer) (flags : List Bool) (n : ℕ) → Every P answered → covered_flag (slice_get (covered_by answered flags) n) ≡ true
    → (covered_flag (slice_get flags n) ≡ true) ⊎ ((a : WriteAnswer) × (a.write ≡ n) × P a)
covered_now P [] flags n all is = inl is
covered_now P (a ∷ answered) flags n all is = by_rest (covered_now P answered (slice_set flags a.write true) n all.1 is)
  where
    by_flag : (covered_flag (slice_get flags n) ≡ true) ⊎ (n ≡ a.write) → (covered_flag (slice_get flags n) ≡ true) ⊎ ((a : WriteAnswer) × (a.write ≡ n) × P a)
    by_flag (inl is) = inl is
    by_flag (inr same) = inr (a, sym same, all.0)

    by_rest : (covered_flag (slice_get (slice_set flags a.write true) n) ≡ true) ⊎ ((a : WriteAnswer) × (a.write ≡ n) × P a)
        → (covered_flag (slice_get flags n) ≡ true) ⊎ ((a : WriteAnswer) × (a.write ≡ n) × P a)
    by_rest (inl is) = by_flag (flag_set flags a.write n is)
    by_rest (inr one) = inr one

pub length_set : {A : Type 0} (xs : List A) (i : ℕ) (y : A) → length (slice_set xs i y) ≡ length xs
length_set [] i y = refl
length_set (x ∷ xs) zero y = refl
length_set (x ∷ xs) (suc i) y = ap suc (length_set xs i y)

pub covered_length : (answered : List WriteAnswer) (flags : List Bool) → length (covered_by answered flags) ≡ length flags
covered_length [] flags = refl
covered_length (a ∷ answered) flags = covered_length answered (slice_set flags a.write true) ∙ length_set flags a.write true

all_set : (flags : List Bool) (i : ℕ) → list_all (λ b. b) flags ≡ true → list_all (λ b. b) (slice_set flags i true) ≡ true
all_set [] i all = refl
all_set (b ∷ flags) zero all = (both_true b (list_all (λ b. b) flags) all).1
all_set (b ∷ flags) (suc i) all = joined b (list_all (λ b. b) (slice_set flags i true)) (both_true b (list_all (λ b. b) flags) all).0 (all_set flags i (both_true b (list_all (λ b. b) flags) all).1)
  where
    joined : (a b : Bool) → a ≡ true → b ≡ true → a && b ≡ true
    joined true b first second = second
    joined false b first second = first

pub all_covered : (answered : List WriteAnswer) (flags : List Bool) → list_all (λ b. b) flags ≡ true → list_all (λ b. b) (covered_by answered flags) ≡ true
all_covered [] flags all = all
all_covered (a ∷ answered) flags all = all_covered answered (slice_set flags a.write true) (all_set flags a.write all)

-- those that pass a test
pub every_filter : {A : Type 0} (P : A → Type 0) (test : A → Bool) (xs : List A) → Every P xs → Every (λ x. P x × (test x ≡ true)) (filter test xs)
every_filter P test [] all = tt
every_filter P test (x ∷ xs) all = by_test (test x) refl (every_filter P test xs all.1)
  where
    by_test : (b : Bool) → test x ≡ b → Every (λ x. P x × (test x ≡ true)) (filter test xs) → Every (λ x. P x × (test x ≡ true)) (cond b (x ∷ filter test xs) (filter test xs))
    by_test true is rest = ((all.0, is), rest)
    by_test false is rest = rest

pub equal : (n : ℕ) → (n == n) ≡ true
equal n = eq-eqb n n refl

pub same_number : (a b : ℕ) → (a == b) ≡ true → a ≡ b
same_number a b is = eqb-true a b is

pub or_left : (a b : Bool) → a ≡ true → (a || b) ≡ true
or_left true b is = refl
or_left false b is = absurd cc

pub or_right : (a b : Bool) → b ≡ true → (a || b) ≡ true
or_right true b is = refl
or_right false b is = is
