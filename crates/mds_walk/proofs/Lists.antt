-- What stands in a list, what is put back there, and what holds of each of its elements behind those before it.
use Rattle.std.proofs.Common.{arith, ◌≡◌, ◌≤◌, ◌<◌, ℕ, ◌+◌, zero, suc, Bool, true, false, cond, ltb, length, None, List, [], ◌∷◌, ◌++◌, Some, refl, sym, ap, subst, ◌∙◌, inl, inr, ◌⊎◌}
use Rattle.std.specs.Prelude.{◌==◌, ◌||◌, not, nat_lt, if◌then◌else◌, filter, position, slice_get, slice_set}
use Rattle.std.specs.List.{find, list_any, prefix_len, position_or_len}
use Rattle.std.proofs.lemmas.Bool.{cond_both, ltb-false}
use Rattle.std.proofs.lemmas.List.Quantifiers.{position-Some}
use Rattle.std.proofs.lemmas.List.{append_assoc, append-nil}
use Rattle.std.proofs.lemmas.Option.{same_Some, none-some}
use Rattle.cluster_model.specs.Members.{IsOneOf}
use Rattle.mds_rule.specs.MdsStates.{AwaitedCall, with_call}

-- ---- it stands in the list

pub in_more : {A : Type 0} (x : A) (xs more : List A) → IsOneOf x xs → IsOneOf x (xs ++ more)
in_more x [] more inside = absurd inside
in_more x (y ∷ ys) more (inl is) = inl is
in_more x (y ∷ ys) more (inr inside) = inr (in_more x ys more inside)

pub in_last : {A : Type 0} (x : A) (xs : List A) → IsOneOf x (xs ++ x ∷ [])
in_last x [] = inl refl
in_last x (y ∷ ys) = inr (in_last x ys)

-- of the calls with one more: an old one, or the new one
pub in_with_call : (x call : AwaitedCall) (calls : List AwaitedCall) → IsOneOf x (with_call call calls) → IsOneOf x calls ⊎ (x ≡ call)
in_with_call x call [] (inl is) = inr is
in_with_call x call [] (inr inside) = absurd inside
in_with_call x call (c ∷ calls) inside =
    cond_both (nat_lt call.xid c.xid) (call ∷ c ∷ calls) (if call.xid == c.xid then call ∷ calls else c ∷ with_call call calls) (λ (l : List AwaitedCall). IsOneOf x l → IsOneOf x (c ∷ calls) ⊎ (x ≡ call)) (λ is. before)
    (λ off.
    cond_both (call.xid == c.xid) (call ∷ calls) (c ∷ with_call call calls) (λ (l : List AwaitedCall). IsOneOf x l → IsOneOf x (c ∷ calls) ⊎ (x ≡ call)) (λ is. instead) (λ other. behind (in_with_call x call calls)))
    inside
  where
    before : IsOneOf x (call ∷ c ∷ calls) → IsOneOf x (c ∷ calls) ⊎ (x ≡ call)
    before (inl new) = inr new
    before (inr old) = inl old

    instead : IsOneOf x (call ∷ calls) → IsOneOf x (c ∷ calls) ⊎ (x ≡ call)
    instead (inl new) = inr new
    instead (inr old) = inl (inr old)

    further : IsOneOf x calls ⊎ (x ≡ call) → IsOneOf x (c ∷ calls) ⊎ (x ≡ call)
    further (inl old) = inl (inr old)
    further (inr new) = inr new

    behind : (IsOneOf x (with_call call calls) → IsOneOf x calls ⊎ (x ≡ call)) → IsOneOf x (c ∷ with_call call calls) → IsOneOf x (c ∷ calls) ⊎ (x ≡ call)
    behind more (inl its) = inl (inl its)
    behind more (inr its) = further (more its)

pub in_filtered : {A : Type 0} (test : A → Bool) (x : A) (xs : List A) → IsOneOf x (filter test xs) → IsOneOf x xs
in_filtered test x [] inside = absurd inside
in_filtered {A = A} test x (y ∷ ys) inside =
    cond_both (test y) (y ∷ filter test ys) (filter test ys) (λ (l : List A). IsOneOf x l → IsOneOf x (y ∷ ys)) (λ is. kept (in_filtered test x ys)) (λ off. λ its. inr (in_filtered test x ys its)) inside
  where
    kept : (IsOneOf x (filter test ys) → IsOneOf x ys) → IsOneOf x (y ∷ filter test ys) → IsOneOf x (y ∷ ys)
    kept more (inl is) = inl is
    kept more (inr its) = inr (more its)

pub got_in : {A : Type 0} (xs : List A) (place : ℕ) (x : A) → slice_get xs place ≡ Some x → IsOneOf x xs
got_in [] place x is = absurd cc
got_in (y ∷ ys) zero x is = inl (sym (same_Some y x is))
got_in (y ∷ ys) (suc place) x is = inr (got_in ys place x is)

pub found_in : {A : Type 0} (test : A → Bool) (xs : List A) (x : A) → find test xs ≡ Some x → IsOneOf x xs
found_in test [] x is = absurd (none-some x is)
found_in {A = A} test (y ∷ xs) x is = by_test (test y) is (found_in test xs x)
  where
    by_test : (b : Bool) → cond b (Some y) (find test xs) ≡ Some x → (find test xs ≡ Some x → IsOneOf x xs) → IsOneOf x (y ∷ xs)
    by_test true its more = inl (sym (same_Some y x its))
    by_test false its more = inr (more its)

pub found_passes : {A : Type 0} (test : A → Bool) (xs : List A) (x : A) → find test xs ≡ Some x → test x ≡ true
found_passes test [] x is = absurd (none-some x is)
found_passes {A = A} test (y ∷ xs) x is = by_test (test y) refl is (found_passes test xs x)
  where
    by_test : (b : Bool) → test y ≡ b → cond b (Some y) (find test xs) ≡ Some x → (find test xs ≡ Some x → test x ≡ true) → test x ≡ true
    by_test true passes its more = ap test (sym (same_Some y x its)) ∙ passes
    by_test false passes its more = more its

pub record Split {A : Type 0} (x : A) (xs : List A) : Type 0 where
  pub front : List A
  pub behind : List A
  pub is : xs ≡ front ++ x ∷ behind

pub split_in : {A : Type 0} (x : A) (xs : List A) → IsOneOf x xs → Split x xs
split_in x [] inside = absurd inside
split_in x (y ∷ ys) (inl is) = record { front = []; behind = ys; is = ap (λ z. z ∷ ys) (sym is) }
split_in x (y ∷ ys) (inr inside) = let s : Split x ys = split_in x ys inside in record { front = y ∷ s.front; behind = s.behind; is = ap (λ l. y ∷ l) s.is }

-- ---- what is put at a place

pub put_back : {A : Type 0} (xs : List A) (place : ℕ) (x : A) → slice_get xs place ≡ Some x → slice_set xs place x ≡ xs
put_back [] place x is = refl
put_back (y ∷ ys) zero x is = ap (λ z. z ∷ ys) (sym (same_Some y x is))
put_back (y ∷ ys) (suc place) x is = ap (λ l. y ∷ l) (put_back ys place x is)

pub set_twice : {A : Type 0} (xs : List A) (place : ℕ) (a b : A) → slice_set (slice_set xs place a) place b ≡ slice_set xs place b
set_twice [] place a b = refl
set_twice (x ∷ xs) zero a b = refl
set_twice (x ∷ xs) (suc place) a b = ap (λ l. x ∷ l) (set_twice xs place a b)

-- ---- the first that passes

all_pass : {X : Type 0} (p : X → Bool) (xs : List X) → length xs ≤ prefix_len (λ x. not (p x)) xs → list_any p xs ≡ false
all_pass p [] h = refl
all_pass p (x ∷ xs) h = by_case (p x) (prefix_len (λ y. not (p y)) xs) (list_any p xs) h (all_pass p xs)
  where
    by_case : (b : Bool) (n : ℕ) (rest : Bool) → length (x ∷ xs) ≤ cond (not b) (1 + n) 0 → (length xs ≤ n → rest ≡ false) → (b || rest) ≡ false
    by_case true n rest h others = absurd (omega (arith, h))
    by_case false n rest h others = others (omega (arith, h))

is_none : (b : Bool) (n : ℕ) → cond b (Some n) None ≡ None → b ≡ false
is_none true n e = absurd cc
is_none false n e = refl

pub none_there : {X : Type 0} (p : X → Bool) (xs : List X) → position p xs ≡ None → list_any p xs ≡ false
none_there p xs e = all_pass p xs (ltb-false _ _ (is_none (ltb (position_or_len p xs) (length xs)) (position_or_len p xs) e))

got_there : {X : Type 0} (xs : List X) (place : ℕ) → place < length xs → slice_get xs place ≡ None → ⊥
got_there [] place less none = omega (arith, less)
got_there (y ∷ ys) zero less none = none-some y (sym none)
got_there (y ∷ ys) (suc place) less none = got_there ys place (omega (arith, less)) none

pub first_there : {X : Type 0} (p : X → Bool) (xs : List X) (place : ℕ) → position p xs ≡ Some place → slice_get xs place ≡ None → ⊥
first_there p [] place is none = none-some place is
first_there p (y ∷ ys) place is none = got_there (y ∷ ys) place (position-Some p (y ∷ ys) place y is).0 none

-- ---- each element is so, behind those before it

abbrev pub EachOf : {A : Type 0} → (List A → A → Type 0) → List A → List A → Type 0
EachOf P past [] = Unit {0}
EachOf P past (x ∷ xs) = P past x × EachOf P (past ++ x ∷ []) xs

pub each_push : {A : Type 0} (P : List A → A → Type 0) (past xs : List A) (x : A) → EachOf P past xs → P (past ++ xs) x → EachOf P past (xs ++ x ∷ [])
each_push {A = A} P past [] x each now = (subst (λ (l : List A). P l x) (append-nil past) now, tt)
each_push {A = A} P past (y ∷ xs) x each now = (each.0, each_push P (past ++ y ∷ []) xs x each.1 (subst (λ (l : List A). P l x) (sym (append_assoc past (y ∷ []) xs)) now))

pub each_join : {A : Type 0} (P : List A → A → Type 0) (past xs ys : List A) → EachOf P past xs → EachOf P (past ++ xs) ys → EachOf P past (xs ++ ys)
each_join {A = A} P past [] ys each more = subst (λ (l : List A). EachOf P l ys) (append-nil past) more
each_join {A = A} P past (x ∷ xs) ys each more = (each.0, each_join P (past ++ x ∷ []) xs ys each.1 (subst (λ (l : List A). EachOf P l ys) (sym (append_assoc past (x ∷ []) xs)) more))

pub each_at : {A : Type 0} (P : List A → A → Type 0) (past before after : List A) (x : A) → EachOf P past (before ++ x ∷ after) → P (past ++ before) x
each_at {A = A} P past [] after x each = subst (λ (l : List A). P l x) (sym (append-nil past)) each.0
each_at {A = A} P past (y ∷ before) after x each = subst (λ (l : List A). P l x) (append_assoc past (y ∷ []) before) (each_at P (past ++ y ∷ []) before after x each.1)

-- ---- each element is so

abbrev pub AllOf : {A : Type 0} → (A → Type 0) → List A → Type 0
AllOf P [] = Unit {0}
AllOf P (x ∷ xs) = P x × AllOf P xs

pub all_push : {A : Type 0} (P : A → Type 0) (xs : List A) (x : A) → AllOf P xs → P x → AllOf P (xs ++ x ∷ [])
all_push P [] x all is = (is, tt)
all_push P (y ∷ ys) x all is = (all.0, all_push P ys x all.1 is)

pub all_in : {A : Type 0} (P : A → Type 0) (xs : List A) (x : A) → AllOf P xs → IsOneOf x xs → P x
all_in P [] x all inside = absurd inside
all_in P (y ∷ ys) x all (inl is) = subst P (sym is) all.0
all_in P (y ∷ ys) x all (inr inside) = all_in P ys x all.1 inside

pub all_set : {A : Type 0} (P : A → Type 0) (xs : List A) (place : ℕ) (x : A) → AllOf P xs → P x → AllOf P (slice_set xs place x)
all_set P [] place x all is = tt
all_set P (y ∷ ys) zero x all is = (is, all.1)
all_set P (y ∷ ys) (suc place) x all is = (all.0, all_set P ys place x all.1 is)

pub all_got : {A : Type 0} (P : A → Type 0) (xs : List A) (place : ℕ) (x : A) → AllOf P xs → slice_get xs place ≡ Some x → P x
all_got P [] place x all is = absurd cc
all_got P (y ∷ ys) zero x all is = subst P (same_Some y x is) all.0
all_got P (y ∷ ys) (suc place) x all is = all_got P ys place x all.1 is

pub all_split : {A : Type 0} (P : A → Type 0) (before after : List A) (x : A) → AllOf P (before ++ x ∷ after) → P x
all_split P [] after x all = all.0
all_split P (y ∷ before) after x all = all_split P before after x all.1
