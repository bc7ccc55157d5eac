-- Runs that stand apart, one at a time.
use Rattle.std.proofs.Common.{◌≡◌, ◌≢◌, ℕ, suc, ◌<◌, ◌≤◌, Bool, true, false, List, [], ◌∷◌, get_or, cond, Option, Some, IfSome, refl, sym, ap, subst, ◌∙◌, arith, inl, inr, ◌⊎◌}
use Rattle.std.specs.Prelude.{◌&&◌, ◌||◌, nat_le, nat_lt, slice_get}
use Rattle.std.specs.Ordering.{nat_cmp}
use Rattle.std.specs.declared.cmp.Ordering.TheVariants.{Less}
use Rattle.std.specs.Map.{keys_of}
use Rattle.std.specs.BTreeMap.{is_at, BTreeMap, IsOrdered}
use Rattle.std.specs.List.Sorted.{IsStrictlySortedBy}
use Rattle.std.proofs.lemmas.Bool.{or_cases}
use Rattle.std.proofs.lemmas.Cmp.{nat_cmp_total, ranked}
use Rattle.std.proofs.lemmas.Bool.Decides.{nat_tests}
use Rattle.std.proofs.lemmas.Option.{slice_get-get_or, same_Some, none-some}
use Rattle.std.proofs.lemmas.Map.Entries.{btree_map_get_place, All-lookup}
use Rattle.std.proofs.lemmas.Map.Keys.{sorted_head, sorted_tail}
use Rattle.mirror_writer.specs.Extents.{has_place, is_place, AreApart, EndBy}
use Rattle.mirror_writer.specs.Runs.{run_at}
use Rattle.mirror_writer.proofs.PlaceLemmas.{or_true}

-- a run of the list, by its first place
abbrev pub IsRun : List (ℕ × ℕ) → ℕ → ℕ → Type 0
IsRun es k v = run_at es k ≡ Some v

-- ---- tests of keys

pub same_key : (k q : ℕ) → is_at (nat_cmp k) q ≡ true → k ≡ q
same_key k q is = grind (arith, nat_tests)

pub other_key : (k q : ℕ) → is_at (nat_cmp k) q ≡ false → k ≢ q
other_key k q is = λ same. grind (arith, nat_tests)

pub is_key : (k q : ℕ) → k ≡ q → is_at (nat_cmp k) q ≡ true
is_key k q same = grind (arith, nat_tests)

pub not_key : (k q : ℕ) → k ≢ q → is_at (nat_cmp k) q ≡ false
not_key k q differs = grind (arith, nat_tests, differs)

-- the first run of a list, or a later one
data Where (e : ℕ × ℕ) (es : List (ℕ × ℕ)) (k v : ℕ) : Type 0 where
  Here : k ≡ e.0 → v ≡ e.1 → Where e es k v
  Later : k ≢ e.0 → IsRun es k v → Where e es k v

where_by : (e : ℕ × ℕ) (es : List (ℕ × ℕ)) (k v : ℕ) (b : Bool) → is_at (nat_cmp k) e.0 ≡ b → cond b (Some e.1) (run_at es k) ≡ Some v → Where e es k v
where_by e es k v true test is = Here (same_key k e.0 test) (sym (same_Some e.1 v is))
where_by e es k v false test is = Later (other_key k e.0 test) is

where_is : (e : ℕ × ℕ) (es : List (ℕ × ℕ)) (k v : ℕ) → IsRun (e ∷ es) k v → Where e es k v
where_is e es k v is = where_by e es k v (is_at (nat_cmp k) e.0) refl is

later_run : (e : ℕ × ℕ) (es : List (ℕ × ℕ)) (k v : ℕ) → k ≢ e.0 → IsRun es k v → IsRun (e ∷ es) k v
later_run e es k v differs is = ap (λ b. cond b (Some e.1) (run_at es k)) (not_key k e.0 differs) ∙ is

first_run : (e : ℕ × ℕ) (es : List (ℕ × ℕ)) → IsRun (e ∷ es) e.0 e.1
first_run e es = ap (λ b. cond b (Some e.1) (run_at es e.0)) (is_key e.0 e.0 refl)

-- ---- what holds of runs apart

head_full : (e : ℕ × ℕ) (es : List (ℕ × ℕ)) → AreApart (e ∷ es) → e.0 < e.1
head_full e [] apart = apart
head_full e (f ∷ es) apart = apart.0

tail_apart : (e : ℕ × ℕ) (es : List (ℕ × ℕ)) → AreApart (e ∷ es) → AreApart es
tail_apart e [] apart = tt
tail_apart e (f ∷ es) apart = apart.2

behind : (e : ℕ × ℕ) (es : List (ℕ × ℕ)) (k v : ℕ) → AreApart (e ∷ es) → IsRun es k v → e.1 < k
behind e [] k v apart is = absurd (none-some v is)
behind e (f ∷ es) k v apart is = by_place (where_is f es k v is) (λ later. behind f es k v apart.2 later)
  where
    by_place : Where f es k v → (IsRun es k v → f.1 < k) → e.1 < k
    by_place (Here same ends) rest = omega (arith, same, apart.1)
    by_place (Later differs later) rest = omega (arith, apart.1, head_full f es apart.2, rest later)

pub full : (es : List (ℕ × ℕ)) (k v : ℕ) → AreApart es → IsRun es k v → k < v
full [] k v apart is = absurd (none-some v is)
full (e ∷ es) k v apart is = by_place (where_is e es k v is) (λ later. full es k v (tail_apart e es apart) later)
  where
    by_place : Where e es k v → (IsRun es k v → k < v) → k < v
    by_place (Here same ends) rest = omega (arith, same, ends, head_full e es apart)
    by_place (Later differs later) rest = rest later

pub are_apart : (es : List (ℕ × ℕ)) (k v l u : ℕ) → AreApart es → IsRun es k v → IsRun es l u → k < l → v < l
are_apart [] k v l u apart is also below = absurd (none-some v is)
are_apart (e ∷ es) k v l u apart is also below = by_places (where_is e es k v is) (where_is e es l u also) (λ one two. are_apart es k v l u (tail_apart e es apart) one two below)
  where
    by_places : Where e es k v → Where e es l u → (IsRun es k v → IsRun es l u → v < l) → v < l
    by_places (Here same ends) (Here same' ends') rest = absurd (omega (arith, same, same', below))
    by_places (Here same ends) (Later differs' later') rest = let past : e.1 < l = behind e es l u apart later' in omega (arith, ends, past)
    by_places (Later differs later) (Here same' ends') rest = let past : e.1 < k = behind e es k v apart later in absurd (omega (arith, past, same', below, head_full e es apart))
    by_places (Later differs later) (Later differs' later') rest = rest later later'

-- ---- places and runs

pub is_inside : (run : ℕ × ℕ) (p : ℕ) → run.0 ≤ p → p < run.1 → has_place p run ≡ true
is_inside run p first last = grind (arith, nat_tests)

pub inside_is : (run : ℕ × ℕ) (p : ℕ) → has_place p run ≡ true → (run.0 ≤ p) × (p < run.1)
inside_is run p is = let b = bounds_of (nat_le run.0 p) (nat_lt p run.1) is in (grind (arith, nat_tests, b), grind (arith, nat_tests, b))
  where
    bounds_of : (a b : Bool) → (a && b) ≡ true → (a ≡ true) × (b ≡ true)
    bounds_of true true is = (refl, refl)
    bounds_of true false is = absurd cc
    bounds_of false b is = absurd cc

pub record RunWith (es : List (ℕ × ℕ)) (p : ℕ) : Type 0 where
  pub first : ℕ
  pub end : ℕ
  pub run : IsRun es first end
  pub low : first ≤ p
  pub high : p < end

pub run_with : (es : List (ℕ × ℕ)) (p : ℕ) → AreApart es → is_place es p ≡ true → RunWith es p
run_with [] p apart is = absurd cc
run_with (e ∷ es) p apart is = by_side (or_cases (has_place p e) (is_place es p) is) (λ later. run_with es p (tail_apart e es apart) later)
  where
    by_side : (has_place p e ≡ true) ⊎ (is_place es p ≡ true) → (is_place es p ≡ true → RunWith es p) → RunWith (e ∷ es) p
    by_side (inl here) rest = let b = inside_is e p here in record { first = e.0; end = e.1; run = first_run e es; low = b.0; high = b.1 }
    by_side (inr later) rest =
        let r : RunWith es p = rest later in
        let past : e.1 < r.first = behind e es r.first r.end apart r.run in
        record { first = r.first; end = r.end; run = later_run e es r.first r.end (λ same. omega (arith, same, past, head_full e es apart)) r.run; low = r.low; high = r.high }

pub place_in : (es : List (ℕ × ℕ)) (k v p : ℕ) → IsRun es k v → k ≤ p → p < v → is_place es p ≡ true
place_in [] k v p is low high = absurd (none-some v is)
place_in (e ∷ es) k v p is low high = by_place (where_is e es k v is) (λ later. place_in es k v p later low high)
  where
    by_place : Where e es k v → (IsRun es k v → is_place es p ≡ true) → is_place (e ∷ es) p ≡ true
    by_place (Here same ends) rest = ap (λ b. b || is_place es p) (is_inside e p (omega (arith, same, low)) (omega (arith, ends, high)))
    by_place (Later differs later) rest = or_true (has_place p e) (is_place es p) (rest later)

pub no_place : (es : List (ℕ × ℕ)) (p : ℕ) → AreApart es → (RunWith es p → ⊥) → is_place es p ≡ false
no_place es p apart none = by_answer (is_place es p) refl
  where
    by_answer : (b : Bool) → is_place es p ≡ b → b ≡ false
    by_answer false is = refl
    by_answer true is = absurd (none (run_with es p apart is))

pub same_run : (es : List (ℕ × ℕ)) (k l v u : ℕ) → IsRun es k v → IsRun es l u → k ≡ l → v ≡ u
same_run es k l v u is also same = same_Some v u (sym is ∙ ap (run_at es) same ∙ also)

pub ends_by : (es : List (ℕ × ℕ)) (end k v : ℕ) → EndBy end es → IsRun es k v → v ≤ end
ends_by es end k v by is = subst (λ (o : Option ℕ). IfSome o (λ x. x ≤ end)) is (All-lookup (λ x. x ≤ end) (is_at (nat_cmp k)) es by)

-- ---- from the runs to the list

first_below : (e f : ℕ × ℕ) (es : List (ℕ × ℕ)) → IsStrictlySortedBy nat_cmp (keys_of (e ∷ f ∷ es)) → e.0 < f.0
first_below e f es sorted = ranked e.0 f.0 Less (sym ((sorted_head nat_cmp e.0 (keys_of (f ∷ es)) sorted).0))

pub apart_by : (es : List (ℕ × ℕ)) → IsStrictlySortedBy nat_cmp (keys_of es) → ((i : ℕ) (e : ℕ × ℕ) → slice_get es i ≡ Some e → e.0 < e.1)
    → ((i j : ℕ) (e f : ℕ × ℕ) → slice_get es i ≡ Some e → slice_get es j ≡ Some f → e.0 < f.0 → e.1 < f.0) → AreApart es
apart_by [] sorted some gap = tt
apart_by (e ∷ []) sorted some gap = some 0 e refl
apart_by (e ∷ f ∷ es) sorted some gap = (
  some 0 e refl,
  gap 0 1 e f refl refl (first_below e f es sorted),
  apart_by (f ∷ es) (sorted_tail nat_cmp e.0 (keys_of (f ∷ es)) sorted) (λ i x at. some (suc i) x at) (λ i j x y at also. gap (suc i) (suc j) x y at also),
)

pub apart_from : (m : BTreeMap ℕ ℕ) → IsOrdered nat_cmp m → ((k v : ℕ) → IsRun m.entries k v → k < v)
    → ((k v l u : ℕ) → IsRun m.entries k v → IsRun m.entries l u → k < l → v < l) → AreApart m.entries
apart_from m ordered some gap =
    let run : (i : ℕ) (e : ℕ × ℕ) → slice_get m.entries i ≡ Some e → IsRun m.entries e.0 e.1 = λ i e at. btree_map_get_place nat_cmp_total m i e.0 e.1 ordered at in
    apart_by m.entries ordered (λ i e at. some e.0 e.1 (run i e at)) (λ i j e f at also. gap e.0 e.1 f.0 f.1 (run i e at) (run j f also))

pub end_from : (m : BTreeMap ℕ ℕ) (end : ℕ) → IsOrdered nat_cmp m → ((k v : ℕ) → IsRun m.entries k v → v ≤ end) → EndBy end m.entries
end_from m end ordered by = λ k d within. let e : ℕ × ℕ = get_or m.entries k d in by e.0 e.1 (btree_map_get_place nat_cmp_total m k e.0 e.1 ordered (slice_get-get_or m.entries k d within))
