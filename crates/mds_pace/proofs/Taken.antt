-- Which numbers were taken, and what a list of sends has of them.
use Rattle.std.proofs.Common.{arith, ◌≡◌, ◌≢◌, ℕ, ◌+◌, ◌≤◌, Bool, true, false, List, [], ◌∷◌, ◌++◌, Some, refl, sym, ap, ◌∙◌, inl, inr}
use Rattle.std.specs.Prelude.{◌==◌, ◌||◌, not, nat_lt, if◌then◌else◌}
use Rattle.std.specs.List.{filter}
use Rattle.std.proofs.lemmas.Bool.{cond_both, eqb-true, eq-eqb, ne_eqb, lt-ltb, le-ltb, ltb-true}
use Rattle.std.proofs.lemmas.List.Elements.{filter-append}
use Rattle.mds_rule.specs.MdsStates.{MdsSend, MdsValue}
use Rattle.mds_rule.specs.Goes.{xid_after, has_xids}
use Rattle.mds_progress.specs.TickLaw.{WasTaken}
use Rattle.mds_pace.specs.MdsPace.{was_taken, went_before}

pub not_both : true ≡ false → ⊥
not_both e = absurd cc

or_true : (b : Bool) → (b || true) ≡ true
or_true true = refl
or_true false = refl

pub taken_so : (next xid : ℕ) → WasTaken xid next → was_taken next (Some xid) ≡ true
taken_so next xid (inl less) = ap (λ (b : Bool). b || (next == 0)) (lt-ltb xid next less)
taken_so next xid (inr none) = ap (λ (b : Bool). nat_lt xid next || b) (eq-eqb next 0 none) ∙ or_true (nat_lt xid next)

pub taken_is : (next xid : ℕ) → was_taken next (Some xid) ≡ true → WasTaken xid next
taken_is next xid = by_less (nat_lt xid next) refl
  where
    by_less : (b : Bool) → nat_lt xid next ≡ b → (b || (next == 0)) ≡ true → WasTaken xid next
    by_less true less is = inl (ltb-true xid next less)
    by_less false off is = inr (eqb-true next 0 is)

-- a number from the next one on is new
pub new_so : (next xid : ℕ) → next ≢ 0 → next ≤ xid → was_taken next (Some xid) ≡ false
new_so next xid some from = ap (λ (b : Bool). b || (next == 0)) (le-ltb xid next from) ∙ ne_eqb next 0 some

pub some_number : (m : MdsValue) → has_xids m ≡ true → m.next_xid ≢ 0
some_number m has zero_is = not_both (sym has ∙ ap not (eq-eqb m.next_xid 0 zero_is))

-- while numbers are left, the next one is of those that were not taken
abbrev pub IsFrom : ℕ → ℕ → Type 0
IsFrom x next = next ≢ 0 → (x ≢ 0) × (x ≤ next)

pub from_itself : (x : ℕ) → IsFrom x x
from_itself x some = (some, omega arith)

pub from_after : (x next : ℕ) → next ≢ 0 → IsFrom x next → IsFrom x (xid_after next)
from_after x next has f =
    let from : x ≤ next = (f has).1 in
    cond_both (next == 4294967295) 0 (next + 1) (λ (n : ℕ). n ≢ 0 → (x ≢ 0) × (x ≤ n)) (λ last some. absurd (some refl)) (λ off some. ((f has).0, omega (arith, from)))

-- ---- of sends

pub one_new : (next : ℕ) (s : MdsSend) → went_before next s ≡ false → filter (went_before next) (s ∷ []) ≡ []
one_new next s off = ap (λ (b : Bool). if b then s ∷ [] else []) off

pub one_again : (next : ℕ) (s : MdsSend) → went_before next s ≡ true → filter (went_before next) (s ∷ []) ≡ s ∷ []
one_again next s is = ap (λ (b : Bool). if b then s ∷ [] else []) is

pub both_again : (next : ℕ) (xs ys olds more : List MdsSend) → filter (went_before next) xs ≡ olds → filter (went_before next) ys ≡ more → filter (went_before next) (xs ++ ys) ≡ olds ++ more
both_again next xs ys olds more first second =
    filter-append (went_before next) xs ys ∙ ap (λ (l : List MdsSend). l ++ filter (went_before next) ys) first ∙ ap (λ (l : List MdsSend). olds ++ l) second
