-- A recall is put in front of the first that it comes before.
use Rattle.std.proofs.Common.{◌≡◌, ℕ, zero, suc, ◌+◌, Bool, true, false, not, cond, List, [], ◌∷◌, Option, Some, None, refl, sym, ap, ◌∙◌, arith}
use Rattle.std.specs.Prelude.{insert}
use Rattle.std.specs.List.{find, position_or_len, AllByRecursion}
use Rattle.std.proofs.lemmas.Option.{none-some}
use Rattle.recall.specs.declared.recall.Recall.{Recall}
use Rattle.recall.specs.declared.kept_recall.KeptRecall.{KeptRecall}
use Rattle.recall.specs.Recalls.{is_before, with_recall}
use Rattle.recall.specs.Entries.{recalls_of, IsAtMostOne}
use Rattle.recall.proofs.Firsts.{find_here, find_behind}

module _ (test : Recall → Bool) (r : Recall) where
  pub found_past : (xs : List Recall) → test r ≡ false → find test (with_recall r xs) ≡ find test xs
  found_past [] fails = find_behind test r [] fails
  found_past (x ∷ xs) fails = by_case (is_before r x) (found_past xs fails)
    where
      by_case : (b : Bool) → find test (with_recall r xs) ≡ find test xs → find test (cond b (r ∷ (x ∷ xs)) (x ∷ with_recall r xs)) ≡ find test (x ∷ xs)
      by_case true rest = find_behind test r (x ∷ xs) fails
      by_case false rest = ap (λ (o : Option Recall). cond (test x) (Some x) o) rest

  pub found_new : (xs : List Recall) → find test xs ≡ None → test r ≡ true → find test (with_recall r xs) ≡ Some r
  found_new [] none here = find_here test r [] here
  found_new (x ∷ xs) none here = by_case (is_before r x) (test x) refl (found_new xs)
    where
      by_case : (b t : Bool) → test x ≡ t → (find test xs ≡ None → test r ≡ true → find test (with_recall r xs) ≡ Some r) → find test (cond b (r ∷ (x ∷ xs)) (x ∷ with_recall r xs)) ≡ Some r
      by_case true t first rest = find_here test r (x ∷ xs) here
      by_case false true first rest = absurd (none-some x (sym none ∙ find_here test x xs first))
      by_case false false first rest = find_behind test x (with_recall r xs) first ∙ rest (sym (find_behind test x xs first) ∙ none) here

  pub one_more : (xs : List Recall) → IsAtMostOne test xs → (test r ≡ true → find test xs ≡ None) → IsAtMostOne test (with_recall r xs)
  one_more [] one may = (λ here. refl, tt)
  one_more (x ∷ xs) one may = by_case (is_before r x) (one_more xs one.1 (λ here. behind (may here) (test x) refl))
    where
      behind : find test (x ∷ xs) ≡ None → (t : Bool) → test x ≡ t → find test xs ≡ None
      behind none true first = absurd (none-some x (sym none ∙ find_here test x xs first))
      behind none false first = sym (find_behind test x xs first) ∙ none

      not_new : test x ≡ true → (t : Bool) → test r ≡ t → find test (with_recall r xs) ≡ None
      not_new first true here = absurd (none-some x (sym (may here) ∙ find_here test x xs first))
      not_new first false fails = found_past xs fails ∙ one.0 first

      by_case : (b : Bool) → IsAtMostOne test (with_recall r xs) → IsAtMostOne test (cond b (r ∷ (x ∷ xs)) (x ∷ with_recall r xs))
      by_case true rest = (may, one)
      by_case false rest = (λ first. not_new first (test r) refl, rest)

-- the code puts it at a place
pub inserted : (e : KeptRecall) (es : List KeptRecall) → recalls_of (insert es (position_or_len (λ x. is_before e.recall x.recall) es) e) ≡ with_recall e.recall (recalls_of es)
inserted e [] = refl
inserted e (x ∷ es) = by_case (is_before e.recall x.recall) (inserted e es)
  where
    by_case : (b : Bool) → recalls_of (insert es (position_or_len (λ x. is_before e.recall x.recall) es) e) ≡ with_recall e.recall (recalls_of es)
        → recalls_of (insert (x ∷ es) (cond (not b) (1 + position_or_len (λ x. is_before e.recall x.recall) es) 0) e) ≡ cond b (e.recall ∷ (x.recall ∷ recalls_of es)) (x.recall ∷ with_recall e.recall (recalls_of es))
    by_case true rest = refl
    by_case false rest =
        let next : 1 + position_or_len (λ x. is_before e.recall x.recall) es ≡ suc (position_or_len (λ x. is_before e.recall x.recall) es) = omega arith in
        ap (λ k. recalls_of (insert (x ∷ es) k e)) next ∙ ap (λ rs. x.recall ∷ rs) rest

pub each_inserted : (P : KeptRecall → Type 0) (e : KeptRecall) (es : List KeptRecall) (place : ℕ) → AllByRecursion P es → P e → AllByRecursion P (insert es place e)
each_inserted P e es zero each this = (this, each)
each_inserted P e [] (suc place) each this = (this, tt)
each_inserted P e (x ∷ es) (suc place) each this = (each.0, each_inserted P e es place each.1 this)
