-- Lists of connections in the order of their numbers, each as its account says.
use Rattle.std.proofs.Common.{◌≡◌, ◌≢◌, ℕ, zero, suc, ◌+◌, ◌<◌, ◌≤◌, Bool, true, false, List, [], ◌∷◌, ◌++◌, take, drop, map, set, sym, ap, subst, ◌∙◌, arith, Some}
use Rattle.std.specs.Prelude.{slice_get, cond}
use Rattle.std.specs.List.{filter}
use Rattle.std.proofs.lemmas.Option.{same_Some}
use Rattle.record_link.specs.Peers.{PeerState}
use Rattle.record_server.specs.History.{Account, Accounts}
use Rattle.record_server.proofs.AccountLemmas.{Good}

-- all numbers are above the low one, rise, and are at most the high one
abbrev pub Each : Accounts → ℕ → List PeerState → ℕ → Type 0
Each accounts low [] high = low ≤ high
Each accounts low (e ∷ es) high = (low < e.number) × Good (accounts e.number) e × Each accounts e.number es high

pub each_below : (accounts : Accounts) (low : ℕ) (es : List PeerState) (high : ℕ) → Each accounts low es high → low ≤ high
each_below accounts low [] high each = each
each_below accounts low (e ∷ es) high each = omega (arith, each.0, each_below accounts e.number es high each.2)

pub each_lower : (accounts : Accounts) (low low' : ℕ) (es : List PeerState) (high : ℕ) → low ≤ low' → Each accounts low' es high → Each accounts low es high
each_lower accounts low low' [] high less each = omega (arith, less, each)
each_lower accounts low low' (e ∷ es) high less each = (omega (arith, less, each.0), each.1, each.2)

-- the accounts of these numbers are the same
pub each_agree : (accounts accounts' : Accounts) (low : ℕ) (es : List PeerState) (high : ℕ) → ((k : ℕ) → low < k → k ≤ high → accounts' k ≡ accounts k) → Each accounts low es high → Each accounts' low es high
each_agree accounts accounts' low [] high agree each = each
each_agree accounts accounts' low (e ∷ es) high agree each = (
  each.0,
  subst (λ (a : Account). Good a e) (sym (agree e.number each.0 (each_below accounts e.number es high each.2))) each.1,
  each_agree accounts accounts' e.number es high (λ k more most. agree k (omega (arith, more, each.0)) most) each.2,
)

pub each_at : (accounts : Accounts) (low : ℕ) (es : List PeerState) (high i : ℕ) (e : PeerState) → slice_get es i ≡ Some e → Each accounts low es high → (low < e.number) × Good (accounts e.number) e
each_at accounts low [] high i e there each = absurd (cc (there))
each_at accounts low (x ∷ es) high zero e there each = subst (λ (y : PeerState). (low < y.number) × Good (accounts y.number) y) (same_Some x e there) (each.0, each.1)
each_at accounts low (x ∷ es) high (suc i) e there each =
    let later = each_at accounts x.number es high i e there each.2 in
    (omega (arith, each.0, later.0), later.1)

-- one became another
pub each_set : (accounts accounts' : Accounts) (low : ℕ) (es : List PeerState) (high i : ℕ) (e after : PeerState) → slice_get es i ≡ Some e → after.number ≡ e.number → Good (accounts' e.number) after
    → ((k : ℕ) → k ≢ e.number → accounts' k ≡ accounts k) → Each accounts low es high → Each accounts' low (set es i after) high
each_set accounts accounts' low [] high i e after there same good agree each = absurd (cc (there))
each_set accounts accounts' low (x ∷ es) high zero e after there same good agree each =
    let number : x.number ≡ e.number = ap (λ (y : PeerState). y.number) (same_Some x e there) in (
      omega (arith, each.0, number, same),
      subst (λ (n : ℕ). Good (accounts' n) after) (sym same) good,
      each_agree accounts accounts' after.number es high (λ k more most. agree k (λ is. absurd (omega (arith, is, more, same))))
          (subst (λ (n : ℕ). Each accounts n es high) (number ∙ sym same) each.2),
    )
each_set accounts accounts' low (x ∷ es) high (suc i) e after there same good agree each =
    let later = each_at accounts x.number es high i e there each.2 in (
      each.0,
      subst (λ (a : Account). Good a x) (sym (agree x.number (λ is. absurd (omega (arith, is, later.0))))) each.1,
      each_set accounts accounts' x.number es high i e after there same good agree each.2,
    )

-- one was taken out
pub each_removed : (accounts : Accounts) (low : ℕ) (es : List PeerState) (high i : ℕ) (e : PeerState) → slice_get es i ≡ Some e → Each accounts low es high → Each accounts low (take i es ++ drop (i + 1) es) high
each_removed accounts low [] high i e there each = absurd (cc (there))
each_removed accounts low (x ∷ es) high zero e there each = let less = each.0 in each_lower accounts low x.number es high (omega (arith, less)) each.2
each_removed accounts low (x ∷ es) high (suc i) e there each =
    let next : suc i + 1 ≡ suc (i + 1) = omega arith in
    subst (λ (n : ℕ). Each accounts low (x ∷ (take i es ++ drop n (x ∷ es))) high) (sym next) (each.0, each.1, each_removed accounts x.number es high i e there each.2)

-- one came behind the others
pub each_push : (accounts accounts' : Accounts) (low : ℕ) (es : List PeerState) (high : ℕ) (e : PeerState) → e.number ≡ high + 1 → Good (accounts' e.number) e → ((k : ℕ) → k ≤ high → accounts' k ≡ accounts k)
    → Each accounts low es high → Each accounts' low (es ++ e ∷ []) e.number
each_push accounts accounts' low [] high e next good agree each = (omega (arith, each, next), good, omega (arith))
each_push accounts accounts' low (x ∷ es) high e next good agree each = (
  each.0,
  subst (λ (a : Account). Good a x) (sym (agree x.number (each_below accounts x.number es high each.2))) each.1,
  each_push accounts accounts' x.number es high e next good agree each.2,
)

-- some were taken out
pub each_filter : (accounts : Accounts) (test : PeerState → Bool) (low : ℕ) (es : List PeerState) (high : ℕ) → Each accounts low es high → Each accounts low (filter test es) high
each_filter accounts test low [] high each = each
each_filter accounts test low (x ∷ es) high each = by_test (test x) (each_filter accounts test x.number es high each.2)
  where
    by_test : (b : Bool) → Each accounts x.number (filter test es) high → Each accounts low (cond b (x ∷ filter test es) (filter test es)) high
    by_test true rest = (each.0, each.1, rest)
    by_test false rest = let less = each.0 in each_lower accounts low x.number (filter test es) high (omega (arith, less)) rest

-- each became another of its number
pub each_map : (accounts : Accounts) (f : PeerState → PeerState) → ((e : PeerState) → (f e).number ≡ e.number) → ((a : Account) (e : PeerState) → Good a e → Good a (f e))
    → (low : ℕ) (es : List PeerState) (high : ℕ) → Each accounts low es high → Each accounts low (map f es) high
each_map accounts f same good low [] high each = each
each_map accounts f same good low (x ∷ es) high each =
    let number : x.number ≡ (f x).number = sym (same x) in (
      subst (λ (n : ℕ). low < n) number each.0,
      subst (λ (n : ℕ). Good (accounts n) (f x)) number (good (accounts x.number) x each.1),
      subst (λ (n : ℕ). Each accounts n (map f es) high) number (each_map accounts f same good x.number es high each.2),
    )
