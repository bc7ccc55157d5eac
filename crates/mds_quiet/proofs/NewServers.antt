-- The servers of a new file are different ones, where there are as many as it is to have mirrors.
use Rattle.std.proofs.Common.{◌≡◌, ◌≢◌, ◌≤◌, ◌<◌, ℕ, zero, suc, ◌+◌, ◌-◌, ◌*◌, ◌/◌, ◌%◌, Bool, false, true, length, refl, sym, ap, subst, ◌∙◌, inl, inr, arith}
use Rattle.std.specs.Prelude.{not, ◌==◌, ◌||◌, map}
use Rattle.std.specs.List.{list_any, range_with_len}
use Rattle.std.proofs.Math.Nat.{add-mul}
use Rattle.std.proofs.lemmas.Bool.{and_from, cases_lt, ne_eqb}
use Rattle.std.proofs.lemmas.Nat.{div-add-mod', same_from_place, mod_below}
use Rattle.cluster_laws.proofs.Invariant.{are_apart}
use Rattle.mds_rule.specs.FileOps.{nth_server, servers_of}

-- two places that are less than a round apart
turns : (a d n : ℕ) → 0 < d → d < n → a % n ≢ (a + d) % n
turns a d n some less same =
    let r : ℕ = a % n in
    let q : ℕ = a / n in
    let p : ℕ = (a + d) / n in
    let here : a / n * n + a % n ≡ a = div-add-mod' a n in
    let there : (a + d) / n * n + (a + d) % n ≡ a + d = div-add-mod' (a + d) n in
    let below : a % n < n = mod_below a n (omega (arith, less)) in
    elim (cases_lt (a % n + d) n) [
      | inl within ↦
          let places : a / n * n + (a % n + d) ≡ (a + d) / n * n + a % n = omega (arith, here, there, same) in
          let both = same_from_place (a / n) (a % n + d) ((a + d) / n) (a % n) n within below places in
          let second : a % n + d ≡ a % n = both.1 in
          omega (arith, second, some)
      | inr over ↦
          let more : (a / n + 1) * n ≡ a / n * n + 1 * n = add-mul (a / n) 1 n in
          let rest : a % n + d - n < n = omega (arith, below, less, over) in
          let places : (a / n + 1) * n + (a % n + d - n) ≡ (a + d) / n * n + a % n = omega (arith, here, there, same, more, over) in
          let both = same_from_place (a / n + 1) (a % n + d - n) ((a + d) / n) (a % n) n rest below places in
          let second : a % n + d - n ≡ a % n = both.1 in
          omega (arith, second, over, less)
    ]

-- none of the places behind this one, within a round
others : (count file start d k : ℕ) → 0 < d → d + k ≤ count → list_any (λ (n : ℕ). n == nth_server count file start) (map (nth_server count file) (range_with_len (start + d) k)) ≡ false
others count file start d zero some less = refl
others count file start d (suc k) some less =
    let apart : (file - 1 + start) % count ≢ (file - 1 + start + d) % count = turns (file - 1 + start) d count some (omega (arith, less)) in
    let sum : file - 1 + (start + d) ≡ file - 1 + start + d = omega arith in
    let same : nth_server count file (start + d) ≡ (file - 1 + start + d) % count + 1 = ap (λ (x : ℕ). x % count + 1) sum in
    let other : (nth_server count file (start + d) == nth_server count file start) ≡ false = ne_eqb (nth_server count file (start + d)) (nth_server count file start) (λ is. apart (omega (arith, is, same))) in
    let next : start + d + 1 ≡ start + (d + 1) = omega arith in
    let rest = others count file start (d + 1) k (omega arith) (omega (arith, less)) in
    none_of (nth_server count file (start + d) == nth_server count file start) other
    (subst (λ (x : ℕ). list_any (λ (n : ℕ). n == nth_server count file start) (map (nth_server count file) (range_with_len x k)) ≡ false) (sym next) rest)
  where
    none_of : (b : Bool) → b ≡ false → {c : Bool} → c ≡ false → (b || c) ≡ false
    none_of b is {c} its = ap (λ (x : Bool). x || c) is ∙ its

are_so : (count file start k : ℕ) → k ≤ count → are_apart (map (nth_server count file) (range_with_len start k)) ≡ true
are_so count file start zero fits = refl
are_so count file start (suc k) fits =
    and_from (not (list_any (λ (x : ℕ). x == nth_server count file start) (map (nth_server count file) (range_with_len (start + 1) k)))) _ (ap not (others count file start 1 k (omega arith) (omega (arith, fits)))) (are_so count file (start + 1) k (omega (arith, fits)))

pub new_apart : (count mirrors file : ℕ) → mirrors ≤ count → are_apart (servers_of count mirrors file) ≡ true
new_apart count mirrors file fits = are_so count file 0 mirrors fits

so_many : (f : ℕ → ℕ) (start k : ℕ) → length (map f (range_with_len start k)) ≡ k
so_many f start zero = refl
so_many f start (suc k) = let more = so_many f (start + 1) k in omega (arith, more)

pub how_many : (count mirrors file : ℕ) → length (servers_of count mirrors file) ≡ mirrors
how_many count mirrors file = so_many (nth_server count file) 0 mirrors
