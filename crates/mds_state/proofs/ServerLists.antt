-- The servers of a new file's mirrors are different ones.
use Rattle.std.proofs.Common.{◌≡◌, ◌≢◌, ℕ, ◌+◌, ◌-◌, ◌*◌, ◌/◌, ◌%◌, ◌<◌, ◌≤◌, Bool, true, false, List, [], ◌∷◌, refl, sym, ap, ◌∙◌, inl, inr, ◌⊎◌, arith}
use Rattle.std.specs.Prelude.{◌==◌, not, ◌&&◌, ◌||◌}
use Rattle.std.proofs.Math.Nat.{div-add-mod, mul-le-mul_left}
use Rattle.std.proofs.lemmas.Bool.{cases_lt}
use Rattle.std.proofs.lemmas.Bool.Decides.{eqb_tells}
use Rattle.mds_creations.specs.Makings.{are_different}
use Rattle.mds_rule.specs.FileOps.{nth_server, servers_of}

apart_by : (n x y q p r s : ℕ) → n * q + r ≡ x → n * p + s ≡ y → r ≡ s → x < y → y < x + n → ⊥
apart_by n x y q p r s first second same less within = by (cases_lt q p)
  where
    by : (q < p) ⊎ (p ≤ q) → ⊥
    by (inl below) =
        let step : n * (q + 1) ≤ n * p = mul-le-mul_left n (omega (arith, below)) in
        let more : n * (q + 1) ≡ n * q + n = omega arith in
        omega (arith, first, second, same, within, step, more)
    by (inr above) =
        let step : n * p ≤ n * q = mul-le-mul_left n above in
        omega (arith, first, second, same, less, step)

-- two places that are less than n apart
mods_apart : (n x y : ℕ) → x < y → y < x + n → x % n ≡ y % n → ⊥
mods_apart n x y less within same = apart_by n x y (x / n) (y / n) (x % n) (y % n) (div-add-mod x n) (div-add-mod y n) same less within

other_server : (n file i j : ℕ) → i < j → j < n → (nth_server n file j == nth_server n file i) ≡ false
other_server n file i j less within = by (eqb_tells (nth_server n file j) (nth_server n file i))
  where
    by : ((nth_server n file j == nth_server n file i) ≡ true) × (nth_server n file j ≡ nth_server n file i) ⊎ ((nth_server n file j == nth_server n file i) ≡ false) × (nth_server n file j ≢ nth_server n file i)
        → (nth_server n file j == nth_server n file i) ≡ false
    by (inl (alike, same)) = absurd (mods_apart n (file - 1 + i) (file - 1 + j) (omega (arith, less)) (omega (arith, within)) (omega (arith, same)))
    by (inr (is_not, differ)) = is_not

pub one_apart : (n file : ℕ) → are_different (servers_of n 1 file) ≡ true
one_apart n file = refl

pub two_apart : (n file : ℕ) → 2 ≤ n → are_different (servers_of n 2 file) ≡ true
two_apart n file many = rw (other_server n file 0 1 (omega arith) (omega (arith, many))) refl

pub three_apart : (n file : ℕ) → 3 ≤ n → are_different (servers_of n 3 file) ≡ true
three_apart n file many =
    rw (other_server n file 0 1 (omega arith) (omega (arith, many)), other_server n file 0 2 (omega arith) (omega (arith, many)), other_server n file 1 2 (omega arith) (omega (arith, many))) refl

pub four_apart : (n file : ℕ) → 4 ≤ n → are_different (servers_of n 4 file) ≡ true
four_apart n file many =
    rw (
      other_server n file 0 1 (omega arith) (omega (arith, many)),
      other_server n file 0 2 (omega arith) (omega (arith, many)),
      other_server n file 0 3 (omega arith) (omega (arith, many)),
      other_server n file 1 2 (omega arith) (omega (arith, many)),
      other_server n file 1 3 (omega arith) (omega (arith, many)),
      other_server n file 2 3 (omega arith) (omega (arith, many)),
    ) refl
