use Rattle.std.proofs.Common.{ℕ, zero, suc, ◌<◌, ◌≤◌, arith}
use Rattle.ff_script.proofs.pieces.decimal_value.Invariants.{most}
use Rattle.ff_script.proofs.pieces.decimal_value.Goals as goal

grows : (i j : ℕ) → i ≤ j → most i ≤ most j
grows zero j h = omega arith
grows (suc i) zero h = absurd (omega arith)
grows (suc i) (suc j) h = let ih = grows i j (omega arith) in omega (arith, ih)

small : (i n : ℕ) → i < 10 → n ≤ most i → n ≤ 28333333305
small i n few fits = let h : most i ≤ most 9 = grows i 9 (omega arith) in omega (arith, h, fits)

pub overflow_mul-value : goal.overflow_mul-value
overflow_mul-value c =
    let few : c.loop-c.c-index < 10 = omega arith in
    let most = small c.loop-c.c-index c.loop-c.value few c.loop-c.invariant.small in omega (arith, most)

pub overflow_add-value : goal.overflow_add-value
overflow_add-value c =
    let few : c.loop-c.c-index < 10 = omega arith in
    let most = small c.loop-c.c-index c.loop-c.value few c.loop-c.invariant.small in omega (arith, most)
