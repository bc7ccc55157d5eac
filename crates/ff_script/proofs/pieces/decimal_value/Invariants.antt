use Rattle.std.proofs.Common.{◌≡◌, ℕ, zero, suc, ◌+◌, ◌*◌, ◌≤◌, drop}
use Rattle.ff_script.specs.Pieces.{decimal_value}
use Rattle.ff_script.proofs.pieces.decimal_value.Given as goal

-- the most that so many bytes can come to
abbrev pub most : ℕ → ℕ
most zero = 0
most (suc n) = most n * 10 + 255

abbrev pub invariant-loop-c : goal.invariant-loop-c
invariant-loop-c l = record {
  value : decimal_value l.value (drop l.c-index l.text) ≡ decimal_value 0 l.fn.text;
  small : l.value ≤ most l.c-index;
}
