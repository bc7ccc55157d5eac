use Rattle.std.proofs.Common.{◌≡◌, ℕ, ◌+◌, ◌*◌, ◌<◌, length, get_or}
use Rattle.ff_script.proofs.Pairs.{value}
use Rattle.ff_script.proofs.digits.put_bytes.Given as goal

abbrev pub invariant-loop-place : goal.invariant-loop-place
invariant-loop-place l = record {
  size : length l.bytes ≡ length l.fn.bytes;
  done : (j : ℕ) → j < l.place → get_or l.bytes j 0 ≡ value (get_or l.digits (2 * j) 0) * 16 + value (get_or l.digits (2 * j + 1) 0);
}
