-- The name of a mirror's file, spelled from its end.
use Rattle.std.proofs.Common.{◌≡◌, ℕ, ◌+◌, ◌-◌, ◌^◌, ◌<◌, ◌≤◌, List, ◌∷◌, length, take, drop, set, sym, ap, ◌∙◌, arith}
use Rattle.std.specs.Fmt.{decimal}
use Rattle.std.proofs.lemmas.Fmt.{length-decimal-le}
use Rattle.std.proofs.lemmas.List.{drop-set, take_rest, length-set}

pub twenty_digits : (n : ℕ) → n < 2 ^ 64 → length (decimal n) ≤ 20
twenty_digits n h = length-decimal-le 20 n (omega arith) (omega arith) h

-- the name from its first letter on
pub named_from : (room : List ℕ) (start : ℕ) (digits : List ℕ) → length room ≡ 21 → start + 1 + length digits ≡ 21 → drop (start + 1) room ≡ digits
    → take (21 - start) (drop start (set room start 109)) ≡ 109 ∷ digits
named_from room start digits size ends stands =
    let whole : take (21 - start) (drop start (set room start 109)) ≡ drop start (set room start 109) =
    ap (λ (k : ℕ). take (k - start) (drop start (set room start 109))) (sym size ∙ sym (length-set room start 109)) ∙ take_rest (set room start 109) start in
    whole ∙ drop-set room start 109 (omega (arith, size, ends)) ∙ ap (λ (xs : List ℕ). 109 ∷ xs) stands
