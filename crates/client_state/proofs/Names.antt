-- The name of a client.
use Rattle.std.proofs.Common.{◌≡◌, ℕ, ◌^◌, ◌<◌, ◌≤◌, List, length, subst, sym, arith}
use Rattle.std.proofs.lemmas.Fmt.{length-decimal-le}
use Rattle.client_state.specs.ClientStates.{client_name}

-- it has at most eleven bytes
pub short_name : (number : ℕ) (name : List ℕ) → number < 2 ^ 32 → name ≡ client_name number → length name ≤ 255
short_name number name small is =
    let digits = length-decimal-le 10 number (omega arith) (omega (arith, small)) (omega (arith, small)) in
    subst (λ (xs : List ℕ). length xs ≤ 255) (sym is) (omega (arith, digits))
