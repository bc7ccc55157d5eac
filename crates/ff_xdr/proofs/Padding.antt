-- Padding that is read zero by zero.
use Rattle.std.proofs.Common.{◌≡◌, ℕ, suc, ◌+◌, ◌<◌, true, ltb, eqb, List, length, get_or, refl}
use Rattle.std.proofs.lemmas.Bool.{lt-ltb, eq-eqb}
use Rattle.ff_xdr.specs.Reading.{padding_at}

pub padding_at_more : (m n : ℕ) (bytes : List ℕ) (at : ℕ) → m ≡ suc n → at < length bytes → get_or bytes at 0 ≡ 0 → padding_at m bytes at ≡ padding_at n bytes (at + 1)
padding_at_more m n bytes at e lt is_zero =
    let here : ltb at (length bytes) ≡ true = lt-ltb _ _ lt in
    let nothing : eqb (get_or bytes at 0) 0 ≡ true = eq-eqb _ _ is_zero in
    rw e (rw (here, nothing) refl)
