-- When bytes are a name.
use Rattle.std.proofs.Common.{◌≡◌, ℕ, Bool, true, false, List, length, refl, ap, sym, ◌∙◌}
use Rattle.std.specs.Prelude.{◌==◌, ◌||◌, not}
use Rattle.std.specs.Str.{is_utf8, IsUtf8}
use Rattle.std.proofs.lemmas.Str.{IsUtf8-from_is_utf8, is_utf8-from_IsUtf8}
use Rattle.mds_refusals.specs.Lookup.{is_no_name}

or_not : (a b : Bool) → b ≡ true → a ≡ (a || not b)
or_not true true is = refl
or_not false true is = refl
or_not a false is = absurd cc

or_so : (a b : Bool) → b ≡ false → true ≡ (a || not b)
or_so true false is = refl
or_so false false is = refl
or_so a true is = absurd cc

pub text_name : (name text : List ℕ) → text ≡ name → IsUtf8 name → (length text == 0) ≡ is_no_name name
text_name name text same utf8 = ap (λ t. length t == 0) same ∙ or_not (length name == 0) (is_utf8 name) (is_utf8-from_IsUtf8 name utf8)

pub no_text_name : (name : List ℕ) → ¬ (IsUtf8 name) → true ≡ is_no_name name
no_text_name name none = or_so (length name == 0) (is_utf8 name) (by_case (is_utf8 name) refl)
  where
    by_case : (b : Bool) → is_utf8 name ≡ b → is_utf8 name ≡ false
    by_case true is = absurd (none (IsUtf8-from_is_utf8 name is))
    by_case false is = is
