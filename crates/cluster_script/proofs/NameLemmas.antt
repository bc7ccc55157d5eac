-- Names are text.
use Rattle.std.proofs.Common.{Bor, ◌≡◌, ℕ, ◌<◌, ◌≤◌, true, List, [], ◌∷◌, length, Some, Result, Ok, Err, refl, ap, arith}
use Rattle.std.specs.Prelude.{option_map}
use Rattle.std.specs.List.{list_all}
use Rattle.std.specs.Result.{MatchResult, result_ok}
use Rattle.std.specs.Str.{IsAscii, IsUtf8}
use Rattle.std.proofs.lemmas.Bool.{le-leb, and_parts}
use Rattle.std.proofs.lemmas.Bool.Decides.{nat_tests}
use Rattle.std.proofs.lemmas.Str.{IsUtf8-from_ascii}
use Rattle.std.proofs.lemmas.Str.Ascii.{IsAscii-nil, IsAscii-cons}
use Rattle.cluster_script.specs.ScriptWords.{is_of_name, name_at}

small : (c : ℕ) → is_of_name c ≡ true → c < 128
small c h = grind (arith, nat_tests)

ascii : (word : List ℕ) → list_all is_of_name word ≡ true → IsAscii word
ascii [] h = IsAscii-nil
ascii (c ∷ word) h =
    let both = and_parts (is_of_name c) (list_all is_of_name word) h in
    IsAscii-cons c word (small c both.0) (ascii word both.1)

-- a name is read as text
pub text_of_name : {E : Type 0} (Q : E → Type 0) (word : List ℕ) (r : Result (Bor (List ℕ)) E) → list_all is_of_name word ≡ true
    → MatchResult r (λ s. (s.now ≡ word) × IsUtf8 word) (λ e. (¬ IsUtf8 word) × Q e) → option_map (λ s. s.now) (result_ok r) ≡ Some word
text_of_name Q word (Ok s) all said = ap Some said.0
text_of_name Q word (Err e) all said = absurd (said.0 (IsUtf8-from_ascii word (ascii word all)))

pub name_is : (word : List ℕ) → 1 ≤ length word → length word ≤ 255 → list_all is_of_name word ≡ true → name_at word ≡ Some word
name_is word some few all = rw (le-leb 1 (length word) some, le-leb (length word) 255 few, all) refl
