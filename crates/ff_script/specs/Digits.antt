-- Bytes as text: hexadecimal digits in pairs, in lower case, and `-` for no bytes.
use Rattle.std.specs.Prelude.{ℕ, Bool, ◌&&◌, ◌||◌, nat_le, List, [], ◌∷◌, codes, Option, Some, None, if◌then◌else◌}
use Rattle.std.specs.List.{list_all}
use Rattle.std.specs.Result.{result_ok, result_unwrap_or}
use Rattle.std.specs.Str.{bytes_eq}
use Rattle.hex.specs.Hex.{decode_of}

-- a digit: `0` to `9` are 48 to 57, and `a` to `f` are 97 to 102
abbrev pub is_digit : ℕ → Bool
is_digit c = (nat_le 48 c && nat_le c 57) || (nat_le 97 c && nat_le c 102)

-- the bytes that digits in pairs spell
abbrev pub bytes_of_pairs : List ℕ → List ℕ
bytes_of_pairs digits = result_unwrap_or (decode_of digits) []

-- the bytes that a text spells: none for `-`, else those of one pair of digits or more
abbrev pub bytes_of_digits : List ℕ → Option (List ℕ)
bytes_of_digits [] = None
bytes_of_digits (c ∷ rest) =
    if bytes_eq (c ∷ rest) (codes "-") then Some []
    else if list_all is_digit (c ∷ rest) then result_ok (decode_of (c ∷ rest))
    else None

-- the byte, where there is just one
abbrev pub one_byte : List ℕ → Option ℕ
one_byte (b ∷ []) = Some b
one_byte bytes = None
