-- Users and groups of a layout (RFC 8435, section 2.2; RFC 8881, section 5.9).
use Rattle.std.specs.Prelude.{◌≡◌, ℕ, ◌<◌, ◌^◌, List, decimal, Option, Some, None}

-- The number that a text is, where there is one: its decimal digits, without a leading zero, are the text. It is below 2^32.
abbrev pub IsUserNumber : (text : List ℕ) → Option ℕ → Type 0
IsUserNumber text (Some n) = (text ≡ decimal n) × (n < 2 ^ 32)
IsUserNumber text None = (n : ℕ) → n < 2 ^ 32 → ¬ (text ≡ decimal n)
