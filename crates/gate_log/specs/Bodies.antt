-- A body that is ready to be written to a log.
use Rattle.std.specs.Prelude.{◌≡◌, ℕ, ◌-◌, ◌^◌, ◌<◌, List, [], ◌∷◌, ◌++◌, length, take, drop}
use Rattle.gate_log.specs.Logs.{gated}

-- the whole record, and the closed gate behind it
abbrev pub with_gates : List ℕ → List ℕ
with_gates body = gated body ++ 0 ∷ []

-- the body in such bytes
abbrev pub body_in : List ℕ → List ℕ
body_in bytes = take (length bytes - 6) (drop 5 bytes)

pub record HasGatedBody (bytes : List ℕ) : Type 0 where
  pub bytes_are : bytes ≡ with_gates (body_in bytes)
  pub short : length (body_in bytes) < 2 ^ 32
