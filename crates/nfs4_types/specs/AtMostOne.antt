-- Lists of at most one value (RFC 4506, section 4.13).
use Rattle.std.specs.Prelude.{List, [], ◌∷◌, Option, Some, None}

-- a value that may be there, as a list
abbrev pub listed_one : {A : Type 0} → Option A → List A
listed_one None = []
listed_one (Some v) = v ∷ []
