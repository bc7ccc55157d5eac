-- What a clock gives.
use Rattle.std.specs.Prelude.{◌≡◌, ℕ, max, List, [], ◌∷◌, Option, Some, None}

-- What asking for a moment did, where a clock tells those that it will give: the first of them, or the last one again where it would fall;
-- where there is none, the last one again.
abbrev pub GivesMoment : Option (List ℕ) → ℕ → ℕ → Option (List ℕ) → Type 0
GivesMoment None last moment new = new ≡ None
GivesMoment (Some []) last moment new = (moment ≡ last) × (new ≡ Some [])
GivesMoment (Some (first ∷ rest)) last moment new = (moment ≡ max last first) × (new ≡ Some rest)
