-- A list's values, where they are few.
use Rattle.std.specs.Prelude.{◌≡◌, Bool, true, false, List, [], ◌∷◌}
use Rattle.client_compounds.specs.declared.results.Few.{Few}
use Rattle.client_compounds.specs.declared.results.Few.TheVariants.{Empty, One, Two, Three, Four, Five, More}

-- there are more than five
abbrev pub are_more : {V : Type 0} → List V → Bool
are_more (a ∷ b ∷ c ∷ d ∷ e ∷ f ∷ rest) = true
are_more values = false

abbrev pub AreFew : {T V : Type 0} → (T → V) → List V → Few T → Type 0
AreFew view values Empty = values ≡ []
AreFew view values (One a) = values ≡ view a ∷ []
AreFew view values (Two a b) = values ≡ view a ∷ view b ∷ []
AreFew view values (Three a b c) = values ≡ view a ∷ view b ∷ view c ∷ []
AreFew view values (Four a b c d) = values ≡ view a ∷ view b ∷ view c ∷ view d ∷ []
AreFew view values (Five a b c d e) = values ≡ view a ∷ view b ∷ view c ∷ view d ∷ view e ∷ []
AreFew view values More = are_more values ≡ true
