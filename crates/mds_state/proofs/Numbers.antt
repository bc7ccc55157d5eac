-- A number that a set has no more.
use Rattle.std.proofs.Common.{◌≡◌, ◌≢◌, ℕ, Bool, true, false, cond, List, [], ◌∷◌, refl, sym, ap, ◌∙◌, inl, inr, ◌⊎◌}
use Rattle.std.specs.Prelude.{nat_eq, not, ◌==◌, ◌||◌, filter}
use Rattle.std.specs.List.{list_any}
use Rattle.std.specs.Set.{remove_key}
use Rattle.std.proofs.lemmas.Bool.{eq-eqb, ne_eqb}
use Rattle.std.proofs.lemmas.Bool.Decides.{eqb_tells}

module _ (client : ℕ) where
  abbrev stays : ℕ → Bool
  stays id = not (id == client)

  other_way : (x : ℕ) → (nat_eq client x ≡ true) × (client ≡ x) ⊎ (nat_eq client x ≡ false) × (client ≢ x) → (x == client) ≡ nat_eq client x
  other_way x (inl (is, same)) = eq-eqb x client (sym same) ∙ sym is
  other_way x (inr (is, differ)) = ne_eqb x client (λ same. differ (sym same)) ∙ sym is

  cut_first : (keys : List ℕ) → filter stays (remove_key (nat_eq client) keys) ≡ filter stays keys
  cut_first [] = refl
  cut_first (x ∷ keys) = by (nat_eq client x) (x == client) refl (other_way x (eqb_tells client x)) (cut_first keys)
    where
      by : (b d : Bool) → (x == client) ≡ d → d ≡ b → filter stays (remove_key (nat_eq client) keys) ≡ filter stays keys
          → filter stays (cond b keys (x ∷ remove_key (nat_eq client) keys)) ≡ cond (not d) (x ∷ filter stays keys) (filter stays keys)
      by true true at same more = refl
      by true false at same more = absurd (cc)
      by false true at same more = absurd (cc)
      by false false at same more =
          ap (λ k. cond (not k) (x ∷ filter stays (remove_key (nat_eq client) keys)) (filter stays (remove_key (nat_eq client) keys))) at ∙ ap (λ l. x ∷ l) more

  cut_none : (keys : List ℕ) → list_any (nat_eq client) keys ≡ false → filter stays keys ≡ keys
  cut_none [] none = refl
  cut_none (x ∷ keys) none = by (nat_eq client x) (x == client) (other_way x (eqb_tells client x)) none (cut_none keys)
    where
      by : (b d : Bool) → d ≡ b → (b || list_any (nat_eq client) keys) ≡ false → (list_any (nat_eq client) keys ≡ false → filter stays keys ≡ keys) → cond (not d) (x ∷ filter stays keys) (filter stays keys) ≡ x ∷ keys
      by true d same gone more = absurd (cc)
      by false true same gone more = absurd (cc)
      by false false same gone more = ap (λ l. x ∷ l) (more gone)

  -- a set has a number once, so what it removes are all of it
  pub gone_of : (old new : List ℕ) → new ≡ remove_key (nat_eq client) old → list_any (nat_eq client) new ≡ false → new ≡ filter stays old
  gone_of old new is none = sym (cut_none new none) ∙ ap (filter stays) is ∙ cut_first old
