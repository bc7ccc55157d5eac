-- What is kept of a list. That `retain` leaves a filter is `filter_same` of std.
use Rattle.std.proofs.Common.{◌≡◌, ℕ, zero, suc, Bool, true, false, cond, List, [], ◌∷◌, refl, sym, ap, ◌∙◌, Some}
use Rattle.std.specs.Prelude.{slice_get}
use Rattle.std.specs.List.{filter}
use Rattle.std.proofs.lemmas.Option.{none-some, same_Some}

module _ {X : Type 0} (test : X → Bool) where
  passes_if : (b : Bool) (x : X) (xs : List X) → b ≡ test x → ((i : ℕ) (e : X) → slice_get xs i ≡ Some e → test e ≡ true) → (i : ℕ) (e : X) → slice_get (cond b (x ∷ xs) xs) i ≡ Some e → test e ≡ true
  passes_if true x xs is later zero e there = ap test (sym (same_Some x e there)) ∙ sym is
  passes_if true x xs is later (suc i) e there = later i e there
  passes_if false x xs is later i e there = later i e there

  -- each that is kept passes the test
  pub filter_passes : (xs : List X) (i : ℕ) (e : X) → slice_get (filter test xs) i ≡ Some e → test e ≡ true
  filter_passes [] i e there = absurd (none-some e there)
  filter_passes (x ∷ xs) i e there = passes_if (test x) x (filter test xs) refl (filter_passes xs) i e there
