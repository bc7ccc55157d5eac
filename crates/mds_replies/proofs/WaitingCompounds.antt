-- The compounds that wait for a file, where its reads change.
use Rattle.std.proofs.Common.{◌≡◌, ℕ, zero, suc, List, [], ◌∷◌, ◌++◌, Some, refl, sym, ap, subst, ◌∙◌, inl, inr, ◌⊎◌}
use Rattle.std.specs.Prelude.{take, drop, remove, slice_get, slice_set}
use Rattle.cluster_model.specs.Members.{IsOneOf}
use Rattle.mds_rule.specs.MdsStates.{CompoundRun, WaitingRead}
use Rattle.mds_walk.proofs.Lists.{got_in}
use Rattle.mds_replies.proofs.HolderCases.{SameCompounds}

-- ---- elements

pub in_set : {A : Type 0} (x y : A) (xs : List A) (place : ℕ) → IsOneOf x (slice_set xs place y) → IsOneOf x xs ⊎ (x ≡ y)
in_set x y [] place inside = absurd inside
in_set x y (z ∷ xs) zero (inl is) = inr is
in_set x y (z ∷ xs) zero (inr inside) = inl (inr inside)
in_set x y (z ∷ xs) (suc place) (inl is) = inl (inl is)
in_set x y (z ∷ xs) (suc place) (inr inside) = further (in_set x y xs place inside)
  where
    further : IsOneOf x xs ⊎ (x ≡ y) → IsOneOf x (z ∷ xs) ⊎ (x ≡ y)
    further (inl old) = inl (inr old)
    further (inr new) = inr new

pub in_joined : {A : Type 0} (x : A) (xs ys : List A) → IsOneOf x (xs ++ ys) → IsOneOf x xs ⊎ IsOneOf x ys
in_joined x [] ys inside = inr inside
in_joined x (z ∷ xs) ys (inl is) = inl (inl is)
in_joined x (z ∷ xs) ys (inr inside) = further (in_joined x xs ys inside)
  where
    further : IsOneOf x xs ⊎ IsOneOf x ys → IsOneOf x (z ∷ xs) ⊎ IsOneOf x ys
    further (inl old) = inl (inr old)
    further (inr new) = inr new

in_take : {A : Type 0} (x : A) (n : ℕ) (xs : List A) → IsOneOf x (take n xs) → IsOneOf x xs
in_take x zero xs inside = absurd inside
in_take x (suc n) [] inside = absurd inside
in_take x (suc n) (y ∷ xs) (inl is) = inl is
in_take x (suc n) (y ∷ xs) (inr inside) = inr (in_take x n xs inside)

in_drop : {A : Type 0} (x : A) (n : ℕ) (xs : List A) → IsOneOf x (drop n xs) → IsOneOf x xs
in_drop x zero xs inside = inside
in_drop x (suc n) [] inside = absurd inside
in_drop x (suc n) (y ∷ xs) inside = inr (in_drop x n xs inside)

in_removed : {A : Type 0} (x : A) (xs : List A) (place : ℕ) → IsOneOf x (remove xs place) → IsOneOf x xs
in_removed x xs place inside = by_part (in_joined x (take place xs) (drop (suc place) xs) inside)
  where
    by_part : IsOneOf x (take place xs) ⊎ IsOneOf x (drop (suc place) xs) → IsOneOf x xs
    by_part (inl front) = in_take x place xs front
    by_part (inr behind) = in_drop x (suc place) xs behind

-- ---- reads that wait

-- one more
pub reads_push : (W : CompoundRun → Type 0) (reads : List WaitingRead) (new : WaitingRead) → ((r : WaitingRead) → IsOneOf r reads → W r.compound) → W new.compound → (r : WaitingRead) → IsOneOf r (reads ++ new ∷ []) → W r.compound
reads_push W [] new all is r (inl same) = subst (λ (x : WaitingRead). W x.compound) (sym same) is
reads_push W [] new all is r (inr inside) = absurd inside
reads_push W (x ∷ reads) new all is r (inl same) = all r (inl same)
reads_push W (x ∷ reads) new all is r (inr inside) = reads_push W reads new (λ y its. all y (inr its)) is r inside

-- one is changed, or is gone
pub reads_set : (W : CompoundRun → Type 0) (reads : List WaitingRead) (place : ℕ) (new : WaitingRead) → ((r : WaitingRead) → IsOneOf r reads → W r.compound) → W new.compound → (r : WaitingRead) → IsOneOf r (slice_set reads place new) → W r.compound
reads_set W reads place new all is r inside = by_place (in_set r new reads place inside)
  where
    by_place : IsOneOf r reads ⊎ (r ≡ new) → W r.compound
    by_place (inl old) = all r old
    by_place (inr same) = subst (λ (x : WaitingRead). W x.compound) (sym same) is

pub reads_without : (W : CompoundRun → Type 0) (reads : List WaitingRead) (place : ℕ) → ((r : WaitingRead) → IsOneOf r reads → W r.compound) → (r : WaitingRead) → IsOneOf r (remove reads place) → W r.compound
reads_without W reads place all r inside = all r (in_removed r reads place inside)

pub set_same : (reads : List WaitingRead) (place : ℕ) (r new : WaitingRead) → slice_get reads place ≡ Some r → new.compound ≡ r.compound → SameCompounds reads (slice_set reads place new)
set_same reads place r new at is x inside = by_place (in_set x new reads place inside)
  where
    by_place : IsOneOf x reads ⊎ (x ≡ new) → (was : WaitingRead) × IsOneOf was reads × (x.compound ≡ was.compound)
    by_place (inl old) = (x, old, refl)
    by_place (inr same) = (r, got_in reads place r at, ap (λ (y : WaitingRead). y.compound) same ∙ is)

-- so what is so of all of them stays so
pub same_wait : (W : CompoundRun → Type 0) (old new : List WaitingRead) → SameCompounds old new → ((r : WaitingRead) → IsOneOf r old → W r.compound) → (r : WaitingRead) → IsOneOf r new → W r.compound
same_wait W old new same all r inside = let s = same r inside in subst W (sym s.2) (all s.0 s.1)
