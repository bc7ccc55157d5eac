-- Reads of a file, one after the other.
use Rattle.std.proofs.Common.{◌≡◌, ℕ, zero, suc, ◌<◌, ◌≤◌, ◌+◌, Bool, true, false, List, [], ◌∷◌, ◌++◌, length, map, take, drop, set, get_or, Some, take_all, append-nil, refl, ap, ◌∙◌, arith}
use Rattle.std.specs.Prelude.{slice_get, ◌&&◌}
use Rattle.std.specs.List.{list_all}
use Rattle.std.proofs.lemmas.Option.{same_Some}
use Rattle.std.proofs.lemmas.List.{get_or_default, drop_all}
use Rattle.std.proofs.lemmas.List.Edits.{map_over_more}
use Rattle.cluster_model.specs.declared.ids.Mirror.{Mirror}
use Rattle.mds_io.specs.Reads.{ReadState, begun_again}
use Rattle.mds_rule.specs.MdsStates.{CompoundRun, WaitingRead}
use Rattle.mds_rule.specs.ServedFiles.{begins_again}

first_fails : (a b : Bool) → a ≡ false → false ≡ (a && b)
first_fails true b is = absurd cc
first_fails false b is = refl

rest_fails : (a b : Bool) → false ≡ b → false ≡ (a && b)
rest_fails true b is = is
rest_fails false b is = refl

module _ {X : Type 0} where
  -- what was done to each up to a place is done to the next
  pub next_done : (f : X → X) (xs ys : List X) (i : ℕ) (d new : X) → i < length xs → length ys ≡ length xs
      → ys ≡ map f (take i xs) ++ drop i xs → new ≡ f (get_or ys i d) → set ys i new ≡ map f (take (i + 1) xs) ++ drop (i + 1) xs
  next_done f xs ys i d new within same so_far does =
      let x : X = get_or ys i d in
      ap (set ys i) does ∙ map_over_more f xs ys i x within so_far (get_or_default ys i d x (omega (arith, within, same)))

  -- one of them does not pass
  pub one_fails : (p : X → Bool) (xs : List X) (i : ℕ) (x : X) → slice_get xs i ≡ Some x → p x ≡ false → false ≡ list_all p xs
  one_fails p [] i x at fails = absurd cc
  one_fails p (y ∷ xs) zero x at fails = first_fails _ _ (ap p (same_Some y x at) ∙ fails)
  one_fails p (y ∷ xs) (suc i) x at fails = rest_fails _ _ (one_fails p xs i x at fails)

-- all of a list was written anew
pub all_new : {X : Type 0} (n : ℕ) (new old : List X) → length old ≤ length new → length new ≤ n → take n (new ++ drop (length new) old) ≡ new
all_new n new old none within = ap (λ rest. take n (new ++ rest)) (drop_all (length new) old none) ∙ ap (take n) (append-nil new) ∙ take_all n new within

abbrev pub waiting_as : CompoundRun → ReadState → WaitingRead
waiting_as c r = record { compound = c; read = r }

-- its read begins again
pub again_is : (live : List Mirror) (c : CompoundRun) (r s : ReadState) (w : WaitingRead) → waiting_as c r ≡ w → s ≡ begun_again r live → waiting_as c s ≡ begins_again live w
again_is live c r s w is again = ap (waiting_as c) again ∙ ap (begins_again live) is
