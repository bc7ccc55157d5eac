-- What an OPEN that was answered came to, by its cases.
use Rattle.std.proofs.Common.{◌≡◌, ℕ, ◌+◌, ◌<◌, Bool, true, false, cond, eqb, nat_lt, [], ◌∷◌, ◌++◌, length, map, Option, Some, None, Result, Ok, Err, refl, sym, subst}
use Rattle.std.proofs.lemmas.Bool.{ltb-true, eqb-false}
use Rattle.cluster_model.specs.declared.ids.FileId.{FileId}
use Rattle.open_state.specs.declared.open.Open.{Open}
use Rattle.open_state.specs.declared.open.OpenFault.{OpenFault}
use Rattle.open_state.specs.declared.open.OpenFault.TheVariants.{TooMany, Spent}
use Rattle.open_state.specs.Opens.{OpensValue, opens_of, open_of, again, in_place, fault_at, given, opens_with, last_with, Opens, Gives, Refuses, Wants}
use Rattle.open_state.specs.OneClient.{HasOpens}
use Rattle.open_state.proofs.OneClient.{opened_has}

pub data Came (old : OpensValue) (client : ℕ) (file : FileId) (o : Open) (new : OpensValue) : Type 0 where
  AsBefore : (was : Open) → open_of old client file ≡ Some was → o ≡ again was → HasOpens old client (map (in_place o) (opens_of old client)) new → new.last ≡ old.last → Came old client file o new
  AsNew : open_of old client file ≡ None → length (opens_of old client) < 64 → (old.last ≡ 4294967295 → ⊥) → o ≡ record { file = file; number = old.last + 1; seqid = 1 }
      → HasOpens old client (opens_of old client ++ o ∷ []) new → new.last ≡ old.last + 1 → Came old client file o new

-- no fault without an open of the file: there is room, and a number
no_fault : (a b : Bool) → cond a (cond b (Some Spent) None) (Some TooMany) ≡ None → (a ≡ true) × (b ≡ false)
no_fault true true none = absurd cc
no_fault true false none = (refl, refl)
no_fault false b none = absurd cc

same_ok : (x y : Open) (r : Result Open OpenFault) → r ≡ Ok x → r ≡ Ok y → x ≡ y
same_ok x y r one other = cc (one, other)

came_at : (old : OpensValue) (client : ℕ) (file : FileId) (o : Open) (new : OpensValue) (found : Option Open) → open_of old client file ≡ found
    → fault_at found (length (opens_of old client)) old.last ≡ None → HasOpens old client (opens_with found (given found file old.last) (opens_of old client)) new
    → new.last ≡ last_with found old.last → given found file old.last ≡ o → Came old client file o new
came_at old client file o new (Some was) is none has last does =
    AsBefore was is (sym does) (subst (λ x. HasOpens old client (map (in_place x) (opens_of old client)) new) does has) last
came_at old client file o new None is none has last does =
    let free = no_fault (nat_lt (length (opens_of old client)) 64) (eqb old.last 4294967295) none in
    AsNew is (ltb-true _ _ free.0) (eqb-false _ _ free.1) (sym does) (subst (λ (x : Open). HasOpens old client (opens_of old client ++ x ∷ []) new) does has) last

pub came : (old : OpensValue) (client : ℕ) (file : FileId) (r : Result Open OpenFault) (new : OpensValue) → Opens old client file r new → (o : Open) → r ≡ Ok o → Came old client file o new
came old client file r new (Gives none) o is = came_at old client file o new (open_of old client file) refl none (opened_has old client file) refl (same_ok _ o _ refl is)
came old client file r new (Refuses fault why) o is = absurd (cc (is))
came old client file r new (Wants e) o is = absurd (cc (is))

pub stayed : (old : OpensValue) (client : ℕ) (file : FileId) (r : Result Open OpenFault) (new : OpensValue) → Opens old client file r new → (fault : OpenFault) → r ≡ Err fault → new ≡ old
stayed old client file r new (Gives none) fault is = absurd (cc (is))
stayed old client file r new (Refuses f why) fault is = refl
stayed old client file r new (Wants e) fault is = refl
