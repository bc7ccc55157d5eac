-- What the code's table keeps when a record is changed, put to it and taken out.
use Rattle.std.proofs.Common.{◌≡◌, ℕ, zero, suc, ◌+◌, ◌<◌, ◌≤◌, false, List, [], ◌∷◌, ◌++◌, length, set, map, Some, refl, sym, ap, ◌∙◌, arith, subst}
use Rattle.std.specs.Prelude.{slice_get, remove}
use Rattle.std.specs.List.{AllByRecursion, list_any}
use Rattle.std.proofs.lemmas.Bool.{ne_eqb}
use Rattle.std.proofs.lemmas.Option.{same_Some}
use Rattle.std.proofs.Math.Dec.{eqb}
use Rattle.std.proofs.lemmas.List.{length-map}
use Rattle.nfs4_session.specs.Clients.{ClientState, client_id, is_owned_by}
use Rattle.nfs4_session.specs.ExchangeIds.{known_owners}
use Rattle.nfs4_session.specs.Standing.{IsStanding}
use Rattle.nfs4_session.proofs.Known.{owners_of, is_owner, counted, distinct, owned_is, known_is, distinct_le, distinct_remove, distinct_push}

pub map_push : {X Y : Type 0} (g : X → Y) (xs : List X) (x : X) → map g (xs ++ x ∷ []) ≡ map g xs ++ g x ∷ []
map_push g [] x = refl
map_push g (y ∷ xs) x = ap (λ ys. g y ∷ ys) (map_push g xs x)

pub map_remove : {X Y : Type 0} (g : X → Y) (xs : List X) (i : ℕ) → map g (remove xs i) ≡ remove (map g xs) i
map_remove g [] zero = refl
map_remove g [] (suc i) = refl
map_remove g (x ∷ xs) zero = refl
map_remove g (x ∷ xs) (suc i) = ap (λ ys. g x ∷ ys) (map_remove g xs i)

pub map_at : {X Y : Type 0} (g : X → Y) (xs : List X) (i : ℕ) (x : X) → slice_get xs i ≡ Some x → slice_get (map g xs) i ≡ Some (g x)
map_at g [] i x at = absurd (cc (at))
map_at g (y ∷ xs) zero x at = ap (λ z. Some (g z)) (same_Some y x at)
map_at g (y ∷ xs) (suc i) x at = map_at g xs i x at

all_remove : {X : Type 0} (P : X → Type 0) (xs : List X) (i : ℕ) → AllByRecursion P xs → AllByRecursion P (remove xs i)
all_remove P [] zero all = tt
all_remove P [] (suc i) all = tt
all_remove P (x ∷ xs) zero all = all.1
all_remove P (x ∷ xs) (suc i) all = (all.0, all_remove P xs i all.1)

all_weaker : {X : Type 0} (P Q : X → Type 0) → ((x : X) → P x → Q x) → (xs : List X) → AllByRecursion P xs → AllByRecursion Q xs
all_weaker P Q f [] all = tt
all_weaker P Q f (x ∷ xs) all = (f x all.0, all_weaker P Q f xs all.1)

all_push : {X : Type 0} (P : X → Type 0) (xs : List X) (x : X) → AllByRecursion P xs → P x → AllByRecursion P (xs ++ x ∷ [])
all_push P [] x all is = (is, tt)
all_push P (y ∷ xs) x all is = (all.0, all_push P xs x all.1 is)

-- an id above all others is a new one
pub is_new : (n id : ℕ) (ks : List ℕ) → AllByRecursion (λ k. k ≤ n) ks → n < id → list_any (eqb id) ks ≡ false
is_new n id [] all above = refl
is_new n id (k ∷ ks) all above = let low = all.0 in rw (ne_eqb id k (λ same. omega (arith, low, same, above))) (is_new n id ks all.1 above)

map_set : {X Y : Type 0} (g : X → Y) (xs : List X) (i : ℕ) (x new : X) → slice_get xs i ≡ Some x → g new ≡ g x → map g (set xs i new) ≡ map g xs
map_set g [] i x new at same = absurd (cc (at))
map_set g (y ∷ xs) zero x new at same = ap (λ z. z ∷ map g xs) (same ∙ ap g (sym (same_Some y x at)))
map_set g (y ∷ xs) (suc i) x new at same = ap (λ zs. g y ∷ zs) (map_set g xs i x new at same)

-- a record was changed, and its id and its owner stay
pub kept_set : (keys : List ℕ) (cs : List ClientState) (boot given known place : ℕ) (x new : ClientState)
    → slice_get cs place ≡ Some x → new.id ≡ x.id → new.owner ≡ x.owner
    → IsStanding keys cs boot given known → IsStanding keys (set cs place new) boot given known
kept_set keys cs boot given known place x new at id owner stands = record {
  ids = stands.ids ∙ sym (map_set (λ c. c.id) cs place x new at id);
  below = stands.below;
  owners = stands.owners ∙ known_is cs ∙ ap distinct (sym (map_set (λ c. c.owner) cs place x new at owner)) ∙ sym (known_is (set cs place new));
}

-- how many owners are known when a record is taken out
pub left_is : (keys : List ℕ) (cs : List ClientState) (boot given known : ℕ) (place : ℕ) (c : ClientState)
    → slice_get cs place ≡ Some c → IsStanding keys cs boot given known → known ≡ known_owners (remove cs place) + counted (list_any (is_owned_by c.owner) (remove cs place))
left_is keys cs boot given known place c at stands =
    let before : distinct (owners_of cs) ≡ distinct (remove (owners_of cs) place) + counted (is_owner c.owner (remove (owners_of cs) place)) =
    distinct_remove (owners_of cs) place c.owner (map_at (λ c. c.owner) cs place c at) in
    let moved : owners_of (remove cs place) ≡ remove (owners_of cs) place = map_remove (λ c. c.owner) cs place in
    let known_before : known ≡ distinct (owners_of cs) = stands.owners ∙ known_is cs in
    let after : known_owners (remove cs place) ≡ distinct (remove (owners_of cs) place) = known_is (remove cs place) ∙ ap distinct moved in
    let same : counted (list_any (is_owned_by c.owner) (remove cs place)) ≡ counted (is_owner c.owner (remove (owners_of cs) place)) =
    ap counted (owned_is c.owner (remove cs place) ∙ ap (is_owner c.owner) moved) in
    omega (arith, before, known_before, after, same)

pub kept_removed : (keys : List ℕ) (cs : List ClientState) (boot given known : ℕ) (place : ℕ)
    → IsStanding keys cs boot given known → IsStanding (remove keys place) (remove cs place) boot given (known_owners (remove cs place))
kept_removed keys cs boot given known place stands = record {
  ids = ap (λ ks. remove ks place) stands.ids ∙ sym (map_remove (λ c. c.id) cs place);
  below = all_remove (λ id. id ≤ client_id boot given) keys place stands.below;
  owners = refl;
}

pub known_le : (cs : List ClientState) → known_owners cs ≤ length cs
known_le cs = let low = distinct_le (owners_of cs) in omega (arith, low, known_is cs, length-map cs (λ (c : ClientState). c.owner))

pub kept_added : (keys : List ℕ) (cs : List ClientState) (boot given known : ℕ) (c : ClientState) (more : ℕ)
    → c.id ≡ client_id boot (given + 1) → more ≡ known + counted (is_owner c.owner (owners_of cs))
    → IsStanding keys cs boot given known → IsStanding (keys ++ c.id ∷ []) (cs ++ c ∷ []) boot (given + 1) more
kept_added keys cs boot given known c more id one stands = record {
  ids = ap (λ ks. ks ++ c.id ∷ []) stands.ids ∙ sym (map_push (λ c. c.id) cs c);
  below = all_push (λ id. id ≤ client_id boot (given + 1)) keys c.id
      (all_weaker (λ id. id ≤ client_id boot given) (λ id. id ≤ client_id boot (given + 1)) (λ k low. omega (arith, low)) keys stands.below) (omega (arith, id));
  owners =
      let known_before : known ≡ distinct (owners_of cs) = stands.owners ∙ known_is cs in
      let after : known_owners (cs ++ c ∷ []) ≡ distinct (owners_of cs) + counted (is_owner c.owner (owners_of cs)) =
      known_is (cs ++ c ∷ []) ∙ ap distinct (map_push (λ c. c.owner) cs c) ∙ distinct_push (owners_of cs) c.owner in
      omega (arith, known_before, after, one);
}

-- the same table
pub stands_as : (keys keys' : List ℕ) (cs cs' : List ClientState) (boot given known known' : ℕ) → keys ≡ keys' → cs ≡ cs' → known ≡ known'
    → IsStanding keys' cs' boot given known' → IsStanding keys cs boot given known
stands_as keys keys' cs cs' boot given known known' ks same n stands =
    subst (λ m. IsStanding keys cs boot given m) (sym n) (subst (λ l. IsStanding keys l boot given known') (sym same) (subst (λ k. IsStanding k cs' boot given known') (sym ks) stands))
