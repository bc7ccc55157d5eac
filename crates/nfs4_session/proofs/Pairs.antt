-- What holds of each element of a list and of each two of them, by recursion.
use Rattle.std.proofs.Common.{◌≡◌, zero, suc, ◌+◌, ◌≤◌, Bool, true, false, List, [], ◌∷◌, ◌++◌, length, map, Some, refl, sym, ap, ◌∙◌, subst, arith}
use Rattle.std.specs.Prelude.{◌||◌, if◌then◌else◌}
use Rattle.std.specs.List.{All, AllPairs, AllByRecursion, find, list_any}
use Rattle.std.proofs.lemmas.Option.{same_Some}
use Rattle.nfs4_session.specs.Clients.{change_first, remove_first}

abbrev pub Pairs : {X : Type 0} → (X → X → Type 0) → List X → Type 0
Pairs R [] = Unit {0}
Pairs R (x ∷ xs) = AllByRecursion (R x) xs × Pairs R xs

pub all_of : {X : Type 0} (P : X → Type 0) (xs : List X) → AllByRecursion P xs → All P xs
all_of P [] all k d within = absurd (omega (arith, within))
all_of P (x ∷ xs) all zero d within = all.0
all_of P (x ∷ xs) all (suc k) d within = all_of P xs all.1 k d (omega (arith, within))

pub pairs_of : {X : Type 0} (R : X → X → Type 0) (xs : List X) → Pairs R xs → AllPairs R xs
pairs_of R [] pairs i j d less within = absurd (omega (arith, within))
pairs_of R (x ∷ xs) pairs i zero d less within = absurd (omega (arith, less))
pairs_of R (x ∷ xs) pairs zero (suc j) d less within = all_of (R x) xs pairs.0 j d (omega (arith, within))
pairs_of R (x ∷ xs) pairs (suc i) (suc j) d less within = pairs_of R xs pairs.1 i j d (omega (arith, less)) (omega (arith, within))

pub all_map : {X : Type 0} (P Q : X → Type 0) → ((x : X) → P x → Q x) → (xs : List X) → AllByRecursion P xs → AllByRecursion Q xs
all_map P Q f [] all = tt
all_map P Q f (x ∷ xs) all = (f x all.0, all_map P Q f xs all.1)

pub all_both : {X : Type 0} (P Q S : X → Type 0) → ((x : X) → P x → Q x → S x) → (xs : List X) → AllByRecursion P xs → AllByRecursion Q xs → AllByRecursion S xs
all_both P Q S f [] all more = tt
all_both P Q S f (x ∷ xs) all more = (f x all.0 more.0, all_both P Q S f xs all.1 more.1)

pub all_push : {X : Type 0} (P : X → Type 0) (xs : List X) (x : X) → AllByRecursion P xs → P x → AllByRecursion P (xs ++ x ∷ [])
all_push P [] x all is = (is, tt)
all_push P (y ∷ xs) x all is = (all.0, all_push P xs x all.1 is)

pub pairs_push : {X : Type 0} (R : X → X → Type 0) (xs : List X) (x : X) → Pairs R xs → AllByRecursion (λ y. R y x) xs → Pairs R (xs ++ x ∷ [])
pairs_push R [] x pairs all = (tt, tt)
pairs_push R (y ∷ xs) x pairs all = (all_push (R y) xs x pairs.0 all.0, pairs_push R xs x pairs.1 all.1)

module _ {X : Type 0} (test : X → Bool) where
  pub all_remove : (P : X → Type 0) (xs : List X) → AllByRecursion P xs → AllByRecursion P (remove_first test xs)
  all_remove P [] all = tt
  all_remove P (x ∷ xs) all = by_case (test x) (all_remove P xs all.1)
    where
      by_case : (b : Bool) → AllByRecursion P (remove_first test xs) → AllByRecursion P (if b then xs else x ∷ remove_first test xs)
      by_case true rest = all.1
      by_case false rest = (all.0, rest)

  pub pairs_remove : (R : X → X → Type 0) (xs : List X) → Pairs R xs → Pairs R (remove_first test xs)
  pairs_remove R [] pairs = tt
  pairs_remove R (x ∷ xs) pairs = by_case (test x) (pairs_remove R xs pairs.1)
    where
      by_case : (b : Bool) → Pairs R (remove_first test xs) → Pairs R (if b then xs else x ∷ remove_first test xs)
      by_case true rest = pairs.1
      by_case false rest = (all_remove (R x) xs pairs.0, rest)

  pub all_change : (P : X → Type 0) (f : X → X) → ((x : X) → P x → P (f x)) → (xs : List X) → AllByRecursion P xs → AllByRecursion P (change_first test f xs)
  all_change P f keeps [] all = tt
  all_change P f keeps (x ∷ xs) all = by_case (test x) (all_change P f keeps xs all.1)
    where
      by_case : (b : Bool) → AllByRecursion P (change_first test f xs) → AllByRecursion P (if b then f x ∷ xs else x ∷ change_first test f xs)
      by_case true rest = (keeps x all.0, all.1)
      by_case false rest = (all.0, rest)

  pub pairs_change : (R : X → X → Type 0) (f : X → X) → ((x y : X) → R x y → R (f x) y) → ((x y : X) → R x y → R x (f y)) → (xs : List X) → Pairs R xs → Pairs R (change_first test f xs)
  pairs_change R f first second [] pairs = tt
  pairs_change R f first second (x ∷ xs) pairs = by_case (test x) (pairs_change R f first second xs pairs.1)
    where
      by_case : (b : Bool) → Pairs R (change_first test f xs) → Pairs R (if b then f x ∷ xs else x ∷ change_first test f xs)
      by_case true rest = (all_map (R x) (R (f x)) (first x) xs pairs.0, pairs.1)
      by_case false rest = (all_change (R x) f (second x) xs pairs.0, rest)

  -- of the one that is found
  pub all_find : (P : X → Type 0) (xs : List X) (c : X) → find test xs ≡ Some c → AllByRecursion P xs → P c
  all_find P [] c is all = absurd (cc (is))
  all_find P (x ∷ xs) c is all = by_case (test x) is (λ rest. all_find P xs c rest all.1)
    where
      by_case : (b : Bool) → (if b then Some x else find test xs) ≡ Some c → (find test xs ≡ Some c → P c) → P c
      by_case true is rest = subst P (same_Some x c is) all.0
      by_case false is rest = rest is

  -- only the one that is found is changed
  pub all_change_found : (P : X → Type 0) (f : X → X) (xs : List X) (c : X) → find test xs ≡ Some c → AllByRecursion P xs → P (f c) → AllByRecursion P (change_first test f xs)
  all_change_found P f [] c is all new = absurd (cc (is))
  all_change_found P f (x ∷ xs) c is all new = by_case (test x) is (λ rest. all_change_found P f xs c rest all.1 new)
    where
      by_case : (b : Bool) → (if b then Some x else find test xs) ≡ Some c → (find test xs ≡ Some c → AllByRecursion P (change_first test f xs)) → AllByRecursion P (if b then f x ∷ xs else x ∷ change_first test f xs)
      by_case true is rest = (subst (λ y. P (f y)) (sym (same_Some x c is)) new, all.1)
      by_case false is rest = (all.0, rest is)

  pub pairs_change_found : (R Q : X → X → Type 0) (P : X → Type 0) (f : X → X) (c : X) → ((b : X) → Q c b → P b → R (f c) b) → ((b : X) → Q b c → P b → R b (f c))
      → (xs : List X) → find test xs ≡ Some c → Pairs R xs → Pairs Q xs → AllByRecursion P xs → Pairs R (change_first test f xs)
  pairs_change_found R Q P f c first second [] is pairs others all = absurd (cc (is))
  pairs_change_found R Q P f c first second (x ∷ xs) is pairs others all = by_case (test x) is (λ rest. pairs_change_found R Q P f c first second xs rest pairs.1 others.1 all.1)
    where
      by_case : (b : Bool) → (if b then Some x else find test xs) ≡ Some c → (find test xs ≡ Some c → Pairs R (change_first test f xs)) → Pairs R (if b then f x ∷ xs else x ∷ change_first test f xs)
      by_case true is rest =
          let same : x ≡ c = same_Some x c is in
          (subst (λ y. AllByRecursion (R (f y)) xs) (sym same) (all_both (Q c) P (R (f c)) first xs (subst (λ y. AllByRecursion (Q y) xs) same others.0) all.1), pairs.1)
      by_case false is rest =
          let ahead : Q x c = all_find (Q x) xs c is others.0 in
          (all_change_found (R x) f xs c is pairs.0 (second x ahead all.0), rest is)

  -- where at most one passes, none does once the first is taken out
  pub none_left : (R : X → X → Type 0) → ((x y : X) → R x y → test x ≡ true → test y ≡ false) → (xs : List X) → Pairs R xs → AllByRecursion (λ x. test x ≡ false) (remove_first test xs)
  none_left R apart [] pairs = tt
  none_left R apart (x ∷ xs) pairs = by_case (test x) refl (none_left R apart xs pairs.1)
    where
      by_case : (b : Bool) → test x ≡ b → AllByRecursion (λ x. test x ≡ false) (remove_first test xs) → AllByRecursion (λ x. test x ≡ false) (if b then xs else x ∷ remove_first test xs)
      by_case true is rest = all_map (R x) (λ y. test y ≡ false) (λ y r. apart x y r is) xs pairs.0
      by_case false is rest = (is, rest)

  pub none_pass : (xs : List X) → list_any test xs ≡ false → AllByRecursion (λ x. test x ≡ false) xs
  none_pass [] is = tt
  none_pass (x ∷ xs) is = by_case (test x) refl (list_any test xs) refl is (λ rest. none_pass xs rest)
    where
      by_case : (a : Bool) → test x ≡ a → (b : Bool) → list_any test xs ≡ b → (a || b) ≡ false → (list_any test xs ≡ false → AllByRecursion (λ x. test x ≡ false) xs) → AllByRecursion (λ x. test x ≡ false) (x ∷ xs)
      by_case true first b rest is others = absurd (cc (is))
      by_case false first true rest is others = absurd (cc (is))
      by_case false first false rest is others = (first, others rest)

  -- the others differ from the one that is taken out
  pub apart_from : (R : X → X → Type 0) → ((x y : X) → R x y → R y x) → (xs : List X) (c : X) → find test xs ≡ Some c → Pairs R xs → AllByRecursion (λ x. R x c) (remove_first test xs)
  apart_from R turned [] c is pairs = absurd (cc (is))
  apart_from R turned (x ∷ xs) c is pairs = by_case (test x) is (λ rest. apart_from R turned xs c rest pairs.1)
    where
      by_case : (b : Bool) → (if b then Some x else find test xs) ≡ Some c → (find test xs ≡ Some c → AllByRecursion (λ y. R y c) (remove_first test xs)) → AllByRecursion (λ y. R y c) (if b then xs else x ∷ remove_first test xs)
      by_case true is rest = subst (λ z. AllByRecursion (λ y. R y z) xs) (same_Some x c is) (all_map (R x) (λ y. R y x) (turned x) xs pairs.0)
      by_case false is rest = (all_find (R x) xs c is pairs.0, rest is)

  pub length_remove : (xs : List X) → length (remove_first test xs) ≤ length xs
  length_remove [] = omega arith
  length_remove (x ∷ xs) = by_case (test x) (length_remove xs)
    where
      by_case : (b : Bool) → length (remove_first test xs) ≤ length xs → length (if b then xs else x ∷ remove_first test xs) ≤ suc (length xs)
      by_case true rest = omega arith
      by_case false rest = omega (arith, rest)

  pub length_taken : (xs : List X) (c : X) → find test xs ≡ Some c → length (remove_first test xs) + 1 ≡ length xs
  length_taken [] c is = absurd (cc (is))
  length_taken (x ∷ xs) c is = by_case (test x) is (λ rest. length_taken xs c rest)
    where
      by_case : (b : Bool) → (if b then Some x else find test xs) ≡ Some c → (find test xs ≡ Some c → length (remove_first test xs) + 1 ≡ length xs) → length (if b then xs else x ∷ remove_first test xs) + 1 ≡ suc (length xs)
      by_case true is rest = omega arith
      by_case false is rest = omega (arith, rest is)

  pub map_changed : {Y : Type 0} (g : X → Y) (f : X → X) → ((x : X) → g (f x) ≡ g x) → (xs : List X) → map g (change_first test f xs) ≡ map g xs
  map_changed g f same [] = refl
  map_changed g f same (x ∷ xs) = by_case (test x) (map_changed g f same xs)
    where
      by_case : (b : Bool) → map g (change_first test f xs) ≡ map g xs → map g (if b then f x ∷ xs else x ∷ change_first test f xs) ≡ map g (x ∷ xs)
      by_case true rest = ap (λ y. y ∷ map g xs) (same x)
      by_case false rest = ap (λ ys. g x ∷ ys) rest

-- another test keeps what it finds
pub find_left : {X : Type 0} (h t : X → Bool) (xs : List X) (c : X) → find h xs ≡ Some c → t c ≡ false → find h (remove_first t xs) ≡ Some c
find_left h t [] c is stays = is
find_left h t (x ∷ xs) c is stays = by_case (h x) refl (t x) refl is (find_left h t xs c)
  where
    by_case : (a : Bool) → h x ≡ a → (b : Bool) → t x ≡ b → (if a then Some x else find h xs) ≡ Some c → (find h xs ≡ Some c → t c ≡ false → find h (remove_first t xs) ≡ Some c)
        → find h (if b then xs else x ∷ remove_first t xs) ≡ Some c
    by_case true first true second is rest = let gone : t c ≡ true = ap t (sym (same_Some x c is)) ∙ second in absurd (cc (gone, stays))
    by_case false first true second is rest = is
    by_case true first false second is rest = ap (λ a. if a then Some x else find h (remove_first t xs)) first ∙ is
    by_case false first false second is rest = ap (λ a. if a then Some x else find h (remove_first t xs)) first ∙ rest is stays

pub found_passes : {X : Type 0} (test : X → Bool) (xs : List X) (c : X) → find test xs ≡ Some c → test c ≡ true
found_passes test [] c is = absurd (cc (is))
found_passes test (x ∷ xs) c is = by_case (test x) refl is (found_passes test xs c)
  where
    by_case : (b : Bool) → test x ≡ b → (if b then Some x else find test xs) ≡ Some c → (find test xs ≡ Some c → test c ≡ true) → test c ≡ true
    by_case true passes is rest = ap test (sym (same_Some x c is)) ∙ passes
    by_case false fails is rest = rest is

pub found_any : {X : Type 0} (test : X → Bool) (xs : List X) → list_any test xs ≡ true → (c : X) × (find test xs ≡ Some c) × (test c ≡ true)
found_any test [] is = absurd (cc (is))
found_any {X = X} test (x ∷ xs) is = by_case (test x) refl (list_any test xs) refl is (λ rest. found_any test xs rest)
  where
    by_case : (a : Bool) → test x ≡ a → (b : Bool) → list_any test xs ≡ b → (a || b) ≡ true → (list_any test xs ≡ true → (c : X) × (find test xs ≡ Some c) × (test c ≡ true)) → (c : X) × ((if a then Some x else find test xs) ≡ Some c) × (test c ≡ true)
    by_case true first b rest is others = (x, refl, first)
    by_case false first true rest is others = others rest
    by_case false first false rest is others = absurd (cc (is))
