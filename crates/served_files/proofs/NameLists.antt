-- Names in a list.
use Rattle.std.proofs.Common.{◌≡◌, ℕ, ◌+◌, ◌≤◌, Bool, true, false, cond, ltb, List, [], ◌∷◌, ◌++◌, length, map, Option, Some, None, refl, ap, ◌∙◌, arith}
use Rattle.std.specs.Prelude.{not, position, bytes_eq, ◌||◌}
use Rattle.std.specs.List.{list_any, prefix_len, position_or_len}
use Rattle.std.proofs.lemmas.Bool.{ltb-false}
use Rattle.std.proofs.lemmas.List.{length-map}
use Rattle.mds_rule.specs.MdsStates.{ServedFile, has_name, file_in_place, named_among}

-- where an item stands by what it becomes
prefix_len-map : {X Y : Type 0} (q : Y → Bool) (f : X → Y) (xs : List X) → prefix_len q (map f xs) ≡ prefix_len (λ x. q (f x)) xs
prefix_len-map q f [] = refl
prefix_len-map q f (x ∷ xs) = ap (λ n. cond (q (f x)) (1 + n) 0) (prefix_len-map q f xs)

pub position-map : {X Y : Type 0} (p : Y → Bool) (f : X → Y) (xs : List X) → position p (map f xs) ≡ position (λ x. p (f x)) xs
position-map p f xs =
    ap (λ n. cond (ltb n (length (map f xs))) (Some n) None) (prefix_len-map (λ y. not (p y)) f xs)
    ∙ ap (λ m. cond (ltb (position_or_len (λ x. p (f x)) xs) m) (Some (position_or_len (λ x. p (f x)) xs)) None) (length-map xs f)

-- none stands there
all_pass : {X : Type 0} (p : X → Bool) (xs : List X) → length xs ≤ prefix_len (λ x. not (p x)) xs → list_any p xs ≡ false
all_pass p [] h = refl
all_pass p (x ∷ xs) h = by_case (p x) (prefix_len (λ y. not (p y)) xs) (list_any p xs) h (all_pass p xs)
  where
    by_case : (b : Bool) (n : ℕ) (rest : Bool) → length (x ∷ xs) ≤ cond (not b) (1 + n) 0 → (length xs ≤ n → rest ≡ false) → (b || rest) ≡ false
    by_case true n rest h others = absurd (omega (arith, h))
    by_case false n rest h others = others (omega (arith, h))

is_none : (b : Bool) (n : ℕ) → cond b (Some n) None ≡ None → b ≡ false
is_none true n e = absurd (cc)
is_none false n e = refl

pub none_there : {X : Type 0} (p : X → Bool) (xs : List X) → position p xs ≡ None → list_any p xs ≡ false
none_there p xs e = all_pass p xs (ltb-false _ _ (is_none (ltb (position_or_len p xs) (length xs)) (position_or_len p xs) e))

pub map-push : {X Y : Type 0} (f : X → Y) (xs : List X) (x : X) → map f (xs ++ x ∷ []) ≡ map f xs ++ f x ∷ []
map-push f [] x = refl
map-push f (y ∷ xs) x = ap (λ ys. f y ∷ ys) (map-push f xs x)

-- the file of a name, by the place of the name
pub named_is : (names : List (List ℕ)) (files now : List ServedFile) (name : List ℕ) (o : Option ℕ) → names ≡ map (λ (f : ServedFile). f.name) files → files ≡ now → o ≡ position (bytes_eq name) names → file_in_place o ≡ named_among now name
named_is names files now name o are seen is =
    ap file_in_place (is ∙ ap (position (bytes_eq name)) are ∙ position-map (bytes_eq name) (λ (f : ServedFile). f.name) files ∙ ap (position (has_name name)) seen)

pub absent_is : (o : Option ℕ) → file_in_place o ≡ None → o ≡ None
absent_is None is = refl
absent_is (Some n) is = absurd (cc)
