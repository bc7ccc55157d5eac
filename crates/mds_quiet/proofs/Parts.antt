-- Lists that are part of others, in their order; and the places that a part of the live list has in it.
use Rattle.std.proofs.Common.{◌≡◌, ◌≢◌, ◌≤◌, ◌⊎◌, inl, inr, ℕ, zero, suc, ◌+◌, Bool, true, false, cond, List, [], ◌∷◌, length, map, filter, drop, set, Some, refl, sym, ap, subst, ◌∙◌, arith}
use Rattle.std.specs.Prelude.{◌==◌, ◌||◌, not, slice_get}
use Rattle.std.specs.List.{AllByRecursion, position_from}
use Rattle.std.proofs.lemmas.Bool.{and_parts, eq-eqb, eqb-true}
use Rattle.std.proofs.lemmas.Option.{none-some, same_Some}
use Rattle.cluster_model.specs.declared.ids.Mirror.{Mirror}
use Rattle.cluster_model.specs.declared.ids.MirrorId.{MirrorId}
use Rattle.cluster_model.specs.Journal.{is_mirror}
use Rattle.cluster_model.specs.Mirrors.{has_server, are_on_different_servers}
use Rattle.cluster_model.specs.Phases.{but_for}
use Rattle.mds_rule.specs.Goes.{place_or_last}
use Rattle.mds_quiet.specs.Resting.{PlacesRise}
use Rattle.mds_quiet.proofs.FileOuts.{off_on}

-- ---- a part of a list

abbrev pub IsPart : {A : Type 0} → List A → List A → Type 0
IsPart [] ys = Unit {0}
IsPart (x ∷ xs) [] = ⊥
IsPart (x ∷ xs) (y ∷ ys) = ((x ≡ y) × IsPart xs ys) ⊎ IsPart (x ∷ xs) ys

pub part_more : {A : Type 0} (xs : List A) (y : A) (ys : List A) → IsPart xs ys → IsPart xs (y ∷ ys)
part_more [] y ys part = tt
part_more (x ∷ xs) y ys part = inr part

pub part_itself : {A : Type 0} (xs : List A) → IsPart xs xs
part_itself [] = tt
part_itself (x ∷ xs) = inl (refl, part_itself xs)

-- without its first
pub part_less : {A : Type 0} (x : A) (xs ys : List A) → IsPart (x ∷ xs) ys → IsPart xs ys
part_less x xs [] part = absurd part
part_less x xs (y ∷ ys) (inl both) = part_more xs y ys both.1
part_less x xs (y ∷ ys) (inr rest) = part_more xs y ys (part_less x xs ys rest)

pub part_of_part : {A : Type 0} (xs ys zs : List A) → IsPart xs ys → IsPart ys zs → IsPart xs zs
part_of_part [] ys zs first second = tt
part_of_part (x ∷ xs) [] zs first second = absurd first
part_of_part (x ∷ xs) (y ∷ ys) [] first second = absurd second
part_of_part (x ∷ xs) (y ∷ ys) (z ∷ zs) (inl here) (inl there) = inl (here.0 ∙ there.0, part_of_part xs ys zs here.1 there.1)
part_of_part (x ∷ xs) (y ∷ ys) (z ∷ zs) (inr later) (inl there) = inr (part_of_part (x ∷ xs) ys zs later there.1)
part_of_part (x ∷ xs) (y ∷ ys) (z ∷ zs) first (inr later) = inr (part_of_part (x ∷ xs) (y ∷ ys) zs first later)

pub part_map : {A B : Type 0} (f : A → B) (xs ys : List A) → IsPart xs ys → IsPart (map f xs) (map f ys)
part_map f [] ys part = tt
part_map f (x ∷ xs) [] part = absurd part
part_map f (x ∷ xs) (y ∷ ys) (inl both) = inl (ap f both.0, part_map f xs ys both.1)
part_map f (x ∷ xs) (y ∷ ys) (inr rest) = inr (part_map f (x ∷ xs) ys rest)

-- those that pass a test, of both
pub part_filter : {A : Type 0} (p : A → Bool) (xs ys : List A) → IsPart xs ys → IsPart (filter p xs) (filter p ys)
part_filter p [] ys part = tt
part_filter p (x ∷ xs) [] part = absurd part
part_filter {A = A} p (x ∷ xs) (y ∷ ys) (inl both) =
    subst (λ (z : A). IsPart (cond (p x) (x ∷ filter p xs) (filter p xs)) (cond (p z) (z ∷ filter p ys) (filter p ys))) both.0 (by_test (p x) (part_filter p xs ys both.1))
  where
    by_test : (b : Bool) → IsPart (filter p xs) (filter p ys) → IsPart (cond b (x ∷ filter p xs) (filter p xs)) (cond b (x ∷ filter p ys) (filter p ys))
    by_test true rest = inl (refl, rest)
    by_test false rest = rest
part_filter {A = A} p (x ∷ xs) (y ∷ ys) (inr part) = by_test (p y) (part_filter p (x ∷ xs) ys part)
  where
    by_test : (b : Bool) → IsPart (filter p (x ∷ xs)) (filter p ys) → IsPart (filter p (x ∷ xs)) (cond b (y ∷ filter p ys) (filter p ys))
    by_test true rest = part_more (filter p (x ∷ xs)) y (filter p ys) rest
    by_test false rest = rest

-- those that pass the narrower test
pub part_narrow : {A : Type 0} (p q : A → Bool) → ((x : A) → p x ≡ true → q x ≡ true) → (xs : List A) → IsPart (filter p xs) (filter q xs)
part_narrow p q less [] = tt
part_narrow {A = A} p q less (x ∷ xs) = by_test (p x) (q x) (less x) (part_narrow p q less xs)
  where
    by_test : (a b : Bool) → (a ≡ true → b ≡ true) → IsPart (filter p xs) (filter q xs) → IsPart (cond a (x ∷ filter p xs) (filter p xs)) (cond b (x ∷ filter q xs) (filter q xs))
    by_test true true so rest = inl (refl, rest)
    by_test true false so rest = absurd (off_on (so refl))
    by_test false true so rest = part_more (filter p xs) x (filter q xs) rest
    by_test false false so rest = rest

pub part_length : {A : Type 0} (xs ys : List A) → IsPart xs ys → length xs ≤ length ys
part_length [] ys part = omega arith
part_length (x ∷ xs) [] part = absurd part
part_length (x ∷ xs) (y ∷ ys) (inl both) = let rest = part_length xs ys both.1 in omega (arith, rest)
part_length (x ∷ xs) (y ∷ ys) (inr part) = let rest = part_length (x ∷ xs) ys part in omega (arith, rest)

pub part_drop : {A : Type 0} (xs : List A) → IsPart (drop 1 xs) xs
part_drop [] = tt
part_drop (x ∷ xs) = part_more xs x xs (part_itself xs)

-- an element is put back as another of the same key, where the old one passed the test
pub part_set : {A B : Type 0} (key : A → B) (p : A → Bool) (xs : List A) (place : ℕ) (x new : A) → slice_get xs place ≡ Some x → key new ≡ key x → p x ≡ true → IsPart (map key (filter p (set xs place new))) (map key (filter p xs))
part_set key p [] place x new at same passes = absurd (none-some x at)
part_set {A = A} key p (y ∷ xs) zero x new at same passes =
    let first : y ≡ x = same_Some y x at in
    subst (λ (b : Bool). IsPart (map key (cond (p new) (new ∷ filter p xs) (filter p xs))) (map key (cond b (y ∷ filter p xs) (filter p xs)))) (sym (ap p first ∙ passes)) (by_test (p new) (same ∙ ap key (sym first)))
  where
    by_test : (b : Bool) → key new ≡ key y → IsPart (map key (cond b (new ∷ filter p xs) (filter p xs))) (key y ∷ map key (filter p xs))
    by_test true one = inl (one, part_itself (map key (filter p xs)))
    by_test false one = part_more (map key (filter p xs)) (key y) (map key (filter p xs)) (part_itself (map key (filter p xs)))
part_set {A = A} key p (y ∷ xs) (suc place) x new at same passes = by_test (p y) (part_set key p xs place x new at same passes)
  where
    by_test : (b : Bool) → IsPart (map key (filter p (set xs place new))) (map key (filter p xs)) → IsPart (map key (cond b (y ∷ filter p (set xs place new)) (filter p (set xs place new)))) (map key (cond b (y ∷ filter p xs) (filter p xs)))
    by_test true rest = inl (refl, rest)
    by_test false rest = rest

-- ---- of the servers of live mirrors

abbrev pub servers_of : List Mirror → List ℕ
servers_of live = map (λ (m : Mirror). m.id.server) live

or_on : (a b : Bool) → b ≡ true → (a || b) ≡ true
or_on true b is = refl
or_on false b is = is

-- the first of a part is one of them
part_there : (n : ℕ) (ns : List ℕ) (live : List Mirror) → IsPart (n ∷ ns) (servers_of live) → has_server live n ≡ true
part_there n ns [] part = absurd part
part_there n ns (m ∷ live) (inl both) = ap (λ (b : Bool). b || has_server live n) (eq-eqb m.id.server n (sym both.0))
part_there n ns (m ∷ live) (inr part) = or_on (m.id.server == n) (has_server live n) (part_there n ns live part)

-- where none of it is on the server of a mirror that leaves, it is still one
pub part_without : (id : MirrorId) (ns : List ℕ) (live : List Mirror) → AllByRecursion (λ (n : ℕ). n ≢ id.server) ns → IsPart ns (servers_of live) → IsPart ns (servers_of (but_for id live))
part_without id [] live other part = tt
part_without id (n ∷ ns) [] other part = absurd part
part_without id (n ∷ ns) (m ∷ live) other (inl both) = by_test (is_mirror m.id id) refl (part_without id ns live other.1 both.1)
  where
    by_test : (b : Bool) → is_mirror m.id id ≡ b → IsPart ns (servers_of (but_for id live)) → IsPart (n ∷ ns) (servers_of (cond (not b) (m ∷ but_for id live) (but_for id live)))
    by_test true is rest = absurd (other.0 (both.0 ∙ eqb-true m.id.server id.server (and_parts (m.id.server == id.server) (m.id.fileid == id.fileid) is).0))
    by_test false is rest = inl (both.0, rest)
part_without id (n ∷ ns) (m ∷ live) other (inr part) = by_test (is_mirror m.id id) (part_without id (n ∷ ns) live other part)
  where
    by_test : (b : Bool) → IsPart (n ∷ ns) (servers_of (but_for id live)) → IsPart (n ∷ ns) (servers_of (cond (not b) (m ∷ but_for id live) (but_for id live)))
    by_test true rest = rest
    by_test false rest = inr rest

-- ---- places

-- the place of a server in the live list from one place on, or 4
abbrev pub place_from : ℕ → List Mirror → ℕ → ℕ
place_from k live n = place_or_last (position_from (λ (m : Mirror). m.id.server == n) k live)

lower : (low high : ℕ) (all : List ℕ) → low ≤ high → PlacesRise high all → PlacesRise low all
lower low high [] le rise = tt
lower low high (p ∷ all) le (up, few, rest) = (omega (arith, le, up), few, rest)

-- another's place is further on
other_place : (k : ℕ) (m : Mirror) (live : List Mirror) (n : ℕ) → has_server live m.id.server ≡ false → has_server live n ≡ true → place_from k (m ∷ live) n ≡ place_from (k + 1) live n
other_place k m live n none there = by_test (m.id.server == n) refl
  where
    by_test : (b : Bool) → (m.id.server == n) ≡ b → place_or_last (cond b (Some k) (position_from (λ (x : Mirror). x.id.server == n) (k + 1) live)) ≡ place_from (k + 1) live n
    by_test true is = absurd (off_on (sym none ∙ ap (has_server live) (eqb-true m.id.server n is) ∙ there))
    by_test false is = refl

other_places : (k : ℕ) (m : Mirror) (live : List Mirror) (ns : List ℕ) → has_server live m.id.server ≡ false → IsPart ns (servers_of live) → map (place_from k (m ∷ live)) ns ≡ map (place_from (k + 1) live) ns
other_places k m live [] none part = refl
other_places k m live (n ∷ ns) none part =
    ap (λ (p : ℕ). p ∷ map (place_from k (m ∷ live)) ns) (other_place k m live n none (part_there n ns live part))
    ∙ ap (λ (l : List ℕ). place_from (k + 1) live n ∷ l) (other_places k m live ns none (part_less n ns (servers_of live) part))

first_place : (k : ℕ) (m : Mirror) (live : List Mirror) (n : ℕ) → n ≡ m.id.server → place_from k (m ∷ live) n ≡ k
first_place k m live n same = ap (λ (b : Bool). place_or_last (cond b (Some k) (position_from (λ (x : Mirror). x.id.server == n) (k + 1) live))) (eq-eqb m.id.server n (sym same))

pub part_rises : (k : ℕ) (live : List Mirror) (ns : List ℕ) → k + length live ≤ 4 → are_on_different_servers live ≡ true → IsPart ns (servers_of live) → PlacesRise k (map (place_from k live) ns)
part_rises k [] [] few apart part = tt
part_rises k [] (n ∷ ns) few apart part = absurd part
part_rises k (m ∷ live) [] few apart part = tt
part_rises k (m ∷ live) (n ∷ ns) few apart (inl both) =
    let parts = and_parts (not (has_server live m.id.server)) (are_on_different_servers live) apart in
    let none : has_server live m.id.server ≡ false = not_on (has_server live m.id.server) parts.0 in
    let rest : PlacesRise (k + 1) (map (place_from (k + 1) live) ns) = part_rises (k + 1) live ns (omega (arith, few)) parts.1 both.1 in
    subst (λ (p : ℕ). PlacesRise k (p ∷ map (place_from k (m ∷ live)) ns)) (sym (first_place k m live n both.0))
    (omega arith, omega (arith, few), subst (PlacesRise k) (sym (other_places k m live ns none both.1)) (lower k (k + 1) (map (place_from (k + 1) live) ns) (omega arith) rest))
  where
    not_on : (b : Bool) → not b ≡ true → b ≡ false
    not_on true is = absurd (off_on is)
    not_on false is = refl
part_rises k (m ∷ live) (n ∷ ns) few apart (inr part) =
    let parts = and_parts (not (has_server live m.id.server)) (are_on_different_servers live) apart in
    let none : has_server live m.id.server ≡ false = not_on (has_server live m.id.server) parts.0 in
    subst (PlacesRise k) (sym (other_places k m live (n ∷ ns) none part)) (lower k (k + 1) (map (place_from (k + 1) live) (n ∷ ns)) (omega arith) (part_rises (k + 1) live (n ∷ ns) (omega (arith, few)) parts.1 part))
  where
    not_on : (b : Bool) → not b ≡ true → b ≡ false
    not_on true is = absurd (off_on is)
    not_on false is = refl

-- servers without a live mirror have the last place
last_place : (k : ℕ) (live : List Mirror) (n : ℕ) → has_server live n ≡ false → place_from k live n ≡ 4
last_place k [] n none = refl
last_place k (m ∷ live) n none = by_test (m.id.server == n) none (last_place (k + 1) live n)
  where
    by_test : (b : Bool) → (b || has_server live n) ≡ false → (has_server live n ≡ false → place_from (k + 1) live n ≡ 4) → place_or_last (cond b (Some k) (position_from (λ (x : Mirror). x.id.server == n) (k + 1) live)) ≡ 4
    by_test true is more = absurd (off_on (sym is))
    by_test false is more = more is

pub none_rise : (low : ℕ) (live : List Mirror) (ns : List ℕ) → low ≤ 4 → AllByRecursion (λ (n : ℕ). has_server live n ≡ false) ns → PlacesRise low (map (place_from 0 live) ns)
none_rise low live [] le none = tt
none_rise low live (n ∷ ns) le none = subst (λ (p : ℕ). PlacesRise low (p ∷ map (place_from 0 live) ns)) (sym (last_place 0 live n none.0)) (le, omega arith, none_rise 4 live ns (omega arith) none.1)
