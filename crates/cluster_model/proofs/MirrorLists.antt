-- Lists of mirrors, and the places that hold them.
use Rattle.std.proofs.Common.{◌≡◌, ℕ, zero, suc, ◌+◌, ◌-◌, ◌<◌, ◌≤◌, Bool, true, false, List, [], ◌∷◌, ◌++◌, length, map, take, drop, replicate, get_or, cond, Option, Some, None, refl, sym, ap, ◌∙◌, arith, append_assoc, append-nil, length-append}
use Rattle.std.specs.Prelude.{◌==◌, ◌&&◌, ◌||◌, not, nat_le, nat_lt, slice_set}
use Rattle.std.specs.List.{list_any, flat_map}
use Rattle.std.specs.Option.{option_to_list, option_map_or}
use Rattle.std.proofs.lemmas.Grind.{flat_map-append}
use Rattle.std.proofs.lemmas.Bool.{and_parts, eq-eqb, lt-ltb}
use Rattle.std.proofs.lemmas.Bool.Decides.{nat_tests}
use Rattle.std.proofs.lemmas.List.{map-append, length-map, set-append_right, take-append-drop, take_more}
use Rattle.std.proofs.lemmas.List.Folds.{list_any-append, list_any_at}
use Rattle.cluster_model.specs.declared.ids.Mirror.{Mirror}
use Rattle.cluster_model.specs.declared.ids.MirrorId.{MirrorId}
use Rattle.cluster_model.specs.Journal.{is_mirror}
use Rattle.cluster_model.specs.Phases.{is_one_of}
use Rattle.cluster_model.specs.Mirrors.{has_server, are_on_different_servers, are_mirrors, can_add, mirrors_in, places_of, AreMirrorsIn}

-- ---- tests

eq_swap : (a b : ℕ) → (a == b) ≡ (b == a)
eq_swap a b = grind (arith, nat_tests)

room : (n k : ℕ) → k ≡ n + 1 → nat_le k 4 ≡ nat_lt n 4
room n k h = grind (arith, nat_tests)

pub no_more : (n k : ℕ) → n ≤ k → nat_le k 4 ≡ true → nat_le n 4 ≡ true
no_more n k h g = grind (arith, nat_tests)

other_order : (a b c d : Bool) → (not (b || (a || false)) && (c && not d)) ≡ ((not b && c) && not (a || d))
other_order a true c d = refl
other_order true false true d = refl
other_order true false false d = refl
other_order false false c d = refl

neither : (a b : Bool) → not (a || b) ≡ true → not a ≡ true
neither true b h = h
neither false b h = refl

pub le_from_test : (n : ℕ) → nat_le n 4 ≡ true → n ≤ 4
le_from_test n h = grind (arith, nat_tests)

pub both : (a b : Bool) → a ≡ true → b ≡ true → (a && b) ≡ true
both true b h g = g
both false b h g = h

unless : (a b : Bool) → (a ≡ true → b ≡ true) → b ≡ false → a ≡ false
unless true b f h = sym (f refl) ∙ h
unless false b f h = refl

-- ---- one more mirror, at the end

different_push : (ms : List Mirror) (m : Mirror) → are_on_different_servers (ms ++ m ∷ []) ≡ (are_on_different_servers ms && not (has_server ms m.id.server))
different_push [] m = refl
different_push (x ∷ ms) m =
    ap (λ (b : Bool). not b && are_on_different_servers (ms ++ m ∷ [])) (list_any-append (λ y. y.id.server == x.id.server) ms (m ∷ []))
    ∙ ap (λ (b : Bool). not (has_server ms x.id.server || (b || false)) && are_on_different_servers (ms ++ m ∷ [])) (eq_swap m.id.server x.id.server)
    ∙ ap (λ (b : Bool). not (has_server ms x.id.server || ((x.id.server == m.id.server) || false)) && b) (different_push ms m)
    ∙ other_order (x.id.server == m.id.server) (has_server ms x.id.server) (are_on_different_servers ms) (has_server ms m.id.server)

pub mirrors_push : (ms : List Mirror) (m : Mirror) → are_mirrors ms ≡ true → are_mirrors (ms ++ m ∷ []) ≡ can_add ms m
mirrors_push ms m h =
    let different : are_on_different_servers ms ≡ true = (and_parts _ _ h).1 in
    ap (λ (b : Bool). b && are_on_different_servers (ms ++ m ∷ [])) (room (length ms) (length (ms ++ m ∷ [])) (length-append ms (m ∷ [])))
    ∙ ap (λ (b : Bool). nat_lt (length ms) 4 && b) (different_push ms m ∙ ap (λ (b : Bool). b && not (has_server ms m.id.server)) different)

-- the first of them may be there without the others
different_first : (ms ns : List Mirror) → are_on_different_servers (ms ++ ns) ≡ true → are_on_different_servers ms ≡ true
different_first [] ns h = refl
different_first (x ∷ ms) ns h =
    let parts = and_parts _ _ h in
    both _ _ (neither _ _ (ap not (sym (list_any-append (λ y. y.id.server == x.id.server) ms ns)) ∙ parts.0)) (different_first ms ns parts.1)

pub mirrors_first : (ms ns : List Mirror) → are_mirrors (ms ++ ns) ≡ true → are_mirrors ms ≡ true
mirrors_first ms ns h =
    let parts = and_parts _ _ h in
    both _ _ (no_more (length ms) (length (ms ++ ns)) (omega (arith, length-append ms ns)) parts.0) (different_first ms ns parts.1)

-- a list, one by one: it is there up to a place
pub record IsThereTo (ms : List Mirror) (i : ℕ) (all : List Mirror) : Type 0 where
  pub list : all ≡ take i ms
  pub mirrors : are_mirrors all ≡ true

-- where the next one is added, it is there up to the next place
pub added_at : (ms all new : List Mirror) (i : ℕ) (d : Mirror) (added : Bool) → i < length ms → IsThereTo ms i all → added ≡ true → added ≡ can_add all (get_or ms i d) → new ≡ cond added (all ++ get_or ms i d ∷ []) all → IsThereTo ms (i + 1) new
added_at ms all new i d added within so joins can is =
    let longer : new ≡ all ++ get_or ms i d ∷ [] = is ∙ ap (λ (b : Bool). cond b (all ++ get_or ms i d ∷ []) all) joins in
    record {
      list = longer ∙ ap (λ (xs : List Mirror). xs ++ get_or ms i d ∷ []) so.list ∙ sym (take_more ms i d within);
      mirrors = ap are_mirrors longer ∙ mirrors_push all (get_or ms i d) so.mirrors ∙ sym can ∙ joins;
    }

-- where one cannot be added, the whole list cannot be there
pub refused_at : (ms all : List Mirror) (i : ℕ) (d : Mirror) → i < length ms → IsThereTo ms i all → can_add all (get_or ms i d) ≡ false → are_mirrors ms ≡ false
refused_at ms all i d within so refused =
    unless _ (are_mirrors (take (i + 1) ms))
    (λ whole. mirrors_first (take (i + 1) ms) (drop (i + 1) ms) (ap are_mirrors (take-append-drop (i + 1) ms) ∙ whole))
    (ap are_mirrors (take_more ms i d within ∙ ap (λ (xs : List Mirror). xs ++ get_or ms i d ∷ []) (sym so.list)) ∙ mirrors_push all (get_or ms i d) so.mirrors ∙ refused)

-- ---- places

none_filled : (n : ℕ) → flat_map option_to_list (replicate {A = Option Mirror} n None) ≡ []
none_filled zero = refl
none_filled (suc n) = none_filled n

all_filled : (ms : List Mirror) → flat_map option_to_list (map Some ms) ≡ ms
all_filled [] = refl
all_filled (m ∷ ms) = ap (λ xs. m ∷ xs) (all_filled ms)

mirrors_again : (ms : List Mirror) → mirrors_in (places_of ms) ≡ ms
mirrors_again ms =
    flat_map-append option_to_list (map Some ms) (replicate (4 - length ms) None)
    ∙ ap (λ (xs : List Mirror). xs ++ mirrors_in (replicate (4 - length ms) None)) (all_filled ms)
    ∙ ap (λ (xs : List Mirror). ms ++ xs) (none_filled (4 - length ms))
    ∙ append-nil ms

-- the next place is filled
next_place : (n : ℕ) (m : Mirror) → n < 4 → slice_set (replicate {A = Option Mirror} (4 - n) None) 0 (Some m) ≡ Some m ∷ replicate (4 - (n + 1)) None
next_place zero m h = refl
next_place (suc zero) m h = refl
next_place (suc (suc zero)) m h = refl
next_place (suc (suc (suc zero))) m h = refl
next_place (suc (suc (suc (suc n)))) m h = absurd (omega (arith, h))

set_next : (ms : List Mirror) (m : Mirror) → length ms < 4 → slice_set (places_of ms) (length ms) (Some m) ≡ places_of (ms ++ m ∷ [])
set_next ms m h =
    let n : ℕ = length ms in
    let here : n - n ≡ 0 = omega arith in
    let long : n + 1 ≡ length (ms ++ m ∷ []) = sym (length-append ms (m ∷ [])) in
    set-append_right (map Some ms) (replicate (4 - n) None) n n (Some m) (length-map ms Some) (omega arith)
    ∙ ap (λ (k : ℕ). map Some ms ++ slice_set (replicate (4 - n) None) k (Some m)) here
    ∙ ap (λ (ps : List (Option Mirror)). map Some ms ++ ps) (next_place n m h)
    ∙ sym (append_assoc (map Some ms) (Some m ∷ []) (replicate (4 - (n + 1)) None))
    ∙ ap (λ (ps : List (Option Mirror)). ps ++ replicate (4 - (n + 1)) None) (sym (map-append Some ms (m ∷ [])))
    ∙ ap (λ (k : ℕ). map Some (ms ++ m ∷ []) ++ replicate (4 - k) None) long

are_in : (ms : List Mirror) → are_mirrors ms ≡ true → AreMirrorsIn (places_of ms)
are_in ms h = record { places_are = sym (ap places_of (mirrors_again ms)); mirrors = ap are_mirrors (mirrors_again ms) ∙ h }

-- the places and their mirrors with one more
pub record HasOneMore (ms : List Mirror) (m : Mirror) (places : List (Option Mirror)) : Type 0 where
  pub list : mirrors_in places ≡ ms ++ m ∷ []
  pub kept : AreMirrorsIn places

pub one_more : (places : List (Option Mirror)) (m : Mirror) (len : ℕ) → AreMirrorsIn places → len ≡ length (mirrors_in places) → (len ≡ 4 → ⊥) → has_server (mirrors_in places) m.id.server ≡ false → HasOneMore (mirrors_in places) m (slice_set places len (Some m))
one_more places m len h is more none =
    let ms : List Mirror = mirrors_in places in
    let few : length ms ≤ 4 = le_from_test (length ms) (and_parts _ _ h.mirrors).0 in
    let less : length ms < 4 = omega (arith, few, is, more) in
    let can : can_add ms m ≡ true = both _ _ (lt-ltb _ _ less) (ap not none) in
    let set : slice_set places len (Some m) ≡ places_of (ms ++ m ∷ []) =
    ap (λ (k : ℕ). slice_set places k (Some m)) is
    ∙ ap (λ (ps : List (Option Mirror)). slice_set ps (length ms) (Some m)) h.places_are
    ∙ set_next ms m less in
    record {
      list = ap mirrors_in set ∙ mirrors_again (ms ++ m ∷ []);
      kept = rw set (are_in (ms ++ m ∷ []) (mirrors_push ms m h.mirrors ∙ can));
    }

-- a test of the mirrors, place by place
by_place : (p : Mirror → Bool) (places : List (Option Mirror)) → list_any p (mirrors_in places) ≡ list_any (λ place. option_map_or p place false) places
by_place p [] = refl
by_place p (None ∷ places) = by_place p places
by_place p (Some m ∷ places) = ap (λ (b : Bool). p m || b) (by_place p places)

pub on_server : (places : List (Option Mirror)) (i server : ℕ) (m : Mirror) → i < length places → get_or places i None ≡ Some m → m.id.server ≡ server → has_server (mirrors_in places) server ≡ true
on_server places i server m within is on =
    let test : Mirror → Bool = λ y. y.id.server == server in
    by_place test places ∙ list_any_at (λ place. option_map_or test place false) places i None within (ap (λ place. option_map_or test place false) is ∙ eq-eqb _ _ on)

pub is_there : (places : List (Option Mirror)) (i : ℕ) (id : MirrorId) (m : Mirror) → i < length places → get_or places i None ≡ Some m → is_mirror m.id id ≡ true → is_one_of id (mirrors_in places) ≡ true
is_there places i id m within is this =
    let test : Mirror → Bool = λ y. is_mirror y.id id in
    by_place test places ∙ list_any_at (λ place. option_map_or test place false) places i None within (ap (λ place. option_map_or test place false) is ∙ this)
