-- The plan of a copy has a target: a file wants no more mirrors than there are servers.
use Rattle.std.proofs.Common.{◌≡◌, ℕ, zero, suc, ◌+◌, ◌-◌, ◌<◌, ◌≤◌, Bool, true, false, cond, not, ltb, List, [], ◌∷◌, length, filter, take, drop, refl, sym, ap, ◌∙◌, arith, length-drop}
use Rattle.std.specs.Prelude.{◌==◌, ◌&&◌, ◌||◌}
use Rattle.std.specs.List.{list_any, range_with_len}
use Rattle.std.proofs.lemmas.Bool.{cond_both, and_parts, ltb-true, eqb-true, eqb-false, ne_eqb}
use Rattle.cluster_model.specs.declared.ids.Mirror.{Mirror}
use Rattle.cluster_model.specs.declared.ids.MirrorId.{MirrorId}
use Rattle.cluster_model.specs.declared.layout_state.CopyKind.{CopyKind}
use Rattle.cluster_model.specs.declared.layout_state.CopyKind.TheVariants.{Replacing, Adding}
use Rattle.cluster_model.specs.declared.layout_state.LayoutState.{LayoutState}
use Rattle.cluster_model.specs.Mirrors.{has_server}
use Rattle.cluster_model.specs.Phases.{has_targets}
use Rattle.copy_rule.specs.declared.copy_target.Target.{Target}
use Rattle.copy_rule.specs.Copies.{new_copy, has_outcome}
use Rattle.file_rule.specs.MdsFiles.{servers_without, plan_of}
use Rattle.file_rule.specs.declared.fresh.Fresh.{Fresh}
use Rattle.cluster_laws.specs.Machine.{are_servers}
use Rattle.cluster_laws.proofs.FewMirrors.{replacing_size, adding_size}
use Rattle.cluster_laws.proofs.Lives.{not_true}

-- ---- the numbers of a range but for one

-- those of the range from here on that are not in a set
abbrev rest_of : (ℕ → Bool) → ℕ → ℕ → List ℕ
rest_of h from count = filter (λ n. not (h n)) (range_with_len from count)

abbrev beside : ℕ → (ℕ → Bool) → ℕ → Bool
beside s h n = (s == n) || h n

same_behind : (s : ℕ) (h : ℕ → Bool) (from count : ℕ) → s < from → rest_of (beside s h) from count ≡ rest_of h from count
same_behind s h from zero less = refl
same_behind s h from (suc count) less =
    let other : (s == from) ≡ false = ne_eqb s from (λ is. omega (arith, is, less)) in
    ap (λ (b : Bool). cond (not (b || h from)) (from ∷ rest_of (beside s h) (from + 1) count) (rest_of (beside s h) (from + 1) count)) other
    ∙ ap (λ (l : List ℕ). cond (not (h from)) (from ∷ l) l) (same_behind s h (from + 1) count (omega (arith, less)))

-- at most one more is in the set
drops_one : (s : ℕ) (h : ℕ → Bool) (from count : ℕ) → length (rest_of h from count) ≤ length (rest_of (beside s h) from count) + 1
drops_one s h from zero = omega arith
drops_one s h from (suc count) = by_here (s == from) refl (drops_one s h (from + 1) count)
  where
    kept : List ℕ
    kept = rest_of h (from + 1) count

    less : List ℕ
    less = rest_of (beside s h) (from + 1) count

    by_both : (b : Bool) → length kept ≤ length less + 1 → length (cond b (from ∷ kept) kept) ≤ length (cond b (from ∷ less) less) + 1
    by_both true rest = omega (arith, rest)
    by_both false rest = rest

    by_here : (b : Bool) → (s == from) ≡ b → length kept ≤ length less + 1 → length (cond (not (h from)) (from ∷ kept) kept) ≤ length (cond (not (b || h from)) (from ∷ less) less) + 1
    by_here true is rest =
        let at : s ≡ from = eqb-true s from is in
        let same : length less ≡ length kept = ap length (same_behind s h (from + 1) count (omega (arith, at))) in
        cond_both (not (h from)) (from ∷ kept) kept (λ (l : List ℕ). length l ≤ length less + 1) (λ e. omega (arith, same)) (λ e. omega (arith, same))
    by_here false is rest = by_both (not (h from)) rest

-- exactly one more, where it is one of the range that was not in it
drops_it : (s : ℕ) (h : ℕ → Bool) → h s ≡ false → (from count : ℕ) → from ≤ s → s < from + count → length (rest_of (beside s h) from count) + 1 ≤ length (rest_of h from count)
drops_it s h out from zero low high = absurd (omega (arith, low, high))
drops_it s h out from (suc count) low high = by_here (s == from) refl (λ more. drops_it s h out (from + 1) count more (omega (arith, high)))
  where
    kept : List ℕ
    kept = rest_of h (from + 1) count

    less : List ℕ
    less = rest_of (beside s h) (from + 1) count

    by_both : (b : Bool) → length less + 1 ≤ length kept → length (cond b (from ∷ less) less) + 1 ≤ length (cond b (from ∷ kept) kept)
    by_both true rest = omega (arith, rest)
    by_both false rest = rest

    by_here : (b : Bool) → (s == from) ≡ b → (from + 1 ≤ s → length less + 1 ≤ length kept) → length (cond (not (b || h from)) (from ∷ less) less) + 1 ≤ length (cond (not (h from)) (from ∷ kept) kept)
    by_here true is rest =
        let at : s ≡ from = eqb-true s from is in
        let same : length less ≡ length kept = ap length (same_behind s h (from + 1) count (omega (arith, at))) in
        let here : length (cond (not (h from)) (from ∷ kept) kept) ≡ length (from ∷ kept) = ap (λ (n : ℕ). length (cond (not (h n)) (from ∷ kept) kept)) (sym at) ∙ ap (λ (b : Bool). length (cond (not b) (from ∷ kept) kept)) out in
        omega (arith, same, here)
    by_here false is rest =
        let other : s ≡ from → ⊥ = eqb-false s from is in
        by_both (not (h from)) (rest (omega (arith, low, other)))

whole : (h : ℕ → Bool) → ((n : ℕ) → h n ≡ false) → (from count : ℕ) → length (rest_of h from count) ≡ count
whole h none from zero = refl
whole h none from (suc count) =
    let rest = whole h none (from + 1) count in
    let here : length (rest_of h from (suc count)) ≡ length (from ∷ rest_of h (from + 1) count) = ap (λ (b : Bool). length (cond (not b) (from ∷ rest_of h (from + 1) count) (rest_of h (from + 1) count))) (none from) in
    omega (arith, rest, here)

-- so many servers have no live mirror
without_some : (count : ℕ) (live : List Mirror) → count ≤ length (servers_without count live) + length live
without_some count [] = let all : length (servers_without count []) ≡ count = whole (has_server []) (λ n. refl) 1 count in omega (arith, all)
without_some count (m ∷ live) =
    let rest : count ≤ length (servers_without count live) + length live = without_some count live in
    let one : length (servers_without count live) ≤ length (servers_without count (m ∷ live)) + 1 = drops_one m.id.server (has_server live) 1 count in
    omega (arith, rest, one)

-- ---- servers that are there, and different

pub servers_few : (count : ℕ) (servers : List ℕ) → are_servers count servers ≡ true → length servers ≤ count
servers_few count servers are = let all = left_beside servers are in omega (arith, all)
  where
    left_beside : (servers : List ℕ) → are_servers count servers ≡ true → length (rest_of (λ n. list_any (λ k. k == n) servers) 1 count) + length servers ≤ count
    left_beside [] are = let all : length (rest_of (λ n. list_any (λ k. k == n) []) 1 count) ≡ count = whole (λ n. list_any (λ k. k == n) []) (λ n. refl) 1 count in omega (arith, all)
    left_beside (n ∷ servers) are =
        let parts = and_parts (ltb 0 n && ltb n (count + 1) && not (list_any (λ k. k == n) servers)) (are_servers count servers) are in
        let there = and_parts (ltb 0 n && ltb n (count + 1)) (not (list_any (λ k. k == n) servers)) parts.0 in
        let within = and_parts (ltb 0 n) (ltb n (count + 1)) there.0 in
        let low : 0 < n = ltb-true 0 n within.0 in
        let high : n < count + 1 = ltb-true n (count + 1) within.1 in
        let rest = left_beside servers parts.1 in
        let one : length (rest_of (λ m. list_any (λ k. k == m) (n ∷ servers)) 1 count) + 1 ≤ length (rest_of (λ m. list_any (λ k. k == m) servers) 1 count) =
        drops_it n (λ m. list_any (λ k. k == m) servers) (not_true (list_any (λ k. k == n) servers) there.1) 1 count (omega (arith, low)) (omega (arith, high)) in
        omega (arith, rest, one)

-- ---- the plan

take_some : (k : ℕ) (xs : List ℕ) → 1 ≤ k → 1 ≤ length xs → 1 ≤ length (take k xs)
take_some zero xs more some = absurd (omega (arith, more))
take_some (suc k) [] more some = absurd (omega (arith, some))
take_some (suc k) (x ∷ xs) more some = omega arith

plan_some : (copies : CopyKind) (layout : LayoutState) (fresh : Fresh) → has_targets copies (length layout.live) layout.wanted ≡ true → layout.wanted ≤ fresh.servers → 1 ≤ length (plan_of copies layout fresh)
plan_some Replacing layout fresh is fits =
    let less = ltb-true 1 (length layout.live) is in
    let size = replacing_size fresh.name (drop 1 layout.live) in
    let left = length-drop 1 layout.live in
    omega (arith, less, size, left)
plan_some Adding layout fresh is fits =
    let less = ltb-true (length layout.live) layout.wanted is in
    let others : List ℕ = servers_without fresh.servers layout.live in
    let all : fresh.servers ≤ length (servers_without fresh.servers layout.live) + length layout.live = without_some fresh.servers layout.live in
    let size = adding_size fresh.name (take (layout.wanted - length layout.live) others) in
    let some = take_some (layout.wanted - length layout.live) others (omega (arith, less)) (omega (arith, all, fits, less)) in
    omega (arith, size, some)

new_open : (source : MirrorId) (plan : List Target) (copier : ℕ) → 1 ≤ length plan → has_outcome (new_copy source plan copier) ≡ false
new_open source [] copier some = absurd (omega (arith, some))
new_open source (t ∷ plan) copier some = refl

-- a copy that begins has no outcome
pub begins_open : (copies : CopyKind) (layout : LayoutState) (fresh : Fresh) (source : MirrorId) → has_targets copies (length layout.live) layout.wanted ≡ true → layout.wanted ≤ fresh.servers
    → has_outcome (new_copy source (plan_of copies layout fresh) fresh.uid) ≡ false
begins_open copies layout fresh source is fits = new_open source (plan_of copies layout fresh) fresh.uid (plan_some copies layout fresh is fits)
