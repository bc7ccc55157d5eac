-- A file has at most four mirrors, those that are being made or added by a copy among them.
use Rattle.std.proofs.Common.{◌≡◌, ℕ, zero, suc, ◌+◌, ◌-◌, ◌≤◌, Bool, true, List, [], ◌∷◌, ◌++◌, length, map, filter, take, drop, set, Option, Some, None, refl, sym, ap, ◌∙◌, arith, length-append, length-drop}
use Rattle.std.specs.Prelude.{slice_get}
use Rattle.std.specs.List.{flat_map}
use Rattle.std.specs.Option.{option_to_list}
use Rattle.std.proofs.lemmas.Bool.{cond_both, ltb-true}
use Rattle.std.proofs.lemmas.List.{length-map}
use Rattle.std.proofs.lemmas.Option.{same_Some}
use Rattle.cluster_model.specs.declared.ids.MirrorId.{MirrorId}
use Rattle.cluster_model.specs.declared.ids.Mirror.{Mirror}
use Rattle.cluster_model.specs.declared.layout_state.CopyKind.{CopyKind}
use Rattle.cluster_model.specs.declared.layout_state.CopyKind.TheVariants.{Replacing, Adding}
use Rattle.cluster_model.specs.declared.layout_state.LayoutState.{LayoutState}
use Rattle.cluster_model.specs.declared.targets.SwappedIn.{SwappedIn}
use Rattle.cluster_model.specs.Phases.{unreported, has_targets, put_if, in_place, with_targets}
use Rattle.copy_rule.specs.declared.copy_target.CopyTarget.{CopyTarget}
use Rattle.copy_rule.specs.declared.copy_target.Target.{Target}
use Rattle.copy_rule.specs.Copies.{is_given_up, to_make, to_write, at_stage, stage_for, swap_of}
use Rattle.file_rule.specs.MdsFiles.{Activity, Idle, Makes, Fences, Settles, Copies, MdsFile, servers_without, replacing, adding, plan_of}
use Rattle.file_rule.specs.declared.creation.Creation.{Creation}
use Rattle.file_rule.specs.declared.fresh.Fresh.{Fresh}

-- ---- few

-- how many mirrors the targets of a copy add
abbrev pub added_by : Option MirrorId → ℕ
added_by None = 1
added_by (Some id) = 0

abbrev pub adds : List CopyTarget → ℕ
adds [] = 0
adds (t ∷ targets) = added_by t.replaced + adds targets

-- there is room beside so many mirrors for those that are under way
abbrev pub HasRoom : ℕ → Activity → Type 0
HasRoom live Idle = Unit {0}
HasRoom live (Makes all) = length all.items ≤ 4
HasRoom live (Fences fence) = Unit {0}
HasRoom live (Settles stage) = Unit {0}
HasRoom live (Copies c) = live + adds c.targets ≤ 4

pub record IsFew (wanted live : ℕ) : Type 0 where
  pub few_wanted : wanted ≤ 4
  pub few_live : live ≤ 4

abbrev pub HasFew : LayoutState → Type 0
HasFew s = IsFew s.wanted (length s.live)

pub record FileHasFew (f : MdsFile) : Type 0 where
  pub mirrors : HasFew f.layout
  pub room : HasRoom (length f.layout.live) f.activity

pub room_less : (a : Activity) (less live : ℕ) → less ≤ live → HasRoom live a → HasRoom less a
room_less Idle less live le h = tt
room_less (Makes all) less live le h = h
room_less (Fences fence) less live le h = tt
room_less (Settles stage) less live le h = tt
room_less (Copies c) less live le h = omega (arith, le, h)

-- ---- mirrors leave

pub filter_less : {A : Type 0} (p : A → Bool) (xs : List A) → length (filter p xs) ≤ length xs
filter_less p [] = omega arith
filter_less p (x ∷ xs) =
    let rest = filter_less p xs in
    cond_both (p x) (x ∷ filter p xs) (filter p xs) (λ (ys : List _). length ys ≤ length (x ∷ xs)) (λ e. omega (arith, rest)) (λ e. omega (arith, rest))

pub unreported_less : (places : List Bool) (live : List Mirror) → length (unreported places live) ≤ length live
unreported_less places [] = omega arith
unreported_less [] (m ∷ live) = omega arith
unreported_less (gone ∷ places) (m ∷ live) =
    let rest = unreported_less places live in
    cond_both gone (unreported places live) (m ∷ unreported places live) (λ (ys : List Mirror). length ys ≤ length (m ∷ live)) (λ e. omega (arith, rest)) (λ e. omega (arith, rest))

-- ---- mirrors are made

made_one : (o : Option Mirror) → length (option_to_list o) ≤ 1
made_one None = omega arith
made_one (Some m) = omega arith

pub made_less : (items : List Creation) → length (flat_map (λ (c : Creation). option_to_list c.made) items) ≤ length items
made_less [] = omega arith
made_less (c ∷ items) = omega (arith, made_less items, made_one c.made, length-append (option_to_list c.made) (flat_map (λ (x : Creation). option_to_list x.made) items))

-- ---- targets come in

placed : (t : SwappedIn) (o : Option MirrorId) (live : List Mirror) → length (in_place t o live) ≡ length live + added_by o
placed t None live = length-append live (t.new ∷ [])
placed t (Some old) live = let same = length-map live (put_if old t.new) in omega (arith, same)

pub swap_few : (targets : List CopyTarget) (live : List Mirror) → length (with_targets (flat_map (λ (t : CopyTarget). swap_of t t.made) targets) live) ≤ length live + adds targets
swap_few [] live = omega arith
swap_few (t ∷ targets) live = by_made t.made (λ more. swap_few targets more)
  where
    by_made : (made : Option Mirror) → ((more : List Mirror) → length (with_targets (flat_map (λ (x : CopyTarget). swap_of x x.made) targets) more) ≤ length more + adds targets)
        → length (with_targets (swap_of t made ++ flat_map (λ (x : CopyTarget). swap_of x x.made) targets) live) ≤ length live + adds (t ∷ targets)
    by_made None goes = let rest = goes live in omega (arith, rest)
    by_made (Some m) goes =
        let new : SwappedIn = record { new = m; old = t.replaced } in
        let rest = goes (in_place new t.replaced live) in
        let size = placed new t.replaced live in
        omega (arith, rest, size)

-- ---- the targets change

pub adds_set : (targets : List CopyTarget) (place : ℕ) (t new : CopyTarget) → slice_get targets place ≡ Some t → new.replaced ≡ t.replaced → adds (set targets place new) ≡ adds targets
adds_set [] place t new e same = absurd cc
adds_set (x ∷ targets) zero t new e same = ap (λ (o : Option MirrorId). added_by o + adds targets) (same ∙ ap (λ (y : CopyTarget). y.replaced) (sym (same_Some x t e)))
adds_set (x ∷ targets) (suc place) t new e same = ap (λ (k : ℕ). added_by x.replaced + k) (adds_set targets place t new e same)

pub adds_written : (bytes : List ℕ) (targets : List CopyTarget) → adds (map (to_write bytes) targets) ≡ adds targets
adds_written bytes [] = refl
adds_written bytes (t ∷ targets) =
    ap (λ (o : Option MirrorId). added_by o + adds (map (to_write bytes) targets)) (cond_both (is_given_up t.stage) t (at_stage t (stage_for bytes)) (λ (x : CopyTarget). x.replaced ≡ t.replaced) (λ e. refl) (λ e. refl))
    ∙ ap (λ (k : ℕ). added_by t.replaced + k) (adds_written bytes targets)

-- ---- the plan

replacing_adds : (k : ℕ) (live : List Mirror) → adds (map to_make (replacing k live)) ≡ 0
replacing_adds k [] = refl
replacing_adds k (m ∷ live) = let rest = replacing_adds (k + 1) live in omega (arith, rest)

pub replacing_size : (k : ℕ) (live : List Mirror) → length (replacing k live) ≡ length live
replacing_size k [] = refl
replacing_size k (m ∷ live) = let rest = replacing_size (k + 1) live in omega (arith, rest)

adding_adds : (k : ℕ) (servers : List ℕ) → adds (map to_make (adding k servers)) ≡ length servers
adding_adds k [] = refl
adding_adds k (n ∷ servers) = let rest = adding_adds (k + 1) servers in omega (arith, rest)

pub adding_size : (k : ℕ) (servers : List ℕ) → length (adding k servers) ≡ length servers
adding_size k [] = refl
adding_size k (n ∷ servers) = let rest = adding_size (k + 1) servers in omega (arith, rest)

take_few : (k : ℕ) (xs : List ℕ) → length (take k xs) ≤ k
take_few zero xs = omega arith
take_few (suc k) [] = omega arith
take_few (suc k) (x ∷ xs) = let rest = take_few k xs in omega (arith, rest)

pub record PlanIsFew (live : ℕ) (plan : List Target) : Type 0 where
  pub size : length plan ≤ 4
  pub room : live + adds (map to_make plan) ≤ 4

pub plan_few : (copies : CopyKind) (layout : LayoutState) (fresh : Fresh) → has_targets copies (length layout.live) layout.wanted ≡ true → HasFew layout → PlanIsFew (length layout.live) (plan_of copies layout fresh)
plan_few Replacing layout fresh is h =
    let few = h.few_live in
    let behind : List Mirror = drop 1 layout.live in
    let size = replacing_size fresh.name behind in
    let left = length-drop 1 layout.live in
    let none = replacing_adds fresh.name behind in
    record { size = omega (arith, few, size, left); room = omega (arith, few, none) }
plan_few Adding layout fresh is h =
    let few = h.few_wanted in
    let missing : ℕ = layout.wanted - length layout.live in
    let servers : List ℕ = take missing (servers_without fresh.servers layout.live) in
    let less = ltb-true (length layout.live) layout.wanted is in
    let size = adding_size fresh.name servers in
    let most = take_few missing (servers_without fresh.servers layout.live) in
    let one = adding_adds fresh.name servers in
    record { size = omega (arith, few, size, most); room = omega (arith, few, less, most, one) }
