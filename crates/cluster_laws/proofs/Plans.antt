-- The plan of a copy: its targets come to servers of their own, so that no two live mirrors are on one server behind a swap.
use Rattle.std.proofs.Common.{◌≡◌, ℕ, zero, suc, ◌+◌, ◌<◌, Bool, true, false, eqb, cond, not, List, [], ◌∷◌, ◌++◌, map, filter, take, drop, set, Option, Some, None, refl, sym, ap, ◌∙◌, arith}
use Rattle.std.specs.Prelude.{slice_get, ◌||◌}
use Rattle.std.specs.List.{AllByRecursion, list_any, flat_map, range_with_len}
use Rattle.std.proofs.lemmas.Bool.{cond_both, and_parts, eqb-true, eqb-false, ne_eqb}
use Rattle.std.proofs.lemmas.Option.{same_Some}
use Rattle.cluster_model.specs.declared.tick.Tick.{Tick}
use Rattle.cluster_model.specs.declared.ids.MirrorId.{MirrorId}
use Rattle.cluster_model.specs.declared.ids.Mirror.{Mirror}
use Rattle.cluster_model.specs.declared.layout_state.LayoutState.{LayoutState}
use Rattle.cluster_model.specs.declared.layout_state.CopyKind.{CopyKind}
use Rattle.cluster_model.specs.declared.layout_state.CopyKind.TheVariants.{Replacing, Adding}
use Rattle.cluster_model.specs.Journal.{is_mirror}
use Rattle.cluster_model.specs.Mirrors.{has_server, are_on_different_servers}
use Rattle.cluster_model.specs.Phases.{but_for, seen_at, in_place, with_targets}
use Rattle.copy_rule.specs.Copies.{is_given_up, at_stage, stage_for, to_make, to_write, swap_of}
use Rattle.copy_rule.specs.declared.copy_target.Target.{Target}
use Rattle.copy_rule.specs.declared.copy_target.CopyTarget.{CopyTarget}
use Rattle.file_rule.specs.MdsFiles.{servers_without, replacing, adding, plan_of}
use Rattle.file_rule.specs.declared.fresh.Fresh.{Fresh}
use Rattle.cluster_laws.proofs.Lives.{both, not_true, less_filter, has_seen}
use Rattle.cluster_laws.proofs.Invariant.{are_apart, Site, site_of, FitsIn, site_servers, IsPlan}

-- ---- the live list changes

fits_more : (live more : List Mirror) → ((n : ℕ) → has_server live n ≡ false → has_server more n ≡ false) → (sites : List Site) → AllByRecursion (λ x. FitsIn live x.server x.replaced) sites → AllByRecursion (λ x. FitsIn more x.server x.replaced) sites
fits_more live more less [] h = tt
fits_more live more less (x ∷ sites) h = (by_replaced x.replaced h.0, fits_more live more less sites h.1)
  where
    by_replaced : (o : Option MirrorId) → FitsIn live x.server o → FitsIn more x.server o
    by_replaced None k = less x.server k
    by_replaced (Some id) k = k

pub plan_more : (live more : List Mirror) → ((n : ℕ) → has_server live n ≡ false → has_server more n ≡ false) → (sites : List Site) → IsPlan live sites → IsPlan more sites
plan_more live more less sites h = record { fits = fits_more live more less sites h.fits; apart = h.apart }

pub none_left : (id : MirrorId) (live : List Mirror) (n : ℕ) → has_server live n ≡ false → has_server (but_for id live) n ≡ false
none_left id live n none = from (has_server (but_for id live) n) refl
  where
    from : (b : Bool) → has_server (but_for id live) n ≡ b → b ≡ false
    from true e = sym (less_filter (λ m. not (is_mirror m.id id)) live n e) ∙ none
    from false e = refl

pub none_seen : (id : MirrorId) (tick : Tick) (live : List Mirror) (n : ℕ) → has_server live n ≡ false → has_server (seen_at id tick live) n ≡ false
none_seen id tick live n none = has_seen id tick live n ∙ none

-- ---- the targets change

pub sites_set : (targets : List CopyTarget) (place : ℕ) (t new : CopyTarget) → slice_get targets place ≡ Some t → new.server ≡ t.server → new.replaced ≡ t.replaced → map site_of (set targets place new) ≡ map site_of targets
sites_set [] place t new e on same = absurd cc
sites_set (x ∷ targets) zero t new e on same =
    ap (λ (k : ℕ). record { server = k; replaced = new.replaced } ∷ map site_of targets) on
    ∙ ap (λ (o : Option MirrorId). record { server = t.server; replaced = o } ∷ map site_of targets) same
    ∙ ap (λ (y : CopyTarget). site_of y ∷ map site_of targets) (sym (same_Some x t e))
sites_set (x ∷ targets) (suc place) t new e on same = ap (λ (rest : List Site). site_of x ∷ rest) (sites_set targets place t new e on same)

pub sites_written : (bytes : List ℕ) (targets : List CopyTarget) → map site_of (map (to_write bytes) targets) ≡ map site_of targets
sites_written bytes [] = refl
sites_written bytes (t ∷ targets) =
    ap (λ (s : Site). s ∷ map site_of (map (to_write bytes) targets)) (cond_both (is_given_up t.stage) t (at_stage t (stage_for bytes)) (λ (x : CopyTarget). site_of x ≡ site_of t) (λ e. refl) (λ e. refl))
    ∙ ap (λ (rest : List Site). site_of t ∷ rest) (sites_written bytes targets)

-- ---- the plan

or_false : (a b : Bool) → a ≡ false → b ≡ false → (a || b) ≡ false
or_false true b h k = absurd cc
or_false false b h k = k

neither : (a b : Bool) → (a || b) ≡ false → (a ≡ false) × (b ≡ false)
neither true b e = absurd cc
neither false b e = (refl, e)

abbrev planned_sites : List Target → List Site
planned_sites plan = map site_of (map to_make plan)

-- each on the server of the mirror that it replaces
replacing_any : (k : ℕ) (live : List Mirror) (n : ℕ) → list_any (λ j. eqb j n) (site_servers (planned_sites (replacing k live))) ≡ has_server live n
replacing_any k [] n = refl
replacing_any k (m ∷ live) n = ap (λ (b : Bool). eqb m.id.server n || b) (replacing_any (k + 1) live n)

replacing_plan : (whole : List Mirror) (k : ℕ) (live : List Mirror) → are_on_different_servers live ≡ true → IsPlan whole (planned_sites (replacing k live))
replacing_plan whole k [] apart = record { fits = tt; apart = refl }
replacing_plan whole k (m ∷ live) apart =
    let parts = and_parts _ _ apart in
    let rest = replacing_plan whole (k + 1) live parts.1 in
    record { fits = (refl, rest.fits); apart = both _ _ (ap not (replacing_any (k + 1) live m.id.server ∙ not_true _ parts.0)) rest.apart }

-- on servers without a live mirror, each once
abbrev free_of : List Mirror → ℕ → Bool
free_of live n = not (has_server live n)

above : (p : ℕ → Bool) (a len n : ℕ) → n < a → list_any (λ j. eqb j n) (filter p (range_with_len a len)) ≡ false
above p a zero n less = refl
above p a (suc len) n less =
    cond_both (p a) (a ∷ filter p (range_with_len (a + 1) len)) (filter p (range_with_len (a + 1) len)) (λ (xs : List ℕ). list_any (λ j. eqb j n) xs ≡ false)
    (λ e. or_false _ _ (ne_eqb a n (λ same. absurd (omega (arith, same, less)))) (above p (a + 1) len n (omega (arith, less)))) (λ e. above p (a + 1) len n (omega (arith, less)))

apart_range : (p : ℕ → Bool) (a len : ℕ) → are_apart (filter p (range_with_len a len)) ≡ true
apart_range p a zero = refl
apart_range p a (suc len) =
    cond_both (p a) (a ∷ filter p (range_with_len (a + 1) len)) (filter p (range_with_len (a + 1) len)) (λ (xs : List ℕ). are_apart xs ≡ true)
    (λ e. both _ _ (ap not (above p (a + 1) len a (omega arith))) (apart_range p (a + 1) len)) (λ e. apart_range p (a + 1) len)

any_take : (k : ℕ) (xs : List ℕ) (n : ℕ) → list_any (λ j. eqb j n) xs ≡ false → list_any (λ j. eqb j n) (take k xs) ≡ false
any_take zero xs n h = refl
any_take (suc k) [] n h = refl
any_take (suc k) (x ∷ xs) n h = let parts = neither _ _ h in or_false _ _ parts.0 (any_take k xs n parts.1)

apart_take : (k : ℕ) (xs : List ℕ) → are_apart xs ≡ true → are_apart (take k xs) ≡ true
apart_take zero xs h = refl
apart_take (suc k) [] h = refl
apart_take (suc k) (x ∷ xs) h = let parts = and_parts _ _ h in both _ _ (ap not (any_take k xs x (not_true _ parts.0))) (apart_take k xs parts.1)

all_kept : (p : ℕ → Bool) (xs : List ℕ) → AllByRecursion (λ n. p n ≡ true) (filter p xs)
all_kept p [] = tt
all_kept p (x ∷ xs) = cond_both (p x) (x ∷ filter p xs) (filter p xs) (AllByRecursion (λ n. p n ≡ true)) (λ e. (e, all_kept p xs)) (λ e. all_kept p xs)

all_take : (P : ℕ → Type 0) (k : ℕ) (xs : List ℕ) → AllByRecursion P xs → AllByRecursion P (take k xs)
all_take P zero xs h = tt
all_take P (suc k) [] h = tt
all_take P (suc k) (x ∷ xs) h = (h.0, all_take P k xs h.1)

adding_servers : (k : ℕ) (servers : List ℕ) → site_servers (planned_sites (adding k servers)) ≡ servers
adding_servers k [] = refl
adding_servers k (n ∷ servers) = ap (λ (rest : List ℕ). n ∷ rest) (adding_servers (k + 1) servers)

adding_fits : (live : List Mirror) (k : ℕ) (servers : List ℕ) → AllByRecursion (λ n. free_of live n ≡ true) servers → AllByRecursion (λ x. FitsIn live x.server x.replaced) (planned_sites (adding k servers))
adding_fits live k [] h = tt
adding_fits live k (n ∷ servers) h = (not_true _ h.0, adding_fits live (k + 1) servers h.1)

pub plan_ok : (copies : CopyKind) (layout : LayoutState) (fresh : Fresh) → are_on_different_servers layout.live ≡ true → IsPlan layout.live (planned_sites (plan_of copies layout fresh))
plan_ok Replacing layout fresh apart = replacing_plan layout.live fresh.name (drop 1 layout.live) (behind layout.live apart)
  where
    behind : (live : List Mirror) → are_on_different_servers live ≡ true → are_on_different_servers (drop 1 live) ≡ true
    behind [] e = refl
    behind (m ∷ live) e = (and_parts _ _ e).1
plan_ok Adding layout fresh apart =
    let servers : List ℕ = take _ (servers_without fresh.servers layout.live) in
    record {
      fits = adding_fits layout.live fresh.name servers (all_take (λ n. free_of layout.live n ≡ true) _ (servers_without fresh.servers layout.live) (all_kept (free_of layout.live) (range_with_len 1 fresh.servers)));
      apart = ap are_apart (adding_servers fresh.name servers) ∙ apart_take _ (servers_without fresh.servers layout.live) (apart_range (free_of layout.live) 1 fresh.servers);
    }

-- ---- the swap

-- a mirror in another's place on its server
placed_server : (old : MirrorId) (new : Mirror) → old.server ≡ new.id.server → (live : List Mirror) (n : ℕ) → has_server (map (λ m. cond (is_mirror m.id old) new m) live) n ≡ has_server live n
placed_server old new on [] n = refl
placed_server old new on (m ∷ live) n = ap (λ (k : ℕ). eqb k n || has_server (map (λ x. cond (is_mirror x.id old) new x) live) n) (by_test (is_mirror m.id old) refl) ∙ ap (λ (b : Bool). eqb m.id.server n || b) (placed_server old new on live n)
  where
    by_test : (b : Bool) → is_mirror m.id old ≡ b → (cond b new m).id.server ≡ m.id.server
    by_test true e = sym on ∙ sym (eqb-true m.id.server old.server (and_parts _ _ e).0)
    by_test false e = refl

placed_apart : (old : MirrorId) (new : Mirror) → old.server ≡ new.id.server → (live : List Mirror) → are_on_different_servers live ≡ true → are_on_different_servers (map (λ m. cond (is_mirror m.id old) new m) live) ≡ true
placed_apart old new on [] h = refl
placed_apart old new on (m ∷ live) h =
    let parts = and_parts _ _ h in
    both _ _ (ap (λ (k : ℕ). not (has_server (map (λ x. cond (is_mirror x.id old) new x) live) k)) (by_test (is_mirror m.id old) refl) ∙ ap not (placed_server old new on live m.id.server) ∙ parts.0) (placed_apart old new on live parts.1)
  where
    by_test : (b : Bool) → is_mirror m.id old ≡ b → (cond b new m).id.server ≡ m.id.server
    by_test true e = sym on ∙ sym (eqb-true m.id.server old.server (and_parts _ _ e).0)
    by_test false e = refl

-- one more at the end
pushed_server : (live : List Mirror) (new : Mirror) (n : ℕ) → has_server live n ≡ false → eqb new.id.server n ≡ false → has_server (live ++ new ∷ []) n ≡ false
pushed_server [] new n none other = or_false _ _ other refl
pushed_server (m ∷ live) new n none other = let parts = neither _ _ none in or_false _ _ parts.0 (pushed_server live new n parts.1 other)

pushed_apart : (live : List Mirror) (new : Mirror) → are_on_different_servers live ≡ true → has_server live new.id.server ≡ false → are_on_different_servers (live ++ new ∷ []) ≡ true
pushed_apart [] new h none = refl
pushed_apart (m ∷ live) new h none =
    let parts = and_parts _ _ h in
    let first = neither _ _ none in
    both _ _ (ap not (pushed_server live new m.id.server (not_true _ parts.0) (turned first.0))) (pushed_apart live new parts.1 first.1)
  where
    turned : eqb m.id.server new.id.server ≡ false → eqb new.id.server m.id.server ≡ false
    turned e = ne_eqb new.id.server m.id.server (λ same. eqb-false m.id.server new.id.server e (sym same))

-- each target that was made is on its server
abbrev pub IsOnServer : CopyTarget → Type 0
IsOnServer t = (m : Mirror) → t.made ≡ Some m → m.id.server ≡ t.server

pub swap_apart : (targets : List CopyTarget) (live : List Mirror) → AllByRecursion IsOnServer targets → are_on_different_servers live ≡ true → IsPlan live (map site_of targets) → are_on_different_servers (with_targets (flat_map (λ t. swap_of t t.made) targets) live) ≡ true
swap_apart [] live on apart plan = apart
swap_apart (t ∷ targets) live on apart plan =
    let parts = and_parts _ _ plan.apart in
    by_made t.made refl (λ more less. swap_apart targets more on.1 less.0 less.1) parts.0 (record { fits = plan.fits.1; apart = parts.1 })
  where
    fits_pushed : (new : Mirror) (sites : List Site) → new.id.server ≡ t.server → list_any (λ j. eqb j t.server) (site_servers sites) ≡ false → AllByRecursion (λ x. FitsIn live x.server x.replaced) sites → AllByRecursion (λ x. FitsIn (live ++ new ∷ []) x.server x.replaced) sites
    fits_pushed new [] at none h = tt
    fits_pushed new (x ∷ sites) at none h =
        let parts = neither _ _ none in
        (by_replaced x.replaced parts.0 h.0, fits_pushed new sites at parts.1 h.1)
      where
        by_replaced : (o : Option MirrorId) → eqb x.server t.server ≡ false → FitsIn live x.server o → FitsIn (live ++ new ∷ []) x.server o
        by_replaced None other k = pushed_server live new x.server k (ne_eqb new.id.server x.server (λ same. eqb-false x.server t.server other (sym same ∙ at)))
        by_replaced (Some id) other k = k

    by_old : (m : Mirror) → m.id.server ≡ t.server → (o : Option MirrorId) → t.replaced ≡ o → ((more : List Mirror) → (are_on_different_servers more ≡ true) × IsPlan more (map site_of targets) → are_on_different_servers (with_targets (flat_map (λ x. swap_of x x.made) targets) more) ≡ true)
        → not (list_any (λ j. eqb j t.server) (site_servers (map site_of targets))) ≡ true → IsPlan live (map site_of targets) → FitsIn live t.server o → are_on_different_servers (with_targets (flat_map (λ x. swap_of x x.made) targets) (in_place (record { new = m; old = o }) o live)) ≡ true
    by_old m at None is goes other rest fits =
        goes (live ++ m ∷ []) (pushed_apart live m apart (ap (has_server live) at ∙ fits), record { fits = fits_pushed m (map site_of targets) at (not_true _ other) rest.fits; apart = rest.apart })
    by_old m at (Some old) is goes other rest fits =
        goes (map (λ x. cond (is_mirror x.id old) m x) live)
        (placed_apart old m (fits ∙ sym at) live apart, plan_more live (map (λ x. cond (is_mirror x.id old) m x) live) (λ n none. placed_server old m (fits ∙ sym at) live n ∙ none) (map site_of targets) rest)

    by_made : (made : Option Mirror) → t.made ≡ made → ((more : List Mirror) → (are_on_different_servers more ≡ true) × IsPlan more (map site_of targets) → are_on_different_servers (with_targets (flat_map (λ x. swap_of x x.made) targets) more) ≡ true)
        → not (list_any (λ j. eqb j t.server) (site_servers (map site_of targets))) ≡ true → IsPlan live (map site_of targets) → are_on_different_servers (with_targets (swap_of t made ++ flat_map (λ x. swap_of x x.made) targets) live) ≡ true
    by_made None is goes other rest = goes live (apart, rest)
    by_made (Some m) is goes other rest = by_old m (on.0 m is) t.replaced refl goes other rest plan.fits.0
