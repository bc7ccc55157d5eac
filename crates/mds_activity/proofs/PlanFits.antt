-- That the targets of a plan can come into the live list.
use Rattle.std.proofs.Common.{◌≡◌, ℕ, zero, suc, ◌≤◌, ◌+◌, ◌-◌, Bool, true, false, not, eqb, cond, List, [], ◌∷◌, length, map, filter, take, drop, refl, sym, ap, subst, ◌∙◌, arith}
use Rattle.std.specs.Prelude.{◌==◌, ◌||◌, ◌&&◌}
use Rattle.std.specs.List.{list_any, list_all, range_with_len}
use Rattle.std.proofs.lemmas.Bool.{and_parts, eq-eqb, leb-true, ne_eqb}
use Rattle.cluster_model.specs.declared.ids.Mirror.{Mirror}
use Rattle.cluster_model.specs.declared.ids.MirrorId.{MirrorId}
use Rattle.cluster_model.specs.declared.layout_state.CopyKind.{CopyKind}
use Rattle.cluster_model.specs.declared.layout_state.CopyKind.TheVariants.{Replacing, Adding}
use Rattle.cluster_model.specs.declared.layout_state.LayoutState.{LayoutState}
use Rattle.cluster_model.specs.Journal.{is_mirror}
use Rattle.cluster_model.specs.Mirrors.{has_server, are_on_different_servers, are_mirrors}
use Rattle.cluster_model.specs.declared.ids.FileId.{FileId}
use Rattle.cluster_model.specs.declared.ids.Cred.{Cred}
use Rattle.cluster_model.specs.declared.layout_state.LayoutPhase.TheVariants.{Copying}
use Rattle.cluster_model.specs.Phases.{is_one_of, PhaseStep, has_targets, with_phase, freed, settled_row}
use Rattle.copy_rule.specs.declared.copy_target.Target.{Target}
use Rattle.copy_rule.specs.Copies.{to_make}
use Rattle.file_rule.specs.declared.fresh.Fresh.{Fresh}
use Rattle.file_rule.specs.MdsFiles.{servers_without, replacing, adding, plan_of}
use Rattle.mds_creations.specs.Makings.{are_different}
use Rattle.mds_activity.specs.Targets.{can_come_in, count_added, target_servers, CanAllComeIn}
use Rattle.mds_activity.proofs.Swaps.{both, other_way, not_true}

or_first : (a b : Bool) → a ≡ true → (a || b) ≡ true
or_first true b h = refl
or_first false b h = absurd cc

or_second : (a b : Bool) → b ≡ true → (a || b) ≡ true
or_second true b h = refl
or_second false b h = h

neither : (a b : Bool) → (a || b) ≡ false → (a ≡ false) × (b ≡ false)
neither true b e = absurd cc
neither false b e = (refl, e)

itself : (id : MirrorId) → is_mirror id id ≡ true
itself id = both _ _ (eq-eqb id.server id.server refl) (eq-eqb id.fileid id.fileid refl)

-- ---- mirrors that are replaced

replaced_servers : (name : ℕ) (xs : List Mirror) (n : ℕ) → list_any (λ k. k == n) (target_servers (map to_make (replacing name xs))) ≡ has_server xs n
replaced_servers name [] n = refl
replaced_servers name (m ∷ xs) n = ap (λ b. eqb m.id.server n || b) (replaced_servers (name + 1) xs n)

replaced_apart : (name : ℕ) (xs : List Mirror) → are_on_different_servers xs ≡ true → are_different (target_servers (map to_make (replacing name xs))) ≡ true
replaced_apart name [] apart = refl
replaced_apart name (m ∷ xs) apart =
    let parts = and_parts _ _ apart in
    both _ _ (ap not (replaced_servers (name + 1) xs m.id.server) ∙ parts.0) (replaced_apart (name + 1) xs parts.1)

replaced_count : (name : ℕ) (xs : List Mirror) → count_added (map to_make (replacing name xs)) ≡ 0
replaced_count name [] = refl
replaced_count name (m ∷ xs) = let rest = replaced_count (name + 1) xs in omega (arith, rest)

-- each of them is live, and not the first
replaced_fit : (first : Mirror) (live : List Mirror) (name : ℕ) (xs : List Mirror) → has_server xs first.id.server ≡ false → ((id : MirrorId) → is_one_of id xs ≡ true → is_one_of id (first ∷ live) ≡ true) → list_all (can_come_in (first ∷ live)) (map to_make (replacing name xs)) ≡ true
replaced_fit first live name [] off inside = refl
replaced_fit first live name (m ∷ xs) off inside =
    let parts = neither _ _ off in
    let other : is_mirror first.id m.id ≡ false = ap (λ b. b && eqb first.id.fileid m.id.fileid) (other_way m.id.server first.id.server parts.0) in
    both _ _ (both _ _ (eq-eqb m.id.server m.id.server refl) (both _ _ (ap not other) (inside m.id (or_first _ _ (itself m.id)))))
    (replaced_fit first live (name + 1) xs parts.1 (λ id h. inside id (or_second (is_mirror m.id id) _ h)))

few : (live : List Mirror) → are_mirrors live ≡ true → length live ≤ 4
few live are = leb-true (length live) 4 (and_parts _ _ are).0

replacing_fits : (name : ℕ) (live : List Mirror) → are_mirrors live ≡ true → CanAllComeIn live (map to_make (replacing name (drop 1 live)))
replacing_fits name [] are = record { apart = refl; fit = refl; room = omega arith }
replacing_fits name (first ∷ live) are =
    let apart = and_parts _ _ (and_parts _ _ are).1 in
    let count = replaced_count name live in
    let size = few (first ∷ live) are in
    record {
      apart = replaced_apart name live apart.1;
      fit = replaced_fit first live name live (not_true _ apart.0) (λ id h. or_second (is_mirror first.id id) _ h);
      room = omega (arith, count, size);
    }

-- ---- mirrors that are added

added_servers : (name : ℕ) (ns : List ℕ) → target_servers (map to_make (adding name ns)) ≡ ns
added_servers name [] = refl
added_servers name (n ∷ ns) = ap (λ (rest : List ℕ). n ∷ rest) (added_servers (name + 1) ns)

added_count : (name : ℕ) (ns : List ℕ) → count_added (map to_make (adding name ns)) ≡ length ns
added_count name [] = refl
added_count name (n ∷ ns) = let rest = added_count (name + 1) ns in omega (arith, rest)

added_fit : (live : List Mirror) (name : ℕ) (ns : List ℕ) → list_all (λ n. not (has_server live n)) ns ≡ true → list_all (can_come_in live) (map to_make (adding name ns)) ≡ true
added_fit live name [] free = refl
added_fit live name (n ∷ ns) free = let parts = and_parts _ _ free in both _ _ parts.0 (added_fit live (name + 1) ns parts.1)

passes_more : (p : ℕ → Bool) (n : ℕ) (rest : List ℕ) (b : Bool) → p n ≡ b → list_all p rest ≡ true → list_all p (cond b (n ∷ rest) rest) ≡ true
passes_more p n rest true is h = both _ _ is h
passes_more p n rest false is h = h

filter_passes : (p : ℕ → Bool) (ns : List ℕ) → list_all p (filter p ns) ≡ true
filter_passes p [] = refl
filter_passes p (n ∷ ns) = passes_more p n (filter p ns) (p n) refl (filter_passes p ns)

take_passes : (p : ℕ → Bool) (k : ℕ) (ns : List ℕ) → list_all p ns ≡ true → list_all p (take k ns) ≡ true
take_passes p zero ns h = refl
take_passes p (suc k) [] h = refl
take_passes p (suc k) (n ∷ ns) h = let parts = and_parts _ _ h in both _ _ parts.0 (take_passes p k ns parts.1)

-- a number that is none of a list is none of a part of it
none_more : (n x : ℕ) (rest : List ℕ) (b : Bool) → (x == n) ≡ false → list_any (λ k. k == n) rest ≡ false → list_any (λ k. k == n) (cond b (x ∷ rest) rest) ≡ false
none_more n x rest true other none = ap (λ b. b || list_any (λ k. k == n) rest) other ∙ none
none_more n x rest false other none = none

none_filtered : (p : ℕ → Bool) (n : ℕ) (ns : List ℕ) → list_any (λ k. k == n) ns ≡ false → list_any (λ k. k == n) (filter p ns) ≡ false
none_filtered p n [] none = refl
none_filtered p n (x ∷ ns) none = none_more n x (filter p ns) (p x) (neither _ _ none).0 (none_filtered p n ns (neither _ _ none).1)

none_taken : (n k : ℕ) (ns : List ℕ) → list_any (λ j. j == n) ns ≡ false → list_any (λ j. j == n) (take k ns) ≡ false
none_taken n zero ns none = refl
none_taken n (suc k) [] none = refl
none_taken n (suc k) (x ∷ ns) none = ap (λ b. b || list_any (λ j. j == n) (take k ns)) (neither _ _ none).0 ∙ none_taken n k ns (neither _ _ none).1

apart_more : (n : ℕ) (rest : List ℕ) (b : Bool) → list_any (λ k. k == n) rest ≡ false → are_different rest ≡ true → are_different (cond b (n ∷ rest) rest) ≡ true
apart_more n rest true none apart = both _ _ (ap not none) apart
apart_more n rest false none apart = apart

filter_apart : (p : ℕ → Bool) (ns : List ℕ) → are_different ns ≡ true → are_different (filter p ns) ≡ true
filter_apart p [] apart = refl
filter_apart p (n ∷ ns) apart = apart_more n (filter p ns) (p n) (none_filtered p n ns (not_true _ (and_parts _ _ apart).0)) (filter_apart p ns (and_parts _ _ apart).1)

take_apart : (k : ℕ) (ns : List ℕ) → are_different ns ≡ true → are_different (take k ns) ≡ true
take_apart zero ns apart = refl
take_apart (suc k) [] apart = refl
take_apart (suc k) (n ∷ ns) apart = both _ _ (ap not (none_taken n k ns (not_true _ (and_parts _ _ apart).0))) (take_apart k ns (and_parts _ _ apart).1)

none_above : (n first count : ℕ) → n + 1 ≤ first → list_any (λ k. k == n) (range_with_len first count) ≡ false
none_above n first zero h = refl
none_above n first (suc count) h =
    ap (λ b. b || list_any (λ k. k == n) (range_with_len (first + 1) count)) (ne_eqb first n (λ same. let no : first ≡ n = same in absurd (omega (arith, h, no)))) ∙ none_above n (first + 1) count (omega (arith, h))

range_apart : (first count : ℕ) → are_different (range_with_len first count) ≡ true
range_apart first zero = refl
range_apart first (suc count) = both _ _ (ap not (none_above first (first + 1) count (omega arith))) (range_apart (first + 1) count)

taken_few : (k : ℕ) (ns : List ℕ) → length (take k ns) ≤ k
taken_few zero ns = omega arith
taken_few (suc k) [] = omega arith
taken_few (suc k) (n ∷ ns) = let rest = taken_few k ns in omega (arith, rest)

adding_fits : (name wanted count : ℕ) (live : List Mirror) → wanted ≤ 4 → are_mirrors live ≡ true → CanAllComeIn live (map to_make (adding name (take (wanted - length live) (servers_without count live))))
adding_fits name wanted count live limit are =
    let p : ℕ → Bool = λ n. not (has_server live n) in
    let ns : List ℕ = take (wanted - length live) (servers_without count live) in
    let size = few live are in
    let added = added_count name ns in
    let taken = taken_few (wanted - length live) (servers_without count live) in
    record {
      apart = ap are_different (added_servers name ns) ∙ take_apart (wanted - length live) (servers_without count live) (filter_apart p (range_with_len 1 count) (range_apart 1 count));
      fit = added_fit live name ns (take_passes p (wanted - length live) (servers_without count live) (filter_passes p (range_with_len 1 count)));
      room = omega (arith, size, added, taken, limit);
    }

pub plan_fits : (copies : CopyKind) (layout : LayoutState) (fresh : Fresh) → layout.wanted ≤ 4 → are_mirrors layout.live ≡ true → CanAllComeIn layout.live (map to_make (plan_of copies layout fresh))
plan_fits Replacing layout fresh limit are = replacing_fits fresh.name layout.live are
plan_fits Adding layout fresh limit are = adding_fits fresh.name layout.wanted fresh.servers layout.live limit are

settled_live : (file : FileId) (s : LayoutState) (copies : CopyKind) (copier : Cred) → (settled_row file s copies copier).file.live ≡ s.live
settled_live file s copies copier = by_test (has_targets copies (length s.live) s.wanted)
  where
    by_test : (b : Bool) → (cond {A = PhaseStep} b (record { file = with_phase s (Copying copier copies); entries = [] }) (freed file s)).file.live ≡ s.live
    by_test true = refl
    by_test false = refl

-- behind the row of Settling
pub plan_fits_then : (file : FileId) (copies : CopyKind) (old new : LayoutState) (copier : Cred) (fresh : Fresh) (plan plan' : List Target) → old.wanted ≤ 4 → are_mirrors old.live ≡ true → plan ≡ plan_of copies old fresh → plan' ≡ plan → new ≡ (settled_row file old copies copier).file → CanAllComeIn new.live (map to_make plan')
plan_fits_then file copies old new copier fresh plan plan' limit are is same row =
    subst (λ (l : List Mirror). CanAllComeIn l (map to_make plan')) (sym (ap (λ (s : LayoutState). s.live) row ∙ settled_live file old copies copier))
    (subst (λ (l : List Target). CanAllComeIn old.live (map to_make l)) (sym (same ∙ is)) (plan_fits copies old fresh limit are))
