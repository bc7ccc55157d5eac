-- Live lists: mirrors that leave, that are seen, and that come.
use Rattle.std.proofs.Common.{◌≡◌, ℕ, Bool, true, false, eqb, cond, not, ◌&&◌, List, [], ◌∷◌, ◌++◌, map, filter, Option, Some, None, is_some, refl, sym, ap, ◌∙◌, append_assoc}
use Rattle.std.specs.Prelude.{◌||◌}
use Rattle.std.specs.List.{AllByRecursion, list_any}
use Rattle.std.proofs.lemmas.Bool.{and_parts, eqb-false, eq-eqb, ne_eqb}
use Rattle.std.proofs.lemmas.List.Folds.{list_any-append}
use Rattle.cluster_model.specs.declared.tick.Tick.{Tick}
use Rattle.cluster_model.specs.declared.ids.FileId.{FileId}
use Rattle.cluster_model.specs.declared.ids.MirrorId.{MirrorId}
use Rattle.cluster_model.specs.declared.ids.Mirror.{Mirror}
use Rattle.cluster_model.specs.declared.phase.LeftCause.{LeftCause}
use Rattle.cluster_model.specs.Journal.{is_mirror}
use Rattle.cluster_model.specs.Mirrors.{has_server, are_on_different_servers}
use Rattle.cluster_model.specs.Phases.{ids_of, unreported, but_for, seen_if, seen_at, left_entries, in_place, with_targets, swapped_entries}
use Rattle.cluster_model.specs.declared.targets.SwappedIn.{SwappedIn}
use Rattle.cluster_laws.specs.FenceLaw.{is_file, live_by, changed_live, swapped_in}

-- ---- tests

pub both : (a b : Bool) → a ≡ true → b ≡ true → (a && b) ≡ true
both true b h g = g
both false b h g = h

pub not_true : (a : Bool) → not a ≡ true → a ≡ false
not_true true h = absurd cc
not_true false h = refl

unless : (a b : Bool) → (a ≡ true → b ≡ true) → b ≡ false → a ≡ false
unless true b f h = sym (f refl) ∙ h
unless false b f h = refl

pub itself : (m : MirrorId) → is_mirror m m ≡ true
itself m = rw (eq-eqb m.server m.server refl, eq-eqb m.fileid m.fileid refl) refl

pub own_file : (f : FileId) → is_file f f ≡ true
own_file f = eq-eqb f.0 f.0 refl

pub other_server : (a b : MirrorId) → (a.server ≡ b.server → ⊥) → is_mirror a b ≡ false
other_server a b other = ap (λ (t : Bool). t && eqb a.fileid b.fileid) (ne_eqb a.server b.server other)

-- ---- some of them

or_by : (a b c : Bool) → (a || b) ≡ true → (b ≡ true → c ≡ true) → (a || c) ≡ true
or_by true b c e go = refl
or_by false b c e go = go e

or_right : (a b : Bool) → b ≡ true → (a || b) ≡ true
or_right true b e = refl
or_right false b e = e

pub less_filter : (p : Mirror → Bool) (live : List Mirror) (n : ℕ) → has_server (filter p live) n ≡ true → has_server live n ≡ true
less_filter p [] n h = h
less_filter p (m ∷ live) n h = by_test (p m) h (less_filter p live n)
  where
    by_test : (b : Bool) → has_server (cond b (m ∷ filter p live) (filter p live)) n ≡ true → (has_server (filter p live) n ≡ true → has_server live n ≡ true) → (eqb m.id.server n || has_server live n) ≡ true
    by_test true e go = or_by (eqb m.id.server n) (has_server (filter p live) n) (has_server live n) e go
    by_test false e go = or_right (eqb m.id.server n) (has_server live n) (go e)

pub apart_filter : (p : Mirror → Bool) (live : List Mirror) → are_on_different_servers live ≡ true → are_on_different_servers (filter p live) ≡ true
apart_filter p [] h = refl
apart_filter p (m ∷ live) h = by_test (p m) (apart_filter p live (and_parts _ _ h).1)
  where
    by_test : (b : Bool) → are_on_different_servers (filter p live) ≡ true → are_on_different_servers (cond b (m ∷ filter p live) (filter p live)) ≡ true
    by_test true rest = both _ _ (ap not (unless _ _ (less_filter p live m.id.server) (not_true _ (and_parts _ _ h).0))) rest
    by_test false rest = rest

pub all_filter : {A : Type 0} (P : A → Type 0) (p : A → Bool) (xs : List A) → AllByRecursion P xs → AllByRecursion P (filter p xs)
all_filter P p [] h = tt
all_filter P p (x ∷ xs) h = by_test (p x) (all_filter P p xs h.1)
  where
    by_test : (b : Bool) → AllByRecursion P (filter p xs) → AllByRecursion P (cond b (x ∷ filter p xs) (filter p xs))
    by_test true rest = (h.0, rest)
    by_test false rest = rest

pub all_map : {A B : Type 0} (P : A → Type 0) (Q : B → Type 0) (f : A → B) (xs : List A) → ((x : A) → P x → Q (f x)) → AllByRecursion P xs → AllByRecursion Q (map f xs)
all_map P Q f [] g h = tt
all_map P Q f (x ∷ xs) g h = (g x h.0, all_map P Q f xs g h.1)

-- ---- a mirror leaves

pub ids_but_for : (id : MirrorId) (live : List Mirror) → ids_of (but_for id live) ≡ filter (λ k. not (is_mirror k id)) (ids_of live)
ids_but_for id [] = refl
ids_but_for id (m ∷ live) = by_test (not (is_mirror m.id id)) (ids_but_for id live)
  where
    by_test : (b : Bool) → ids_of (but_for id live) ≡ filter (λ k. not (is_mirror k id)) (ids_of live) → ids_of (cond b (m ∷ but_for id live) (but_for id live)) ≡ cond b (m.id ∷ filter (λ k. not (is_mirror k id)) (ids_of live)) (filter (λ k. not (is_mirror k id)) (ids_of live))
    by_test true rest = ap (λ ks. m.id ∷ ks) rest
    by_test false rest = rest

-- ---- mirrors that are reported leave one by one

none_goes : (m : Mirror) (live : List Mirror) → has_server live m.id.server ≡ false → filter (λ k. not (is_mirror k m.id)) (ids_of live) ≡ ids_of live
none_goes m [] h = refl
none_goes m (x ∷ live) h =
    let parts = neither (eqb x.id.server m.id.server) (has_server live m.id.server) h in
    let away : is_mirror x.id m.id ≡ false = other_server x.id m.id (eqb-false _ _ parts.0) in
    ap (λ (b : Bool). cond (not b) (x.id ∷ filter (λ k. not (is_mirror k m.id)) (ids_of live)) (filter (λ k. not (is_mirror k m.id)) (ids_of live))) away ∙ ap (λ ks. x.id ∷ ks) (none_goes m live parts.1)
  where
    neither : (a b : Bool) → (a || b) ≡ false → (a ≡ false) × (b ≡ false)
    neither true b e = absurd cc
    neither false b e = (refl, e)

one_goes : (front live : List Mirror) (m : Mirror) → are_on_different_servers (front ++ m ∷ live) ≡ true → filter (λ k. not (is_mirror k m.id)) (ids_of (front ++ m ∷ live)) ≡ ids_of (front ++ live)
one_goes [] live m h =
    ap (λ (b : Bool). cond (not b) (m.id ∷ filter (λ k. not (is_mirror k m.id)) (ids_of live)) (filter (λ k. not (is_mirror k m.id)) (ids_of live))) (itself m.id)
    ∙ none_goes m live (not_true _ (and_parts _ _ h).0)
one_goes (x ∷ front) live m h =
    let parts = and_parts _ _ h in
    let none : (has_server front x.id.server || (eqb m.id.server x.id.server || has_server live x.id.server)) ≡ false = sym (list_any-append (λ y. eqb y.id.server x.id.server) front (m ∷ live)) ∙ not_true _ parts.0 in
    let away : is_mirror x.id m.id ≡ false = other_server x.id m.id (λ e. eqb-false m.id.server x.id.server (second _ _ _ none) (sym e)) in
    ap (λ (b : Bool). cond (not b) (x.id ∷ filter (λ k. not (is_mirror k m.id)) (ids_of (front ++ m ∷ live))) (filter (λ k. not (is_mirror k m.id)) (ids_of (front ++ m ∷ live)))) away
    ∙ ap (λ ks. x.id ∷ ks) (one_goes front live m parts.1)
  where
    second : (a b c : Bool) → (a || (b || c)) ≡ false → b ≡ false
    second true b c e = absurd cc
    second false true c e = absurd cc
    second false false c e = refl

apart_less : (front live : List Mirror) (m : Mirror) → are_on_different_servers (front ++ m ∷ live) ≡ true → are_on_different_servers (front ++ live) ≡ true
apart_less [] live m h = (and_parts _ _ h).1
apart_less (x ∷ front) live m h =
    let parts = and_parts _ _ h in
    let test = λ (y : Mirror). eqb y.id.server x.id.server in
    let none = sym (list_any-append test front (m ∷ live)) ∙ not_true _ parts.0 in
    both _ _ (ap not (list_any-append test front live ∙ out (list_any test front) (test m) (list_any test live) none)) (apart_less front live m parts.1)
  where
    out : (a b c : Bool) → (a || (b || c)) ≡ false → (a || c) ≡ false
    out true b c e = e
    out false true c e = absurd cc
    out false false c e = e

-- the live list behind the entries of those that are reported
pub all_left : (f : FileId) (causes : List (Option LeftCause)) (front live : List Mirror) → are_on_different_servers (front ++ live) ≡ true
    → live_by f (Some (ids_of (front ++ live))) (left_entries f causes live) ≡ Some (ids_of (front ++ unreported (map is_some causes) live))
all_left f causes front [] h = refl
all_left f [] front (m ∷ live) h = refl
all_left f (None ∷ causes) front (m ∷ live) h =
    let on : front ++ m ∷ live ≡ (front ++ m ∷ []) ++ live = sym (append_assoc front (m ∷ []) live) in
    ap (λ ms. live_by f (Some (ids_of ms)) (left_entries f causes live)) on
    ∙ all_left f causes (front ++ m ∷ []) live (sym (ap are_on_different_servers on) ∙ h)
    ∙ ap (λ ms. Some (ids_of ms)) (append_assoc front (m ∷ []) (unreported (map is_some causes) live))
all_left f (Some cause ∷ causes) front (m ∷ live) h =
    ap (λ (b : Bool). live_by f (cond b (changed_live (filter (λ k. not (is_mirror k m.id))) (Some (ids_of (front ++ m ∷ live)))) (Some (ids_of (front ++ m ∷ live)))) (left_entries f causes live)) (own_file f)
    ∙ ap (λ ks. live_by f (Some ks) (left_entries f causes live)) (one_goes front live m h)
    ∙ all_left f causes front live (apart_less front live m h)

less_unreported : (places : List Bool) (live : List Mirror) (n : ℕ) → has_server (unreported places live) n ≡ true → has_server live n ≡ true
less_unreported places [] n h = h
less_unreported [] (m ∷ live) n h = h
less_unreported (true ∷ places) (m ∷ live) n h = or_right (eqb m.id.server n) _ (less_unreported places live n h)
less_unreported (false ∷ places) (m ∷ live) n h = or_by (eqb m.id.server n) (has_server (unreported places live) n) (has_server live n) h (less_unreported places live n)

pub apart_unreported : (places : List Bool) (live : List Mirror) → are_on_different_servers live ≡ true → are_on_different_servers (unreported places live) ≡ true
apart_unreported places [] h = refl
apart_unreported [] (m ∷ live) h = h
apart_unreported (true ∷ places) (m ∷ live) h = apart_unreported places live (and_parts _ _ h).1
apart_unreported (false ∷ places) (m ∷ live) h =
    let parts = and_parts _ _ h in
    both _ _ (ap not (unless _ _ (less_unreported places live m.id.server) (not_true _ parts.0))) (apart_unreported places live parts.1)

pub all_unreported : (P : Mirror → Type 0) (places : List Bool) (live : List Mirror) → AllByRecursion P live → AllByRecursion P (unreported places live)
all_unreported P places [] h = tt
all_unreported P [] (m ∷ live) h = h
all_unreported P (true ∷ places) (m ∷ live) h = all_unreported P places live h.1
all_unreported P (false ∷ places) (m ∷ live) h = (h.0, all_unreported P places live h.1)

-- ---- ctimes that are seen

pub seen_id : (id : MirrorId) (tick : Tick) (m : Mirror) → (seen_if id tick m).id ≡ m.id
seen_id id tick m = by_test (is_mirror m.id id)
  where
    by_test : (b : Bool) → (cond b (record { id = m.id; seen = tick }) m).id ≡ m.id
    by_test true = refl
    by_test false = refl

pub ids_seen : (id : MirrorId) (tick : Tick) (live : List Mirror) → ids_of (seen_at id tick live) ≡ ids_of live
ids_seen id tick [] = refl
ids_seen id tick (m ∷ live) = ap (λ k. k ∷ ids_of (seen_at id tick live)) (seen_id id tick m) ∙ ap (λ ks. m.id ∷ ks) (ids_seen id tick live)

pub has_seen : (id : MirrorId) (tick : Tick) (live : List Mirror) (n : ℕ) → has_server (seen_at id tick live) n ≡ has_server live n
has_seen id tick [] n = refl
has_seen id tick (m ∷ live) n = ap (λ (k : MirrorId). eqb k.server n || has_server (seen_at id tick live) n) (seen_id id tick m) ∙ ap (λ b. eqb m.id.server n || b) (has_seen id tick live n)

pub apart_seen : (id : MirrorId) (tick : Tick) (live : List Mirror) → are_on_different_servers live ≡ true → are_on_different_servers (seen_at id tick live) ≡ true
apart_seen id tick [] h = refl
apart_seen id tick (m ∷ live) h =
    let parts = and_parts _ _ h in
    both _ _ (ap (λ (k : MirrorId). not (has_server (seen_at id tick live) k.server)) (seen_id id tick m) ∙ ap not (has_seen id tick live m.id.server) ∙ parts.0) (apart_seen id tick live parts.1)

-- ---- mirrors that come

swap_ids : (old : MirrorId) (new : Mirror) (live : List Mirror) → ids_of (map (λ m. cond (is_mirror m.id old) new m) live) ≡ map (λ k. cond (is_mirror k old) new.id k) (ids_of live)
swap_ids old new [] = refl
swap_ids old new (m ∷ live) = by_test (is_mirror m.id old) ∙ ap (λ ks. cond (is_mirror m.id old) new.id m.id ∷ ks) (swap_ids old new live)
  where
    by_test : (b : Bool) → (cond b new m).id ∷ ids_of (map (λ x. cond (is_mirror x.id old) new x) live) ≡ cond b new.id m.id ∷ ids_of (map (λ x. cond (is_mirror x.id old) new x) live)
    by_test true = refl
    by_test false = refl

push_ids : (live : List Mirror) (m : Mirror) → ids_of (live ++ m ∷ []) ≡ ids_of live ++ m.id ∷ []
push_ids [] m = refl
push_ids (x ∷ live) m = ap (λ ks. x.id ∷ ks) (push_ids live m)

place_ids : (t : SwappedIn) (old : Option MirrorId) (live : List Mirror) → swapped_in old t.new.id (ids_of live) ≡ ids_of (in_place t old live)
place_ids t None live = sym (push_ids live t.new)
place_ids t (Some old) live = sym (swap_ids old t.new live)

pub all_swapped : (f : FileId) (targets : List SwappedIn) (live : List Mirror) → live_by f (Some (ids_of live)) (swapped_entries f targets) ≡ Some (ids_of (with_targets targets live))
all_swapped f [] live = refl
all_swapped f (t ∷ targets) live =
    ap (λ (b : Bool). live_by f (cond b (changed_live (swapped_in t.old t.new.id) (Some (ids_of live))) (Some (ids_of live))) (swapped_entries f targets)) (own_file f)
    ∙ ap (λ ks. live_by f (Some ks) (swapped_entries f targets)) (place_ids t t.old live)
    ∙ all_swapped f targets (in_place t t.old live)

all_pushed : (P : Mirror → Type 0) (live : List Mirror) (m : Mirror) → AllByRecursion P live → P m → AllByRecursion P (live ++ m ∷ [])
all_pushed P [] m h k = (k, tt)
all_pushed P (x ∷ live) m h k = (h.0, all_pushed P live m h.1 k)

all_placed : (P : Mirror → Type 0) (t : SwappedIn) (old : Option MirrorId) (live : List Mirror) → AllByRecursion P live → P t.new → AllByRecursion P (in_place t old live)
all_placed P t None live h k = all_pushed P live t.new h k
all_placed P t (Some old) live h k = all_map P P (λ m. cond (is_mirror m.id old) t.new m) live (λ m p. by_test (is_mirror m.id old) m p) h
  where
    by_test : (b : Bool) (m : Mirror) → P m → P (cond b t.new m)
    by_test true m p = k
    by_test false m p = p

pub all_targets : (P : Mirror → Type 0) (targets : List SwappedIn) (live : List Mirror) → AllByRecursion P live → AllByRecursion (λ t. P t.new) targets → AllByRecursion P (with_targets targets live)
all_targets P [] live h k = h
all_targets P (t ∷ targets) live h k = all_targets P targets (in_place t t.old live) (all_placed P t t.old live h k.0) k.1
