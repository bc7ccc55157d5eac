-- Live lists that stay fine: some mirror, and no two on one server.
use Rattle.std.proofs.Common.{◌≡◌, ℕ, ◌<◌, Bool, true, false, ◌&&◌, ◌||◌, eqb, cond, not, List, [], ◌∷◌, filter, length, Option, Some, None, refl, sym, ap, subst, ◌∙◌, arith}
use Rattle.std.proofs.lemmas.Bool.{cond_both, and_parts, eqb-true, eqb-false, ne_eqb}
use Rattle.cluster_model.specs.declared.ids.FileId.{FileId}
use Rattle.cluster_model.specs.declared.ids.MirrorId.{MirrorId}
use Rattle.cluster_model.specs.declared.ids.Mirror.{Mirror}
use Rattle.cluster_model.specs.declared.phase.LeftCause.{LeftCause}
use Rattle.cluster_model.specs.Journal.{is_mirror}
use Rattle.cluster_model.specs.Mirrors.{has_server, are_on_different_servers}
use Rattle.cluster_model.specs.Phases.{ids_of, left_entries}
use Rattle.cluster_laws.specs.FenceLaw.{live_by}
use Rattle.cluster_laws.specs.Agreement.{is_on, AreOnDifferentServers}
use Rattle.sound_journals.specs.Sound.{IsFineList, IsFineLive}
use Rattle.cluster_laws.proofs.Lives.{not_true}
use Rattle.sound_runs.proofs.FileTurns.{MayLeave, NotLast, NotFirst}
use Rattle.sound_runs.proofs.FileSo.{own}

-- ---- ids and mirrors

ids_on : (live : List Mirror) (n : ℕ) → is_on n (ids_of live) ≡ has_server live n
ids_on [] n = refl
ids_on (m ∷ live) n = ap (λ b. eqb m.id.server n || b) (ids_on live n)

pub ids_apart : (live : List Mirror) → are_on_different_servers live ≡ true → AreOnDifferentServers (ids_of live)
ids_apart [] h = tt
ids_apart (m ∷ live) h =
    let parts = and_parts _ _ h in
    (ids_on live m.id.server ∙ not_true _ parts.0, ids_apart live parts.1)

pub fine_by : (live : List MirrorId) → 0 < length live → AreOnDifferentServers live → IsFineList live
fine_by [] some h = absurd (omega (arith, some))
fine_by (m ∷ live) some h = h

pub fine_apart : (live : List MirrorId) → IsFineList live → AreOnDifferentServers live
fine_apart [] h = absurd h
fine_apart (m ∷ live) h = h

-- ---- a mirror leaves

or_no : (a b : Bool) → (a || b) ≡ false → (a ≡ false) × (b ≡ false)
or_no true b h = absurd cc
or_no false b h = (refl, h)

on_filter : (p : MirrorId → Bool) (live : List MirrorId) (n : ℕ) → is_on n live ≡ false → is_on n (filter p live) ≡ false
on_filter p [] n h = refl
on_filter p (m ∷ live) n h =
    let parts = or_no (eqb m.server n) (is_on n live) h in
    let rest = on_filter p live n parts.1 in
    cond_both (p m) (m ∷ filter p live) (filter p live) (λ (l : List MirrorId). is_on n l ≡ false) (λ e. ap (λ b. b || is_on n (filter p live)) parts.0 ∙ rest) (λ e. rest)

pub filter_apart : (p : MirrorId → Bool) (live : List MirrorId) → AreOnDifferentServers live → AreOnDifferentServers (filter p live)
filter_apart p [] h = tt
filter_apart p (m ∷ live) h =
    cond_both (p m) (m ∷ filter p live) (filter p live) AreOnDifferentServers (λ e. (on_filter p live m.server h.0, filter_apart p live h.1)) (λ e. filter_apart p live h.1)

kept_first : (p : MirrorId → Bool) (m : MirrorId) (live : List MirrorId) → p m ≡ true → AreOnDifferentServers (m ∷ live) → IsFineList (filter p (m ∷ live))
kept_first p m live is h = subst (λ (b : Bool). IsFineList (cond b (m ∷ filter p live) (filter p live))) (sym is) (on_filter p live m.server h.0, filter_apart p live h.1)

-- the next one stays where the first leaves
kept_second : (p : MirrorId → Bool) (m k : MirrorId) (live : List MirrorId) → p k ≡ true → AreOnDifferentServers (m ∷ k ∷ live) → IsFineList (filter p (m ∷ k ∷ live))
kept_second p m k live is h =
    cond_both (p m) (m ∷ filter p (k ∷ live)) (filter p (k ∷ live)) IsFineList (λ e. (on_filter p (k ∷ live) m.server h.0, filter_apart p (k ∷ live) h.1)) (λ e. kept_first p k live is h.1)

apart_mirrors : (a b id : MirrorId) → eqb b.server a.server ≡ false → is_mirror a id ≡ true → is_mirror b id ≡ false
apart_mirrors a b id ne is =
    let same : a.server ≡ id.server = eqb-true a.server id.server (and_parts _ _ is).0 in
    ap (λ c. c && eqb b.fileid id.fileid) (ne_eqb b.server id.server (λ e. eqb-false b.server a.server ne (e ∙ sym same)))

pub leaves_fine : (live : List Mirror) (id : MirrorId) → IsFineList (ids_of live) → MayLeave live id → IsFineList (filter (λ m. not (is_mirror m id)) (ids_of live))
leaves_fine [] id fine may = absurd fine
leaves_fine (m ∷ []) id fine (NotLast last) = absurd cc
leaves_fine (m ∷ []) id fine (NotFirst first) = kept_first (λ k. not (is_mirror k id)) m.id [] (ap not first) fine
leaves_fine (m ∷ k ∷ live) id fine (NotFirst first) = kept_first (λ k. not (is_mirror k id)) m.id (ids_of (k ∷ live)) (ap not first) fine
leaves_fine (m ∷ k ∷ live) id fine (NotLast last) = by_test (is_mirror m.id id) refl
  where
    by_test : (b : Bool) → is_mirror m.id id ≡ b → IsFineList (filter (λ x. not (is_mirror x id)) (ids_of (m ∷ k ∷ live)))
    by_test true e = kept_second (λ x. not (is_mirror x id)) m.id k.id (ids_of live) (ap not (apart_mirrors m.id k.id id (or_no _ _ fine.0).0 e)) fine
    by_test false e = kept_first (λ x. not (is_mirror x id)) m.id (ids_of (k ∷ live)) (ap not e) fine

-- ---- mirrors that were reported leave

none_back : (f : FileId) (causes : List (Option LeftCause)) (live : List Mirror) → live_by f (Some []) (left_entries f causes live) ≡ Some []
none_back f causes [] = refl
none_back f [] (m ∷ live) = refl
none_back f (None ∷ causes) (m ∷ live) = none_back f causes live
none_back f (Some cause ∷ causes) (m ∷ live) = ap (λ b. live_by f (cond b (Some []) (Some [])) (left_entries f causes live)) (own f) ∙ none_back f causes live

-- what is left behind them was some before
pub some_before : (f : FileId) (causes : List (Option LeftCause)) (live : List Mirror) (ids : List MirrorId) → AreOnDifferentServers ids → IsFineLive (live_by f (Some ids) (left_entries f causes live)) → IsFineList ids
some_before f causes live [] apart fine = subst IsFineLive (none_back f causes live) fine
some_before f causes live (m ∷ ids) apart fine = apart
