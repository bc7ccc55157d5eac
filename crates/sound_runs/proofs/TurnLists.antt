-- Entries of mirrors that leave, and of mirrors that come in, one after the other.
use Rattle.std.proofs.Common.{◌≡◌, ℕ, ◌<◌, ◌≤◌, Bool, true, false, ◌||◌, eqb, cond, not, List, [], ◌∷◌, ◌++◌, filter, map, Option, Some, None, refl, sym, ap, subst, ◌∙◌, arith}
use Rattle.std.specs.List.{AllByRecursion}
use Rattle.std.proofs.lemmas.Bool.{cond_both, and_parts, eqb-true}
use Rattle.cluster_model.specs.declared.ids.FileId.{FileId}
use Rattle.cluster_model.specs.declared.ids.MirrorId.{MirrorId}
use Rattle.cluster_model.specs.declared.ids.Mirror.{Mirror}
use Rattle.cluster_model.specs.declared.phase.LeftCause.{LeftCause}
use Rattle.cluster_model.specs.declared.entry.Entry.TheVariants as entry
use Rattle.cluster_model.specs.declared.targets.SwappedIn.{SwappedIn}
use Rattle.cluster_model.specs.Journal.{is_mirror}
use Rattle.cluster_model.specs.Phases.{left_entries, swapped_entries}
use Rattle.cluster_laws.specs.FenceLaw.{is_file, swapped_in, live_by}
use Rattle.cluster_laws.specs.Agreement.{is_on, AreOnDifferentServers}
use Rattle.sound_journals.specs.Views.{FileView, view_after, view_by}
use Rattle.sound_journals.specs.Sound.{AllLive, IsFineList, IsFineLive, EndsPeriod, IsOutOfReach}
use Rattle.cluster_laws.proofs.Lists.{all_append}
use Rattle.sound_runs.proofs.ViewFolds.{users_by}
use Rattle.sound_runs.proofs.FileTurns.{IsOnServerOf, IsGoodTarget}
use Rattle.sound_runs.proofs.FileSo.{AreEntriesSo, own, with_live, without_mirror, swapped_is}
use Rattle.sound_runs.proofs.FineLists.{filter_apart, some_before}

-- ---- all of a live list

pub filter_all : (P : MirrorId → Type 0) (p : MirrorId → Bool) (live : List MirrorId) → AllByRecursion P live → AllByRecursion P (filter p live)
filter_all P p [] h = tt
filter_all P p (m ∷ live) h = cond_both (p m) (m ∷ filter p live) (filter p live) (AllByRecursion P) (λ e. (h.0, filter_all P p live h.1)) (λ e. filter_all P p live h.1)

pub without_all : (P : MirrorId → Type 0) (live : Option (List MirrorId)) (id : MirrorId) → AllLive live P → AllLive (without_mirror live id) P
without_all P None id h = tt
without_all P (Some live) id h = filter_all P (λ m. not (is_mirror m id)) live h

pub lefts_all : (P : MirrorId → Type 0) (f : FileId) (causes : List (Option LeftCause)) (gone : List Mirror) (live : Option (List MirrorId)) → AllLive live P → AllLive (live_by f live (left_entries f causes gone)) P
lefts_all P f causes [] live h = h
lefts_all P f [] (m ∷ gone) live h = h
lefts_all P f (None ∷ causes) (m ∷ gone) live h = lefts_all P f causes gone live h
lefts_all P f (Some cause ∷ causes) (m ∷ gone) live h =
    lefts_all P f causes gone (cond (is_file f f) (without_mirror live m.id) live) (subst (λ (b : Bool). AllLive (cond b (without_mirror live m.id) live) P) (sym (own f)) (without_all P live m.id h))

map_all : (P : MirrorId → Type 0) (old new : MirrorId) (live : List MirrorId) → AllByRecursion P live → P new → AllByRecursion P (map (λ m. cond (is_mirror m old) new m) live)
map_all P old new [] h k = tt
map_all P old new (m ∷ live) h k = (cond_both (is_mirror m old) new m P (λ e. k) (λ e. h.0), map_all P old new live h.1 k)

pub swapped_all : (P : MirrorId → Type 0) (old : Option MirrorId) (new : MirrorId) (live : List MirrorId) → AllByRecursion P live → P new → AllByRecursion P (swapped_in old new live)
swapped_all P None new live h k = all_append P live (new ∷ []) h (k, tt)
swapped_all P (Some old) new live h k = map_all P old new live h k

pub swaps_all : (P : MirrorId → Type 0) (f : FileId) (targets : List SwappedIn) (live : List MirrorId) → AllByRecursion (λ t. P t.new.id) targets → AllByRecursion P live → AllLive (live_by f (Some live) (swapped_entries f targets)) P
swaps_all P f [] live k h = h
swaps_all P f (t ∷ targets) live k h =
    subst (λ (b : Bool). AllLive (live_by f (cond b (Some (swapped_in t.old t.new.id live)) (Some live)) (swapped_entries f targets)) P) (sym (own f))
    (swaps_all P f targets (swapped_in t.old t.new.id live) k.1 (swapped_all P t.old t.new.id live h k.0))

-- ---- views and users behind them

pub lefts_view : (f : FileId) (v : FileView) (causes : List (Option LeftCause)) (gone : List Mirror) → view_by f v (left_entries f causes gone) ≡ with_live v (live_by f v.live (left_entries f causes gone))
lefts_view f v causes [] = refl
lefts_view f v [] (m ∷ gone) = refl
lefts_view f v (None ∷ causes) (m ∷ gone) = lefts_view f v causes gone
lefts_view f v (Some cause ∷ causes) (m ∷ gone) = lefts_view f (view_after f v (entry.Left f m.id cause)) causes gone

pub lefts_users : (f : FileId) (users : List ℕ) (causes : List (Option LeftCause)) (gone : List Mirror) → users_by f users (left_entries f causes gone) ≡ users
lefts_users f users causes [] = refl
lefts_users f users [] (m ∷ gone) = refl
lefts_users f users (None ∷ causes) (m ∷ gone) = lefts_users f users causes gone
lefts_users f users (Some cause ∷ causes) (m ∷ gone) = lefts_users f users causes gone

pub swaps_view : (f : FileId) (v : FileView) (targets : List SwappedIn) → view_by f v (swapped_entries f targets) ≡ with_live v (live_by f v.live (swapped_entries f targets))
swaps_view f v [] = refl
swaps_view f v (t ∷ targets) = swaps_view f (view_after f v (entry.Swapped f t.old t.new.id)) targets

pub swaps_users : (f : FileId) (users : List ℕ) (targets : List SwappedIn) → users_by f users (swapped_entries f targets) ≡ users
swaps_users f users [] = refl
swaps_users f users (t ∷ targets) = swaps_users f users targets

-- ---- mirrors that leave at the end of a period

pub lefts_so : (f : FileId) (v : FileView) (ids : List MirrorId) (causes : List (Option LeftCause)) (gone : List Mirror) → v.live ≡ Some ids → AreOnDifferentServers ids → IsFineLive (live_by f (Some ids) (left_entries f causes gone)) → AreEntriesSo f v (left_entries f causes gone)
lefts_so f v ids causes [] live apart fine = tt
lefts_so f v ids [] (m ∷ gone) live apart fine = tt
lefts_so f v ids (None ∷ causes) (m ∷ gone) live apart fine = lefts_so f v ids causes gone live apart fine
lefts_so f v ids (Some cause ∷ causes) (m ∷ gone) live apart fine =
    let kept : List MirrorId = filter (λ k. not (is_mirror k m.id)) ids in
    let now : cond (is_file f f) (without_mirror v.live m.id) v.live ≡ Some kept = ap (λ b. cond b (without_mirror v.live m.id) v.live) (own f) ∙ ap (λ l. without_mirror l m.id) live in
    let less : AreOnDifferentServers kept = filter_apart (λ k. not (is_mirror k m.id)) ids apart in
    let behind : IsFineLive (live_by f (Some kept) (left_entries f causes gone)) = subst (λ (b : Bool). IsFineLive (live_by f (cond b (Some kept) (Some ids)) (left_entries f causes gone))) (own f) fine in
    (subst IsFineLive (sym now) (some_before f causes gone kept less behind), lefts_so f (view_after f v (entry.Left f m.id cause)) kept causes gone now less behind)

-- ---- mirrors that come in

same_servers : (old new : MirrorId) → old.server ≡ new.server → (live : List MirrorId) (n : ℕ) → is_on n (map (λ m. cond (is_mirror m old) new m) live) ≡ is_on n live
same_servers old new on [] n = refl
same_servers old new on (m ∷ live) n = ap (λ (k : ℕ). eqb k n || is_on n (map (λ x. cond (is_mirror x old) new x) live)) (by_test (is_mirror m old) refl) ∙ ap (λ b. eqb m.server n || b) (same_servers old new on live n)
  where
    by_test : (b : Bool) → is_mirror m old ≡ b → (cond b new m).server ≡ m.server
    by_test true e = sym on ∙ sym (eqb-true m.server old.server (and_parts _ _ e).0)
    by_test false e = refl

map_back : (old new : MirrorId) → old.server ≡ new.server → (live : List MirrorId) → AreOnDifferentServers (map (λ m. cond (is_mirror m old) new m) live) → AreOnDifferentServers live
map_back old new on [] h = tt
map_back old new on (m ∷ live) h = (ap (λ k. is_on k live) (sym (by_test (is_mirror m old) refl)) ∙ sym (same_servers old new on live (cond (is_mirror m old) new m).server) ∙ h.0, map_back old new on live h.1)
  where
    by_test : (b : Bool) → is_mirror m old ≡ b → (cond b new m).server ≡ m.server
    by_test true e = sym on ∙ sym (eqb-true m.server old.server (and_parts _ _ e).0)
    by_test false e = refl

or_first : (a b : Bool) → (a || b) ≡ false → a ≡ false
or_first true b h = absurd cc
or_first false b h = refl

or_second : (a b : Bool) → (a || b) ≡ false → b ≡ false
or_second true b h = absurd cc
or_second false b h = h

on_front : (live : List MirrorId) (new : MirrorId) (n : ℕ) → is_on n (live ++ new ∷ []) ≡ false → is_on n live ≡ false
on_front [] new n h = refl
on_front (m ∷ live) new n h = ap (λ b. b || is_on n live) (or_first _ _ h) ∙ on_front live new n (or_second _ _ h)

push_back : (live : List MirrorId) (new : MirrorId) → AreOnDifferentServers (live ++ new ∷ []) → AreOnDifferentServers live
push_back [] new h = tt
push_back (m ∷ live) new h = (on_front live new m.server h.0, push_back live new h.1)

swap_back : (old : Option MirrorId) (new : MirrorId) → IsOnServerOf old new → (live : List MirrorId) → AreOnDifferentServers (swapped_in old new live) → AreOnDifferentServers live
swap_back None new on live h = push_back live new h
swap_back (Some old) new on live h = map_back old new on live h

abbrev pub AreApartLive : Option (List MirrorId) → Type 0
AreApartLive None = Unit {0}
AreApartLive (Some live) = AreOnDifferentServers live

swaps_back : (f : FileId) (v : FileView) (by : ℕ) (targets : List SwappedIn) (live : List MirrorId) → AllByRecursion (IsGoodTarget v by) targets → AreApartLive (live_by f (Some live) (swapped_entries f targets)) → AreOnDifferentServers live
swaps_back f v by [] live good h = h
swaps_back f v by (t ∷ targets) live good h =
    swap_back t.old t.new.id good.0.on live
    (swaps_back f v by targets (swapped_in t.old t.new.id live) good.1 (subst (λ (b : Bool). AreApartLive (live_by f (cond b (Some (swapped_in t.old t.new.id live)) (Some live)) (swapped_entries f targets))) (own f) h))

fine_push : (live : List MirrorId) (new : MirrorId) → AreOnDifferentServers (live ++ new ∷ []) → IsFineList (live ++ new ∷ [])
fine_push [] new h = h
fine_push (m ∷ live) new h = h

fine_swap : (old : Option MirrorId) (new : MirrorId) (live : List MirrorId) → IsFineList live → AreOnDifferentServers (swapped_in old new live) → IsFineList (swapped_in old new live)
fine_swap None new live fine h = fine_push live new h
fine_swap (Some old) new [] fine h = absurd fine
fine_swap (Some old) new (m ∷ live) fine h = h

-- out of the reach of the period's user, where there is one
pub data IsApartOf (v : FileView) (by : ℕ) (live : List MirrorId) : Type 0 where
  NoPeriod : v.periods ≡ [] → IsApartOf v by live
  PastPeriod : (uid : ℕ) → EndsPeriod v uid false → uid < by → AllByRecursion (λ m. uid < (v.copy m).owner) live → IsApartOf v by live

ends_with : (v : FileView) (live : Option (List MirrorId)) (uid : ℕ) (clean : Bool) → EndsPeriod v uid clean → EndsPeriod (with_live v live) uid clean
ends_with v live uid clean h = record { period = h.period; cause = h.cause; causes = h.causes; is_so = h.is_so }

out_of : (v : FileView) (by : ℕ) (new : MirrorId) (live : List MirrorId) → by ≤ (v.copy new).owner → IsFineList live → IsApartOf v by live → IsOutOfReach (with_live v (Some live)) new v.periods (Some live)
out_of v by new live up fine (NoPeriod none) = subst (λ (p : List ℕ). IsOutOfReach (with_live v (Some live)) new p (Some live)) (sym none) tt
out_of v by new [] up fine (PastPeriod uid ends less all) = absurd fine
out_of v by new (m ∷ live) up fine (PastPeriod uid ends less all) =
    subst (λ (p : List ℕ). IsOutOfReach (with_live v (Some (m ∷ live))) new p (Some (m ∷ live))) (sym ends.period) (ends_with v (Some (m ∷ live)) uid false ends, all.0, omega (arith, less, up))

apart_on : (v : FileView) (by : ℕ) (t : SwappedIn) (live : List MirrorId) → IsGoodTarget v by t → IsApartOf v by live → IsApartOf v by (swapped_in t.old t.new.id live)
apart_on v by t live good (NoPeriod none) = NoPeriod none
apart_on v by t live good (PastPeriod uid ends less all) = let up = good.owner in PastPeriod uid ends less (swapped_all (λ m. uid < (v.copy m).owner) t.old t.new.id live all (omega (arith, less, up)))

pub swaps_so : (f : FileId) (v : FileView) (by : ℕ) (targets : List SwappedIn) (live : List MirrorId) → AllByRecursion (IsGoodTarget v by) targets → IsFineList live → IsApartOf v by live → AreApartLive (live_by f (Some live) (swapped_entries f targets))
    → AreEntriesSo f (with_live v (Some live)) (swapped_entries f targets)
swaps_so f v by [] live good fine out h = tt
swaps_so f v by (t ∷ targets) live good fine out h =
    let next : List MirrorId = swapped_in t.old t.new.id live in
    let then : AreApartLive (live_by f (Some next) (swapped_entries f targets)) = subst (λ (b : Bool). AreApartLive (live_by f (cond b (Some next) (Some live)) (swapped_entries f targets))) (own f) h in
    let fine_next : IsFineList next = fine_swap t.old t.new.id live fine (swaps_back f v by targets next good.1 then) in (
      (subst (λ (b : Bool). IsFineLive (cond b (Some next) (Some live))) (sym (own f)) fine_next, out_of v by t.new.id live good.0.owner fine out),
      subst (λ (w : FileView). AreEntriesSo f w (swapped_entries f targets)) (sym (swapped_is f (with_live v (Some live)) t.old t.new.id)) (swaps_so f v by targets next good.1 fine_next (apart_on v by t live good.0 out) then),
    )

pub swaps_fine : (f : FileId) (v : FileView) (by : ℕ) (targets : List SwappedIn) (live : List MirrorId) → AllByRecursion (IsGoodTarget v by) targets → IsFineList live → AreApartLive (live_by f (Some live) (swapped_entries f targets)) → IsFineLive (live_by f (Some live) (swapped_entries f targets))
swaps_fine f v by [] live good fine h = fine
swaps_fine f v by (t ∷ targets) live good fine h =
    let next : List MirrorId = swapped_in t.old t.new.id live in
    let then : AreApartLive (live_by f (Some next) (swapped_entries f targets)) = subst (λ (b : Bool). AreApartLive (live_by f (cond b (Some next) (Some live)) (swapped_entries f targets))) (own f) h in
    subst (λ (b : Bool). IsFineLive (live_by f (cond b (Some next) (Some live)) (swapped_entries f targets))) (sym (own f)) (swaps_fine f v by targets next good.1 (fine_swap t.old t.new.id live fine (swaps_back f v by targets next good.1 then)) then)
