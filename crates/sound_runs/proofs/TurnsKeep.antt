-- Every turn of a file keeps what its view says by its phase.
use Rattle.std.proofs.Common.{◌≡◌, ℕ, ◌<◌, ◌≤◌, ◌⊎◌, true, false, List, [], ◌∷◌, length, Option, Some, None, refl, sym, ap, subst, ◌∙◌, inl, inr, arith}
use Rattle.std.specs.List.{AllByRecursion}
use Rattle.cluster_model.specs.declared.ids.FileId.{FileId}
use Rattle.cluster_model.specs.declared.ids.Cred.{Cred}
use Rattle.cluster_model.specs.declared.ids.MirrorId.{MirrorId}
use Rattle.cluster_model.specs.declared.ids.Mirror.{Mirror}
use Rattle.cluster_model.specs.declared.entry.Entry.{Entry}
use Rattle.cluster_model.specs.declared.entry.Entry.TheVariants as entry
use Rattle.cluster_model.specs.declared.targets.SwappedIn.{SwappedIn}
use Rattle.cluster_model.specs.declared.layout_state.LayoutState.{LayoutState}
use Rattle.cluster_model.specs.declared.layout_state.LayoutPhase.{LayoutPhase}
use Rattle.cluster_model.specs.declared.layout_state.LayoutPhase.TheVariants.{Making, Free, Held, Fencing, Settling, Copying}
use Rattle.cluster_model.specs.declared.layout_state.FenceEnd.{FenceEnd}
use Rattle.cluster_model.specs.declared.layout_state.FenceEnd.TheVariants.{Clean, Dirty, Copied}
use Rattle.cluster_model.specs.declared.layout_state.CopyKind.{CopyKind}
use Rattle.cluster_model.specs.declared.layout_state.CopyKind.TheVariants.{Replacing, Adding}
use Rattle.cluster_model.specs.Mirrors.{are_on_different_servers}
use Rattle.cluster_model.specs.Phases.{ids_of, swapped_entries, with_phase, after_loss, free_with, phase_fenced, free_entries, with_targets}
use Rattle.file_rule.specs.MdsFiles.{a_uid}
use Rattle.cluster_laws.specs.Machine.{file_id}
use Rattle.cluster_laws.specs.FenceLaw.{first_free, live_by}
use Rattle.sound_journals.specs.Views.{FileView, view_after, view_by}
use Rattle.sound_journals.specs.Sound.{AllLive, IsFineList, IsFineLive}
use Rattle.cluster_laws.proofs.Lists.{all_more}
use Rattle.cluster_laws.proofs.Lives.{all_swapped}
use Rattle.cluster_laws.proofs.Invariant.{live_of}
use Rattle.sound_runs.proofs.FileTurns.{IsGoodTarget, IsCopyPhase, Settles, Copies, is_making, FileTurn, Rests, Learnt, Recalled, Grants, EndsDirty, EndsClean, Resilvers, Makes, Loses, FenceDone, Frees, CopyBegins, CopySwaps}
use Rattle.sound_runs.proofs.FileSo.{IsStillFree, HasDirtyEnd, IsEndSo, IsCopySo, IsPhaseSo, CannotReach, IsReached, IsFileSo, IsFreedSo, FirstSo, AgainSo, CleanSo, DirtySo, AreEntriesSo, with_live, freed_view, freed_is}
use Rattle.sound_runs.proofs.FineLists.{ids_apart, fine_by}
use Rattle.sound_runs.proofs.TurnLists.{swaps_all, swaps_view, swaps_users, AreApartLive, IsApartOf, NoPeriod, PastPeriod, swaps_so, swaps_fine}
use Rattle.sound_runs.proofs.TurnKept.{ends_with, still_with, reach_free, same_period, TurnKept, alike_so, rephased, lost, freed_so, grants_kept, dirty_kept, ends_kept}

at_least : (P : MirrorId → ℕ) (next u : ℕ) (ids : List MirrorId) → u < next → AllByRecursion (λ m. P m ≡ next) ids → AllByRecursion (λ m. u < P m) ids
at_least P next u ids less h = all_more (λ m. P m ≡ next) (λ m. u < P m) ids (λ m e. omega (arith, e, less)) h

copy_live : (copies : CopyKind) (p : LayoutPhase) (ids : List MirrorId) → IsCopyPhase copies p → live_of p ids ≡ Some ids
copy_live copies p ids Settles = refl
copy_live copies p ids (Copies copier) = refl

copy_so : (v : FileView) (copies : CopyKind) (p : LayoutPhase) (cred : ℕ) → IsCopyPhase copies p → IsPhaseSo v p cred → IsCopySo v copies cred
copy_so v copies p cred Settles h = h
copy_so v copies p cred (Copies copier) h = h

-- what a copy frees: nothing was granted since, or a period ended dirty and its user reaches no mirror
copy_frees : (v : FileView) (copies : CopyKind) (cred : ℕ) (mirrors : List MirrorId) → IsCopySo v copies cred → IsFreedSo v mirrors
copy_frees v Replacing cred mirrors h = DirtySo h.dirty.uid h.dirty.ends h.reach
copy_frees v Adding cred mirrors h = AgainSo h

copy_reach : (v : FileView) (copies : CopyKind) (cred u : ℕ) → IsCopySo v copies cred → (v.periods ≡ u ∷ []) ⊎ CannotReach v u → CannotReach v u
copy_reach v Replacing cred u h (inl e) = subst (CannotReach v) (same_period h.dirty.uid u (sym h.dirty.ends.period ∙ e)) h.reach
copy_reach v Replacing cred u h (inr k) = k
copy_reach v Adding cred u h k = reach_free v h.none u k

copy_apart : (v : FileView) (copies : CopyKind) (cred by : ℕ) (ids : List MirrorId) → IsCopySo v copies cred → cred < by → v.live ≡ Some ids → IsApartOf v by ids
copy_apart v Replacing cred by ids h less live = let below = h.dirty.less in PastPeriod h.dirty.uid h.dirty.ends (omega (arith, below, less)) (subst (λ (l : Option (List MirrorId)). AllLive l (λ m. h.dirty.uid < (v.copy m).owner)) live h.reach)
copy_apart v Adding cred by ids h less live = NoPeriod h.none

copy_fence : (v : FileView) (l : Option (List MirrorId)) (copies : CopyKind) (cred next : ℕ) → IsCopySo v copies cred → cred < next → IsStillFree (with_live v l) ⊎ HasDirtyEnd (with_live v l) next
copy_fence v l Replacing cred next h less = let below = h.dirty.less in inr (record { uid = h.dirty.uid; ends = ends_with v l h.dirty.uid false h.dirty.ends; less = omega (arith, below, less) })
copy_fence v l Adding cred next h less = inl (still_with v l h)

all_both : {A : Type 0} (P R Q : A → Type 0) (xs : List A) → ((x : A) → P x → R x → Q x) → AllByRecursion P xs → AllByRecursion R xs → AllByRecursion Q xs
all_both P R Q [] f h k = tt
all_both P R Q (x ∷ xs) f h k = (f x h.0 k.0, all_both P R Q xs f h.1 k.1)

module _ (n : ℕ) where
  abbrev f : FileId
  f = file_id n

  -- ---- a fence is done

  fence_kept : (v : FileView) (users : List ℕ) (s : LayoutState) (next : Cred) (end : FenceEnd) → s.phase ≡ Fencing next end → AllByRecursion (λ id. (v.copy id).owner ≡ next.0) (ids_of s.live) → IsFileSo v users s
      → TurnKept n v users (record { wanted = s.wanted; cred = next; live = s.live; phase = phase_fenced end }) (entry.Fenced f s.cred next (ids_of s.live) ∷ free_entries f end s.live)
  fence_kept v users s next end is owners h =
      let so : (s.cred.0 < next.0) × IsEndSo v end s.cred.0 next.0 = subst (λ (p : LayoutPhase). IsPhaseSo v p s.cred.0) is h.phase in
      let now : v.live ≡ Some (ids_of s.live) = h.live ∙ ap (λ (p : LayoutPhase). live_of p (ids_of s.live)) is in
      by_end end so now
    where
      least : s.cred.0 < next.0 → AllByRecursion (λ u. u ≤ next.0) users
      least less = all_more (λ u. u ≤ s.cred.0) (λ u. u ≤ next.0) users (λ u k. omega (arith, k, less)) h.least

      past : v.live ≡ Some (ids_of s.live) → (u : ℕ) → u < next.0 → CannotReach v u
      past now u less = subst (λ (l : Option (List MirrorId)). AllLive l (λ m. u < (v.copy m).owner)) (sym now) (at_least (λ m. (v.copy m).owner) next.0 u (ids_of s.live) less owners)

      reach : v.live ≡ Some (ids_of s.live) → s.cred.0 < next.0 → AllByRecursion (CannotReach v) users
      reach now less = all_more (λ u. u ≤ s.cred.0) (CannotReach v) users (λ u k. past now u (omega (arith, k, less))) h.least

      frees : (e : FenceEnd) → s.cred.0 < next.0 → v.live ≡ Some (ids_of s.live) → phase_fenced e ≡ Free → free_entries f e s.live ≡ entry.Free f (ids_of s.live) ∷ [] → IsFreedSo v (ids_of s.live)
          → TurnKept n v users (record { wanted = s.wanted; cred = next; live = s.live; phase = phase_fenced e }) (entry.Fenced f s.cred next (ids_of s.live) ∷ free_entries f e s.live)
      frees e less now free entries freed =
          subst (λ (l : List Entry). TurnKept n v users (record { wanted = s.wanted; cred = next; live = s.live; phase = phase_fenced e }) (entry.Fenced f s.cred next (ids_of s.live) ∷ l)) (sym entries)
          (record { so = freed_so n v users (record { wanted = s.wanted; cred = next; live = s.live; phase = phase_fenced e }) now h.fine free (least less) (reach now less); entries_so = (tt, (freed, tt)) })

      by_end : (e : FenceEnd) → (s.cred.0 < next.0) × IsEndSo v e s.cred.0 next.0 → v.live ≡ Some (ids_of s.live)
          → TurnKept n v users (record { wanted = s.wanted; cred = next; live = s.live; phase = phase_fenced e }) (entry.Fenced f s.cred next (ids_of s.live) ∷ free_entries f e s.live)
      by_end Clean so now = frees Clean so.0 now refl refl (CleanSo s.cred.0 so.1)
      by_end Dirty so now = record {
        so = record {
          live = now;
          fine = h.fine;
          phase = record { dirty = record { uid = s.cred.0; ends = so.1; less = so.0 }; reach = past now s.cred.0 so.0 };
          least = least so.0;
          reach = h.reach;
          made = λ e. absurd cc;
        };
        entries_so = (tt, tt);
      }
      by_end Copied so now = frees Copied so.0 now refl refl (of_copy so.1)
        where
          of_copy : IsStillFree v ⊎ HasDirtyEnd v next.0 → IsFreedSo v (ids_of s.live)
          of_copy (inl k) = AgainSo k
          of_copy (inr k) = DirtySo k.uid k.ends (past now k.uid k.less)

  -- ---- every turn

  frees_kept : (v : FileView) (users : List ℕ) (s : LayoutState) (copies : CopyKind) → IsCopyPhase copies s.phase → IsFileSo v users s → TurnKept n v users (with_phase s Free) (entry.Free f (ids_of s.live) ∷ [])
  frees_kept v users s copies is h =
      let so : IsCopySo v copies s.cred.0 = copy_so v copies s.phase s.cred.0 is h.phase in
      record {
        so = freed_so n v users (with_phase s Free) (h.live ∙ copy_live copies s.phase (ids_of s.live) is) h.fine refl h.least (all_more (λ u. (v.periods ≡ u ∷ []) ⊎ CannotReach v u) (CannotReach v) users (λ u k. copy_reach v copies s.cred.0 u so k) h.reach);
        entries_so = (copy_frees v copies s.cred.0 (ids_of s.live) so, tt);
      }

  makes_kept : (v : FileView) (users : List ℕ) (s : LayoutState) (live : List Mirror) → s.phase ≡ Making → are_on_different_servers live ≡ true → 0 < length (ids_of live) → IsFileSo v users s → TurnKept n v users (free_with s live) (entry.Free f (ids_of live) ∷ [])
  makes_kept v users s live is apart some h =
      let none : v.live ≡ None = h.live ∙ ap (λ (p : LayoutPhase). live_of p (ids_of s.live)) is in
      let base : v.base ≡ None = subst (λ (p : LayoutPhase). IsPhaseSo v p s.cred.0) is h.phase in
      let fine : IsFineList (ids_of live) = fine_by (ids_of live) some (ids_apart live apart) in
      record { so = made_so v users s live none fine h.least (h.made (ap is_making is)); entries_so = (FirstSo base none fine, tt) }
    where
      made_so : (v : FileView) (users : List ℕ) (s : LayoutState) (live : List Mirror) → v.live ≡ None → IsFineList (ids_of live) → AllByRecursion (λ u. u ≤ s.cred.0) users → users ≡ [] → IsFileSo (view_after f v (entry.Free f (ids_of live))) users (free_with s live)
      made_so v users s live none fine least nobody =
          let now : first_free (ids_of live) v.live ≡ Some (ids_of live) = ap (first_free (ids_of live)) none in
          subst (λ (w : FileView). IsFileSo w users (free_with s live)) (sym (freed_is f v (ids_of live))) (record {
            live = now;
            fine = subst IsFineLive (sym now) fine;
            phase = record { none = refl; base = _; freed = refl };
            least = least;
            reach = subst (λ (us : List ℕ). IsReached (freed_view v (ids_of live) true) us) (sym nobody) tt;
            made = λ e. absurd cc;
          })

  swaps_kept : (v : FileView) (users : List ℕ) (s : LayoutState) (copier : Cred) (copies : CopyKind) (by uid : ℕ) (targets : List SwappedIn) → s.phase ≡ Copying copier copies → s.cred.0 < by → by < uid
      → AllByRecursion (IsGoodTarget v by) targets → are_on_different_servers (with_targets targets s.live) ≡ true → IsFileSo v users s
      → TurnKept n v users (record { wanted = s.wanted; cred = a_uid by; live = with_targets targets s.live; phase = Fencing (a_uid uid) Copied }) (swapped_entries f targets)
  swaps_kept v users s copier copies by uid targets is less up good apart h =
      let swaps : List Entry = swapped_entries f targets in
      let now : v.live ≡ Some (ids_of s.live) = h.live ∙ ap (λ (p : LayoutPhase). live_of p (ids_of s.live)) is in
      let so : IsCopySo v copies s.cred.0 = subst (λ (p : LayoutPhase). IsPhaseSo v p s.cred.0) is h.phase in
      let then : live_by f (Some (ids_of s.live)) swaps ≡ Some (ids_of (with_targets targets s.live)) = all_swapped f targets s.live in
      let behind : live_by f v.live swaps ≡ Some (ids_of (with_targets targets s.live)) = ap (λ (l : Option (List MirrorId)). live_by f l swaps) now ∙ then in
      let ids : AreApartLive (Some (ids_of (with_targets targets s.live))) = ids_apart (with_targets targets s.live) apart in
      let fine : IsFineList (ids_of s.live) = subst IsFineLive now h.fine in
      let same : with_live v (Some (ids_of s.live)) ≡ v = ap (λ (l : Option (List MirrorId)). with_live v l) (sym now) in
      record {
        so = subst (λ (us : List ℕ). IsFileSo (view_by f v swaps) us (record { wanted = s.wanted; cred = a_uid by; live = with_targets targets s.live; phase = Fencing (a_uid uid) Copied })) (sym (swaps_users f users targets))
            (subst (λ (w : FileView). IsFileSo w users (record { wanted = s.wanted; cred = a_uid by; live = with_targets targets s.live; phase = Fencing (a_uid uid) Copied })) (sym (swaps_view f v targets)) (record {
              live = behind;
              fine = subst (λ (l : Option (List MirrorId)). IsFineLive (live_by f l swaps)) (sym now) (swaps_fine f v by targets (ids_of s.live) good fine (subst AreApartLive (sym then) ids));
              phase = (up, copy_fence v (live_by f v.live swaps) copies s.cred.0 uid so (omega (arith, less, up)));
              least = all_more (λ u. u ≤ s.cred.0) (λ u. u ≤ by) users (λ u k. omega (arith, k, less)) h.least;
              reach = all_both (λ u. u ≤ s.cred.0) (λ u. (v.periods ≡ u ∷ []) ⊎ CannotReach v u) (λ u. (v.periods ≡ u ∷ []) ⊎ CannotReach (with_live v (live_by f v.live swaps)) u) users (λ u low k. by_user now u (omega (arith, low, less)) k) h.least h.reach;
              made = λ e. absurd cc;
            }));
        entries_so = subst (λ (w : FileView). AreEntriesSo f w swaps) same (swaps_so f v by targets (ids_of s.live) good fine (copy_apart v copies s.cred.0 by (ids_of s.live) so less now) (subst AreApartLive (sym then) ids));
      }
    where
      by_user : v.live ≡ Some (ids_of s.live) → (u : ℕ) → u < by → (v.periods ≡ u ∷ []) ⊎ CannotReach v u → (v.periods ≡ u ∷ []) ⊎ CannotReach (with_live v (live_by f v.live (swapped_entries f targets))) u
      by_user now u below (inl e) = inl e
      by_user now u below (inr k) =
          inr (subst (λ (l : Option (List MirrorId)). AllLive (live_by f l (swapped_entries f targets)) (λ m. u < (v.copy m).owner)) (sym now)
          (swaps_all (λ m. u < (v.copy m).owner) f targets (ids_of s.live) (all_more (IsGoodTarget v by) (λ t. u < (v.copy t.new.id).owner) targets (λ t g. let up = g.owner in omega (arith, up, below)) good) (subst (λ (l : Option (List MirrorId)). AllLive l (λ m. u < (v.copy m).owner)) now k)))

  pub turn_kept : (uid : ℕ) (v : FileView) (users : List ℕ) (s x : LayoutState) (entries : List Entry) → FileTurn n uid v s x entries → IsFileSo v users s → TurnKept n v users x entries
  turn_kept uid v users s x entries (Rests w t) h = record { so = h; entries_so = tt }
  turn_kept uid v users s x entries (Learnt w a t y more e k) h = turn_kept uid v users t x entries k (alike_so v users s t e h)
  turn_kept uid v users s x entries (Recalled w t holder is_recalled is) h = record {
    so = rephased v users s (Held holder true) h (ap (λ (p : LayoutPhase). live_of p (ids_of s.live)) is) (subst (λ (p : LayoutPhase). IsPhaseSo v p s.cred.0) is h.phase) refl;
    entries_so = tt;
  }
  turn_kept uid v users s x entries (Grants w t holder writes is blank taken) h = grants_kept n v users s holder writes is blank taken h
  turn_kept uid v users s x entries (EndsDirty w t holder is_recalled cause is dirty less) h = dirty_kept n v users s holder is_recalled cause uid is dirty less h
  turn_kept uid v users s x entries (EndsClean w t holder is_recalled causes m kept told cause is some with_told clean covered apart less) h = ends_kept n v users s holder is_recalled causes m kept told cause uid is some with_told clean covered apart less h
  turn_kept uid v users s x entries (Resilvers w t is) h = record {
    so = rephased v users s (Settling Adding) h (ap (λ (p : LayoutPhase). live_of p (ids_of s.live)) is) (subst (λ (p : LayoutPhase). IsPhaseSo v p s.cred.0) is h.phase) refl;
    entries_so = tt;
  }
  turn_kept uid v users s x entries (Makes w t live is apart some) h = makes_kept v users s live is apart some h
  turn_kept uid v users s x entries (Loses w t id cause y more may idle making k) h =
      let one = lost n v users s id cause h may idle making in
      let rest = turn_kept uid (view_after f v (entry.Left f id cause)) users (after_loss s id) x more k one.0 in
      record { so = rest.so; entries_so = (one.1, rest.entries_so) }
  turn_kept uid v users s x entries (FenceDone w t next end is owners) h = fence_kept v users s next end is owners h
  turn_kept uid v users s x entries (Frees w t copies is) h = frees_kept v users s copies is h
  turn_kept uid v users s x entries (CopyBegins w t copies copier is) h = record {
    so = rephased v users s (Copying copier copies) h (ap (λ (p : LayoutPhase). live_of p (ids_of s.live)) is) (subst (λ (p : LayoutPhase). IsPhaseSo v p s.cred.0) is h.phase) refl;
    entries_so = tt;
  }
  turn_kept uid v users s x entries (CopySwaps w t copier copies by o targets is less up good apart) h = swaps_kept v users s copier copies by uid (o ∷ targets) is less up good apart h
