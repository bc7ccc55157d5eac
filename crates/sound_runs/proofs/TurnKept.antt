-- Each turn of a file keeps what its view says by its phase, and its entries are what they have to be.
use Rattle.std.proofs.Common.{◌≡◌, ℕ, ◌<◌, ◌≤◌, ◌⊎◌, Bool, true, false, cond, not, List, [], ◌∷◌, ◌++◌, filter, map, Option, Some, None, is_some, refl, sym, ap, subst, ◌∙◌, inl, inr, arith, eq-eqb}
use Rattle.std.specs.List.{AllByRecursion}
use Rattle.cluster_model.specs.declared.ids.FileId.{FileId}
use Rattle.cluster_model.specs.declared.ids.NodeId.{NodeId}
use Rattle.cluster_model.specs.declared.ids.Cred.{Cred}
use Rattle.cluster_model.specs.declared.ids.MirrorId.{MirrorId}
use Rattle.cluster_model.specs.declared.ids.Mirror.{Mirror}
use Rattle.cluster_model.specs.declared.phase.EndCause.{EndCause}
use Rattle.cluster_model.specs.declared.phase.LeftCause.{LeftCause}
use Rattle.cluster_model.specs.declared.entry.Entry.{Entry}
use Rattle.cluster_model.specs.declared.entry.Entry.TheVariants as entry
use Rattle.cluster_model.specs.declared.layout_state.LayoutState.{LayoutState}
use Rattle.cluster_model.specs.declared.layout_state.LayoutPhase.{LayoutPhase}
use Rattle.cluster_model.specs.declared.layout_state.LayoutPhase.TheVariants.{Making, Free, Held, Fencing, Settling, Copying}
use Rattle.cluster_model.specs.declared.layout_state.FenceEnd.{FenceEnd}
use Rattle.cluster_model.specs.declared.layout_state.FenceEnd.TheVariants.{Clean, Dirty, Copied}
use Rattle.cluster_model.specs.declared.layout_state.CopyKind.TheVariants.{Replacing, Adding}
use Rattle.cluster_model.specs.Journal.{is_mirror}
use Rattle.cluster_model.specs.Mirrors.{are_on_different_servers}
use Rattle.cluster_model.specs.Phases.{ids_of, unreported, left_entries, but_for, is_source, is_clean, with_phase, phase_without, after_loss, fencing}
use Rattle.file_rule.specs.MdsFiles.{a_uid}
use Rattle.cluster_laws.specs.Machine.{file_id}
use Rattle.cluster_laws.specs.FenceLaw.{is_file, first_free, live_by}
use Rattle.cluster_laws.specs.Holders.{IsIn}
use Rattle.sound_journals.specs.Views.{FileView, view_after, view_by}
use Rattle.sound_journals.specs.Sound.{AllLive, IsFineList, IsFineLive, EndsPeriod, IsSentSoundly}
use Rattle.cluster_laws.proofs.Lists.{all_more}
use Rattle.cluster_laws.proofs.Lives.{ids_but_for, all_left, apart_unreported}
use Rattle.cluster_laws.proofs.Invariant.{is_idle, live_of}
use Rattle.sound_runs.proofs.ViewFolds.{view_append, users_by, users_append}
use Rattle.sound_runs.proofs.FileTurns.{IsAlike, IsBlank, IsGrantWith, NoWrite, OneWrite, IsToldWith, NoneTold, OneTold, IsCoveredAt, is_making, MayLeave}
use Rattle.sound_runs.proofs.FileSo.{IsStillFree, HasDirtyEnd, IsEndSo, IsPhaseSo, CannotReach, IsReached, IsFileSo, IsEntrySo, AreEntriesSo, entries_more, own, with_live, freed_view, freed_is, granted_view, without_mirror, left_is}
use Rattle.sound_runs.proofs.FineLists.{ids_apart, leaves_fine}
use Rattle.sound_runs.proofs.TurnLists.{without_all, lefts_all, lefts_view, lefts_users, lefts_so}

-- ---- small facts

pub all_live : (live : Option (List MirrorId)) (P Q : MirrorId → Type 0) → ((m : MirrorId) → P m → Q m) → AllLive live P → AllLive live Q
all_live None P Q f h = tt
all_live (Some live) P Q f h = all_more P Q live f h

none_one : {A : Type 0} (x : A) → ([] ≡ x ∷ []) → ⊥
none_one x e = cc

pub still_with : (v : FileView) (live : Option (List MirrorId)) → IsStillFree v → IsStillFree (with_live v live)
still_with v live h = record { none = h.none; base = h.base; freed = h.freed }

abbrev pub ends_with : (v : FileView) (live : Option (List MirrorId)) (uid : ℕ) (clean : Bool) → EndsPeriod v uid clean → EndsPeriod (with_live v live) uid clean
ends_with v live uid clean h = record { period = h.period; cause = h.cause; causes = h.causes; is_so = h.is_so }

abbrev dirty_with : (v : FileView) (live : Option (List MirrorId)) (next : ℕ) → HasDirtyEnd v next → HasDirtyEnd (with_live v live) next
dirty_with v live next h = record { uid = h.uid; ends = ends_with v live h.uid false h.ends; less = h.less }

-- a period that is not there reaches nothing
pub reach_free : (v : FileView) → v.periods ≡ [] → (u : ℕ) → (v.periods ≡ u ∷ []) ⊎ CannotReach v u → CannotReach v u
reach_free v none u (inl e) = absurd (none_one u (sym none ∙ e))
reach_free v none u (inr h) = h

pub same_period : (u w : ℕ) → u ∷ [] ≡ w ∷ [] → u ≡ w
same_period u w e = cc

pub true_false : true ≡ false → ⊥
true_false e = cc

-- ---- in a phase that a mirror may leave in

phase_lost : (v : FileView) (id : MirrorId) (p : LayoutPhase) (cred : ℕ) (source : Bool) → IsPhaseSo v p cred → is_idle p ≡ false → is_making p ≡ false → IsPhaseSo (with_live v (without_mirror v.live id)) (phase_without p source) cred
phase_lost v id Making cred source h idle making = absurd cc
phase_lost v id Free cred source h idle making = absurd cc
phase_lost v id (Held holder is_recalled) cred source h idle making = absurd cc
phase_lost v id (Fencing next Clean) cred source h idle making = (h.0, ends_with v _ cred true h.1)
phase_lost v id (Fencing next Dirty) cred source h idle making = (h.0, ends_with v _ cred false h.1)
phase_lost v id (Fencing next Copied) cred source h idle making = (h.0, by_end h.1)
  where
    by_end : IsStillFree v ⊎ HasDirtyEnd v next.0 → IsStillFree (with_live v (without_mirror v.live id)) ⊎ HasDirtyEnd (with_live v (without_mirror v.live id)) next.0
    by_end (inl k) = inl (still_with v _ k)
    by_end (inr k) = inr (dirty_with v _ next.0 k)
phase_lost v id (Settling Replacing) cred source h idle making = record { dirty = dirty_with v _ cred h.dirty; reach = without_all (λ m. h.dirty.uid < (v.copy m).owner) v.live id h.reach }
phase_lost v id (Settling Adding) cred source h idle making = still_with v _ h
phase_lost v id (Copying copier Replacing) cred true h idle making = record { dirty = dirty_with v _ cred h.dirty; reach = without_all (λ m. h.dirty.uid < (v.copy m).owner) v.live id h.reach }
phase_lost v id (Copying copier Replacing) cred false h idle making = record { dirty = dirty_with v _ cred h.dirty; reach = without_all (λ m. h.dirty.uid < (v.copy m).owner) v.live id h.reach }
phase_lost v id (Copying copier Adding) cred true h idle making = still_with v _ h
phase_lost v id (Copying copier Adding) cred false h idle making = still_with v _ h

pub live_made : (p : LayoutPhase) (ids : List MirrorId) → is_making p ≡ false → live_of p ids ≡ Some ids
live_made Making ids h = absurd cc
live_made Free ids h = refl
live_made (Held holder is_recalled) ids h = refl
live_made (Fencing next end) ids h = refl
live_made (Settling copies) ids h = refl
live_made (Copying copier copies) ids h = refl

making_lost : (p : LayoutPhase) (source : Bool) → is_making p ≡ false → is_making (phase_without p source) ≡ false
making_lost Making source h = absurd cc
making_lost Free source h = refl
making_lost (Held holder is_recalled) source h = refl
making_lost (Fencing next end) source h = refl
making_lost (Settling copies) source h = refl
making_lost (Copying copier copies) true h = refl
making_lost (Copying copier copies) false h = refl

-- ---- one file

-- behind these entries it is so, and they are what they have to be
pub record TurnKept (n : ℕ) (v : FileView) (users : List ℕ) (x : LayoutState) (entries : List Entry) : Type 0 where
  pub so : IsFileSo (view_by (file_id n) v entries) (users_by (file_id n) users entries) x
  pub entries_so : AreEntriesSo (file_id n) v entries

pub alike_so : (v : FileView) (users : List ℕ) (s t : LayoutState) → IsAlike s t → IsFileSo v users s → IsFileSo v users t
alike_so v users s t e h = record {
  live = h.live ∙ (ap (λ (p : LayoutPhase). live_of p (ids_of s.live)) (sym e.phase) ∙ ap (live_of t.phase) (sym e.ids));
  fine = h.fine;
  phase = subst (λ (p : LayoutPhase). IsPhaseSo v p t.cred.0) (sym e.phase) (subst (λ (c : Cred). IsPhaseSo v s.phase c.0) (sym e.cred) h.phase);
  least = subst (λ (c : Cred). AllByRecursion (λ u. u ≤ c.0) users) (sym e.cred) h.least;
  reach = h.reach;
  made = λ making. h.made (ap is_making (sym e.phase) ∙ making);
}

-- another phase, with the same mirrors
pub rephased : (v : FileView) (users : List ℕ) (s : LayoutState) (p : LayoutPhase) → IsFileSo v users s → live_of s.phase (ids_of s.live) ≡ live_of p (ids_of s.live) → IsPhaseSo v p s.cred.0 → is_making p ≡ false → IsFileSo v users (with_phase s p)
rephased v users s p h live phase not_making = record { live = h.live ∙ live; fine = h.fine; phase = phase; least = h.least; reach = h.reach; made = λ making. absurd (true_false (sym making ∙ not_making)) }

module _ (n : ℕ) where
  abbrev f : FileId
  f = file_id n

  -- ---- a mirror leaves

  pub lost : (v : FileView) (users : List ℕ) (s : LayoutState) (id : MirrorId) (cause : LeftCause) → IsFileSo v users s → MayLeave s.live id → is_idle s.phase ≡ false → is_making s.phase ≡ false
      → IsFileSo (view_after f v (entry.Left f id cause)) users (after_loss s id) × IsEntrySo v (entry.Left f id cause)
  lost v users s id cause h may idle making =
      let now : v.live ≡ Some (ids_of s.live) = h.live ∙ live_made s.phase (ids_of s.live) making in
      let kept : without_mirror v.live id ≡ Some (filter (λ m. not (is_mirror m id)) (ids_of s.live)) = ap (λ l. without_mirror l id) now in
      let fine : IsFineLive (without_mirror v.live id) = subst IsFineLive (sym kept) (leaves_fine s.live id (subst IsFineLive now h.fine) may) in
      let source : Bool = is_source id s.live in (
        subst (λ (w : FileView). IsFileSo w users (after_loss s id)) (sym (left_is f v id cause)) (record {
          live = kept ∙ ap Some (sym (ids_but_for id s.live)) ∙ sym (live_made (phase_without s.phase source) (ids_of (but_for id s.live)) (making_lost s.phase source making));
          fine = fine;
          phase = phase_lost v id s.phase s.cred.0 source h.phase idle making;
          least = h.least;
          reach = all_more (λ u. (v.periods ≡ u ∷ []) ⊎ CannotReach v u) (λ u. (v.periods ≡ u ∷ []) ⊎ CannotReach (with_live v (without_mirror v.live id)) u) users (by_user v id) h.reach;
          made = λ e. absurd (true_false (sym e ∙ making_lost s.phase source making));
        }),
        subst (λ (b : Bool). IsFineLive (cond b (without_mirror v.live id) v.live)) (sym (own f)) fine,
      )
    where
      by_user : (v : FileView) (id : MirrorId) (u : ℕ) → (v.periods ≡ u ∷ []) ⊎ CannotReach v u → (v.periods ≡ u ∷ []) ⊎ CannotReach (with_live v (without_mirror v.live id)) u
      by_user v id u (inl e) = inl e
      by_user v id u (inr k) = inr (without_all (λ m. u < (v.copy m).owner) v.live id k)

  -- ---- a file is free

  -- with all users out of reach
  pub freed_so : (v : FileView) (users : List ℕ) (s : LayoutState) → v.live ≡ Some (ids_of s.live) → IsFineLive v.live → s.phase ≡ Free → AllByRecursion (λ u. u ≤ s.cred.0) users → AllByRecursion (CannotReach v) users
      → IsFileSo (view_after f v (entry.Free f (ids_of s.live))) users s
  freed_so v users s live fine phase least reach =
      let now : first_free (ids_of s.live) v.live ≡ Some (ids_of s.live) = ap (first_free (ids_of s.live)) live in
      subst (λ (w : FileView). IsFileSo w users s) (sym (freed_is f v (ids_of s.live))) (record {
        live = now ∙ sym (ap (λ p. live_of p (ids_of s.live)) phase);
        fine = subst IsFineLive (live ∙ sym now) fine;
        phase = subst (λ (p : LayoutPhase). IsPhaseSo (freed_view v (ids_of s.live) true) p s.cred.0) (sym phase) (record { none = refl; base = _; freed = refl });
        least = least;
        reach = all_more (CannotReach v) (λ u. ((freed_view v (ids_of s.live) true).periods ≡ u ∷ []) ⊎ CannotReach (freed_view v (ids_of s.live) true) u) users
            (λ u k. inr (subst (λ l. AllLive l (λ m. u < (v.copy m).owner)) (live ∙ sym now) k)) reach;
        made = λ e. absurd (true_false (sym e ∙ ap is_making phase));
      })

  -- ---- a grant

  granted_so : (v : FileView) (users : List ℕ) (s : LayoutState) (holder : NodeId) → s.phase ≡ Free → IsBlank v s.cred.0 → IsFileSo v users s
      → IsFileSo (view_after f v (entry.Granted f s.cred holder)) (cond (is_file f f) (s.cred.0 ∷ users) users) (with_phase s (Held holder false))
  granted_so v users s holder free blank h =
      let still : IsStillFree v = subst (λ (p : LayoutPhase). IsPhaseSo v p s.cred.0) free h.phase in
      let period : v.periods ++ s.cred.0 ∷ [] ≡ s.cred.0 ∷ [] = ap (λ (l : List ℕ). l ++ s.cred.0 ∷ []) still.none in
      subst (λ (b : Bool). IsFileSo (granted_view v s.cred.0 b) (cond b (s.cred.0 ∷ users) users) (with_phase s (Held holder false))) (sym (own f)) (record {
        live = h.live ∙ ap (λ (p : LayoutPhase). live_of p (ids_of s.live)) free;
        fine = h.fine;
        phase = (period, blank.causes);
        least = (omega arith, h.least);
        reach = (inl period, all_more (λ u. (v.periods ≡ u ∷ []) ⊎ CannotReach v u) (λ u. ((v.periods ++ s.cred.0 ∷ []) ≡ u ∷ []) ⊎ CannotReach v u) users (λ u k. inr (reach_free v still.none u k)) h.reach);
        made = λ e. absurd cc;
      })

  sent_so : (v : FileView) (users : List ℕ) (s : LayoutState) (holder : NodeId) (is_recalled : Bool) (cred : Cred) (at : ℕ) (bytes : List ℕ) → s.phase ≡ Held holder is_recalled → IsFileSo v users s → IsFileSo (view_after f v (entry.Sent f cred at bytes)) users s
  sent_so v users s holder is_recalled cred at bytes is h = record {
    live = h.live;
    fine = h.fine;
    phase = subst (λ (p : LayoutPhase). IsPhaseSo (view_after f v (entry.Sent f cred at bytes)) p s.cred.0) (sym is) (subst (λ (p : LayoutPhase). IsPhaseSo v p s.cred.0) is h.phase);
    least = h.least;
    reach = h.reach;
    made = h.made;
  }

  first_write : (v w : FileView) (uid at : ℕ) (bytes : List ℕ) → w.sent uid ≡ [] → w.rogue uid ≡ [] → w.causes uid ≡ [] → IsSentSoundly w uid at bytes
  first_write v w uid at bytes sent rogue causes = record {
    not_clean = subst (λ (l : List EndCause). AllByRecursion (λ c. is_clean c ≡ false) l) (sym causes) tt;
    none_strayed = rogue;
    apart = λ x i. absurd (subst (IsIn x) sent i);
  }

  pub grants_kept : (v : FileView) (users : List ℕ) (s : LayoutState) (holder : NodeId) (writes : List Entry) → s.phase ≡ Free → IsBlank v s.cred.0 → IsGrantWith n s.cred writes → IsFileSo v users s
      → TurnKept n v users (with_phase s (Held holder false)) (entry.Granted f s.cred holder ∷ writes)
  grants_kept v users s holder [] free blank NoWrite h = record { so = granted_so v users s holder free blank h; entries_so = ((subst (λ (p : LayoutPhase). IsPhaseSo v p s.cred.0) free h.phase, blank), tt) }
  grants_kept v users s holder writes free blank (OneWrite at bytes some) h = record {
    so = sent_so (view_after f v (entry.Granted f s.cred holder)) _ (with_phase s (Held holder false)) holder false s.cred at bytes refl (granted_so v users s holder free blank h);
    entries_so = ((subst (λ (p : LayoutPhase). IsPhaseSo v p s.cred.0) free h.phase, blank), (first_write v (view_after f v (entry.Granted f s.cred holder)) s.cred.0 at bytes blank.sent blank.rogue blank.causes, tt));
  }

  -- ---- ends

  ended_causes : (v : FileView) (cred : Cred) (cause : EndCause) → v.causes cred.0 ≡ [] → (view_after f v (entry.Ended f cred cause)).causes cred.0 ≡ cause ∷ []
  ended_causes v cred cause none = ap (λ (b : Bool). cond b (v.causes cred.0 ++ cause ∷ []) (v.causes cred.0)) (eq-eqb cred.0 cred.0 refl) ∙ ap (λ (l : List EndCause). l ++ cause ∷ []) none

  ended_so : (v : FileView) (users : List ℕ) (s : LayoutState) (live : List Mirror) (end : FenceEnd) (uid : ℕ) (cause : EndCause) → v.live ≡ Some (ids_of live) → IsFineLive v.live → v.periods ≡ s.cred.0 ∷ [] → v.causes s.cred.0 ≡ [] → s.cred.0 < uid
      → (EndsPeriod (view_after f v (entry.Ended f s.cred cause)) s.cred.0 (is_clean cause) → IsEndSo (view_after f v (entry.Ended f s.cred cause)) end s.cred.0 uid) → AllByRecursion (λ u. u ≤ s.cred.0) users → IsReached v users
      → IsFileSo (view_after f v (entry.Ended f s.cred cause)) users (fencing s live end (a_uid uid))
  ended_so v users s live end uid cause now fine period none less so least reach = record {
    live = now;
    fine = fine;
    phase = (less, so (record { period = period; cause = cause; causes = ended_causes v s.cred cause none; is_so = refl }));
    least = least;
    reach = reach;
    made = λ e. absurd cc;
  }

  pub dirty_kept : (v : FileView) (users : List ℕ) (s : LayoutState) (holder : NodeId) (is_recalled : Bool) (cause : EndCause) (uid : ℕ) → s.phase ≡ Held holder is_recalled → is_clean cause ≡ false → s.cred.0 < uid → IsFileSo v users s
      → TurnKept n v users (fencing s s.live Dirty (a_uid uid)) (entry.Ended f s.cred cause ∷ [])
  dirty_kept v users s holder is_recalled cause uid is dirty less h =
      let so : (v.periods ≡ s.cred.0 ∷ []) × (v.causes s.cred.0 ≡ []) = subst (λ (p : LayoutPhase). IsPhaseSo v p s.cred.0) is h.phase in
      let w : FileView = view_after f v (entry.Ended f s.cred cause) in
      record {
        so = ended_so v users s s.live Dirty uid cause (h.live ∙ ap (λ (p : LayoutPhase). live_of p (ids_of s.live)) is) h.fine so.0 so.1 less (subst (λ (b : Bool). EndsPeriod w s.cred.0 b → EndsPeriod w s.cred.0 false) (sym dirty) (λ e. e)) h.least h.reach;
        entries_so = ((so.1, record { period = so.0; covered = λ clean. absurd (true_false (sym clean ∙ dirty)) }), tt);
      }

  module _ (s : LayoutState) (uid : ℕ) (m : Mirror) (kept : List Mirror) (cause : EndCause) (clean : is_clean cause ≡ true) (less : s.cred.0 < uid) where
    -- behind the entries of the mirrors that leave
    clean_kept : (v : FileView) (users : List ℕ) (told : List Entry) → IsToldWith n s.cred told → v.live ≡ Some (ids_of (m ∷ kept)) → IsFineLive v.live → v.periods ≡ s.cred.0 ∷ [] → v.causes s.cred.0 ≡ []
        → v.rogue s.cred.0 ≡ [] → AllByRecursion (λ id. AllByRecursion (λ w. IsIn w (v.marks s.cred.0 id).covered) (v.sent s.cred.0)) (ids_of (m ∷ kept)) → AllByRecursion (λ u. u ≤ s.cred.0) users → IsReached v users
        → TurnKept n v users (fencing s (m ∷ kept) Clean (a_uid uid)) (told ++ entry.Ended f s.cred cause ∷ [])
    clean_kept v users told with_told live fine period none rogue covered least reach = by_told told with_told
      where
        so : IsFileSo (view_after f v (entry.Ended f s.cred cause)) users (fencing s (m ∷ kept) Clean (a_uid uid))
        so =
            ended_so v users s (m ∷ kept) Clean uid cause live fine period none less
            (subst (λ (b : Bool). EndsPeriod (view_after f v (entry.Ended f s.cred cause)) s.cred.0 b → EndsPeriod (view_after f v (entry.Ended f s.cred cause)) s.cred.0 true) (sym clean) (λ e. e)) least reach

        ended : IsEntrySo v (entry.Ended f s.cred cause)
        ended = (none, record { period = period; covered = λ e. (rogue, subst (λ (l : Option (List MirrorId)). AllLive l (λ id. AllByRecursion (λ w. IsIn w (v.marks s.cred.0 id).covered) (v.sent s.cred.0))) (sym live) covered) })

        by_told : (t : List Entry) → IsToldWith n s.cred t → TurnKept n v users (fencing s (m ∷ kept) Clean (a_uid uid)) (t ++ entry.Ended f s.cred cause ∷ [])
        by_told t NoneTold = record { so = so; entries_so = (ended, tt) }
        by_told t (OneTold at bytes) = record { so = so; entries_so = (tt, (ended, tt)) }

  pub ends_kept : (v : FileView) (users : List ℕ) (s : LayoutState) (holder : NodeId) (is_recalled : Bool) (causes : List (Option LeftCause)) (m : Mirror) (kept : List Mirror) (told : List Entry) (cause : EndCause) (uid : ℕ) → s.phase ≡ Held holder is_recalled
      → unreported (map is_some causes) s.live ≡ m ∷ kept → IsToldWith n s.cred told → is_clean cause ≡ true → IsCoveredAt v s.cred.0 (ids_of (m ∷ kept)) → are_on_different_servers s.live ≡ true → s.cred.0 < uid → IsFileSo v users s
      → TurnKept n v users (fencing s (m ∷ kept) Clean (a_uid uid)) (left_entries f causes s.live ++ (told ++ entry.Ended f s.cred cause ∷ []))
  ends_kept v users s holder is_recalled causes m kept told cause uid is some with_told clean covered apart less h =
      let lefts : List Entry = left_entries f causes s.live in
      let rest : List Entry = told ++ entry.Ended f s.cred cause ∷ [] in
      let so : (v.periods ≡ s.cred.0 ∷ []) × (v.causes s.cred.0 ≡ []) = subst (λ (p : LayoutPhase). IsPhaseSo v p s.cred.0) is h.phase in
      let now : v.live ≡ Some (ids_of s.live) = h.live ∙ ap (λ (p : LayoutPhase). live_of p (ids_of s.live)) is in
      let left : live_by f (Some (ids_of s.live)) lefts ≡ Some (ids_of (m ∷ kept)) = all_left f causes [] s.live apart ∙ ap (λ (l : List Mirror). Some (ids_of l)) some in
      let behind : live_by f v.live lefts ≡ Some (ids_of (m ∷ kept)) = ap (λ (l : Option (List MirrorId)). live_by f l lefts) now ∙ left in
      let fine : IsFineLive (live_by f (Some (ids_of s.live)) lefts) = subst IsFineLive (sym left) (kept_fine causes s.live m kept some apart) in
      let view : view_by f v lefts ≡ with_live v (live_by f v.live lefts) = lefts_view f v causes s.live in
      let done = clean_kept s uid m kept cause clean less (with_live v (live_by f v.live lefts)) users told with_told behind (subst IsFineLive (left ∙ sym behind) fine) so.0 so.1 covered.rogue covered.covered h.least
      (all_more (λ u. (v.periods ≡ u ∷ []) ⊎ CannotReach v u) (λ u. (v.periods ≡ u ∷ []) ⊎ CannotReach (with_live v (live_by f v.live lefts)) u) users by_user h.reach) in
      record {
        so = subst (λ (w : FileView). IsFileSo w (users_by f users (lefts ++ rest)) (fencing s (m ∷ kept) Clean (a_uid uid))) (sym (view_append f v lefts rest ∙ ap (λ (w : FileView). view_by f w rest) view))
            (subst (λ (us : List ℕ). IsFileSo (view_by f (with_live v (live_by f v.live lefts)) rest) us (fencing s (m ∷ kept) Clean (a_uid uid))) (sym (users_append f users lefts rest ∙ ap (λ (us : List ℕ). users_by f us rest) (lefts_users f users causes s.live))) done.so);
        entries_so = entries_more f v lefts rest (lefts_so f v (ids_of s.live) causes s.live now (ids_apart s.live apart) fine) (λ w e. subst (λ (x : FileView). AreEntriesSo f x rest) (sym (e ∙ view)) done.entries_so);
      }
    where
      by_user : (u : ℕ) → (v.periods ≡ u ∷ []) ⊎ CannotReach v u → (v.periods ≡ u ∷ []) ⊎ CannotReach (with_live v (live_by f v.live (left_entries f causes s.live))) u
      by_user u (inl e) = inl e
      by_user u (inr k) = inr (lefts_all (λ m. u < (v.copy m).owner) f causes s.live v.live k)

      kept_fine : (causes : List (Option LeftCause)) (live : List Mirror) (m : Mirror) (kept : List Mirror) → unreported (map is_some causes) live ≡ m ∷ kept → are_on_different_servers live ≡ true → IsFineList (ids_of (m ∷ kept))
      kept_fine causes live m kept is apart = ids_apart (m ∷ kept) (ap are_on_different_servers (sym is) ∙ apart_unreported (map is_some causes) live apart)
