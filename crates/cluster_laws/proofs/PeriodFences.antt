-- A fence goes on, and is done: the periods of its file.
use Rattle.std.proofs.Common.{◌≡◌, ◌≢◌, ℕ, suc, ◌<◌, Bool, true, false, eqb, cond, not, List, [], ◌∷◌, ◌++◌, length, Option, Some, None, refl, sym, ap, subst, ◌∙◌, arith, append_assoc}
use Rattle.std.specs.Prelude.{slice_get, ◌||◌}
use Rattle.std.specs.List.{AllByRecursion}
use Rattle.std.proofs.lemmas.Bool.{cond_both, and_parts, eq-eqb, eqb-true, eqb-false}
use Rattle.cluster_model.specs.declared.tick.Tick.{Tick}
use Rattle.cluster_model.specs.declared.ids.FileId.{FileId}
use Rattle.cluster_model.specs.declared.ids.MirrorId.{MirrorId}
use Rattle.cluster_model.specs.declared.ids.Mirror.{Mirror}
use Rattle.cluster_model.specs.declared.phase.LeftCause.{LeftCause}
use Rattle.cluster_model.specs.declared.entry.Entry.{Entry}
use Rattle.cluster_model.specs.declared.entry.Entry.TheVariants as entry
use Rattle.cluster_model.specs.declared.ds_call.Shown.{Shown}
use Rattle.cluster_model.specs.declared.fence_mirror.FenceMirror.{FenceMirror}
use Rattle.cluster_model.specs.declared.fence_mirror.FenceStep.{FenceStep}
use Rattle.cluster_model.specs.declared.fence_mirror.FenceStep.TheVariants.{Stranger, Acked, Again, Failed as HasFailed}
use Rattle.cluster_model.specs.declared.layout_state.LayoutState.{LayoutState}
use Rattle.cluster_model.specs.declared.layout_state.LayoutPhase.{LayoutPhase}
use Rattle.cluster_model.specs.declared.layout_state.LayoutPhase.TheVariants.{Fencing}
use Rattle.cluster_model.specs.declared.layout_state.FenceEnd.{FenceEnd}
use Rattle.cluster_model.specs.declared.layout_state.FenceEnd.TheVariants.{Clean, Dirty, Copied}
use Rattle.cluster_model.specs.Journal.{is_mirror}
use Rattle.cluster_model.specs.Mirrors.{has_server, are_on_different_servers}
use Rattle.cluster_model.specs.DsCalls.{DsReplyValue}
use Rattle.cluster_model.specs.Fences.{FenceState, MirrorStep, outstanding_at, step_at, step_from, on_reply, on_timeout, without, is_done}
use Rattle.cluster_model.specs.Phases.{ids_of, but_for, is_last_live, is_source, phase_without, after_loss, mirror_left, seen_at, with_live, fenced_to, fence_entries, fence_done}
use Rattle.file_rule.specs.MdsFiles.{Idle, Fences, MdsFile, FileStep, stays, goes_on, begun_by, with_entries, fenced_on, fence_failed, fence_stepped, shown_by_set, seen_by, mirror_at, fence_answered, fence_timed_out}
use Rattle.cluster_laws.specs.Machine.{file_id}
use Rattle.cluster_laws.specs.Periods.{owed_behind, owed_after, owed_in, user_when_free, user_after, user_in}
use Rattle.cluster_laws.proofs.Invariant.{If}
use Rattle.cluster_laws.proofs.Lives.{own_file, apart_seen}
use Rattle.cluster_laws.proofs.PeriodFacts.{granted_in, none_granted, granted_append, owed_append, user_append, owed_then, user_then, fenced_of, free_of, left_still}
use Rattle.cluster_laws.proofs.PeriodStates.{IsMine, IsUnused, owed_of, IsFencingSo, IsPeriod, PeriodRow, still_unused}
use Rattle.cluster_laws.proofs.PeriodRows.{as_before}

-- ---- live lists that are not empty

pub some_more : {A : Type 0} (x : A) (xs : List A) → 0 < length (x ∷ xs)
some_more x xs = omega arith

pub length_ids : (live : List Mirror) → length (ids_of live) ≡ length live
length_ids [] = refl
length_ids (m ∷ live) = ap suc (length_ids live)

pub length_seen : (id : MirrorId) (tick : Tick) (live : List Mirror) → length (seen_at id tick live) ≡ length live
length_seen id tick [] = refl
length_seen id tick (m ∷ live) = ap suc (length_seen id tick live)

-- one of two mirrors on different servers is not this one, so one stays
stays_one : (id : MirrorId) (a b : Mirror) (live : List Mirror) → eqb b.id.server a.id.server ≡ false → 0 < length (but_for id (a ∷ b ∷ live))
stays_one id a b live apart = by_first (is_mirror a.id id) refl
  where
    by_second : (t : Bool) → is_mirror b.id id ≡ t → is_mirror a.id id ≡ true → 0 < length (cond (not t) (b ∷ but_for id live) (but_for id live))
    by_second false other first = some_more b (but_for id live)
    by_second true same first =
        let x : a.id.server ≡ id.server = eqb-true _ _ (and_parts _ _ first).0 in
        let y : b.id.server ≡ id.server = eqb-true _ _ (and_parts _ _ same).0 in
        absurd (eqb-false b.id.server a.id.server apart (y ∙ sym x))

    by_first : (t : Bool) → is_mirror a.id id ≡ t → 0 < length (cond (not t) (a ∷ but_for id (b ∷ live)) (but_for id (b ∷ live)))
    by_first false other = some_more a (but_for id (b ∷ live))
    by_first true first = by_second (is_mirror b.id id) refl first

-- a mirror leaves that is not the last
pub but_for_some : (id : MirrorId) (live : List Mirror) → are_on_different_servers live ≡ true → is_last_live live ≡ false → 0 < length (but_for id live)
but_for_some id [] apart last = absurd cc
but_for_some id (a ∷ []) apart last = absurd cc
but_for_some id (a ∷ b ∷ live) apart last = stays_one id a b live (first (eqb b.id.server a.id.server) (has_server live a.id.server) (none _ (and_parts _ _ apart).0))
  where
    none : (t : Bool) → not t ≡ true → t ≡ false
    none true e = absurd cc
    none false e = refl

    first : (x y : Bool) → (x || y) ≡ false → x ≡ false
    first true y e = absurd cc
    first false y e = refl

-- ---- behind the entry of a mirror that leaves

pub behind_left : (whose : ℕ → ℕ) (next_uid : ℕ) (journal : List Entry) (n : ℕ) (g : MdsFile) (id : MirrorId) (cause : LeftCause) (entries : List Entry)
    → PeriodRow whose next_uid (journal ++ entry.Left (file_id n) id cause ∷ []) n g entries → PeriodRow whose next_uid journal n g (entry.Left (file_id n) id cause ∷ entries)
behind_left whose next_uid journal n g id cause entries row = record {
  place = (tt, row.place);
  of_file = (λ k other. (left_still (file_id n) id cause).none (file_id k), row.of_file);
  grants = (tt, row.grants);
  tells = (refl, row.tells);
  period = subst (λ (j : List Entry). IsPeriod whose next_uid j n g) (append_assoc journal (entry.Left (file_id n) id cause ∷ []) entries) row.period;
}

-- who is owed a fence gets it
paid : (end : FenceEnd) (uid : ℕ) (live : List Mirror) → 0 < length live → owed_behind uid (ids_of live) (owed_of end uid) ≡ None
paid end uid [] some = absurd (omega (arith, some))
paid Clean uid (m ∷ live) some = ap (λ (b : Bool). cond b None (Some uid)) (eq-eqb uid uid refl)
paid Dirty uid (m ∷ live) some = ap (λ (b : Bool). cond b None (Some uid)) (eq-eqb uid uid refl)
paid Copied uid (m ∷ live) some = refl

module _ (whose : ℕ → ℕ) (next_uid n : ℕ) (journal : List Entry) (s : LayoutState) (cred : ℕ) (so : IsFencingSo whose next_uid journal n s cred) where
  abbrev f : FileId
  f = file_id n

  abbrev fence : Entry
  fence = entry.Fenced f s.cred so.next (ids_of s.live)

  abbrev free : Entry
  free = entry.Free f (ids_of s.live)

  owed_now : owed_after f (owed_in journal f) fence ≡ None
  owed_now =
      ap (λ (b : Bool). cond b (owed_behind s.cred.0 (ids_of s.live) (owed_in journal f)) (owed_in journal f)) (own_file f)
      ∙ ap (owed_behind s.cred.0 (ids_of s.live)) so.owed ∙ paid so.end s.cred.0 s.live so.some

  user_now : user_after f journal (user_in journal f) fence ≡ Some so.next.0
  user_now = ap (λ (b : Bool). cond b (Some so.next.0) (user_in journal f)) (own_file f)

  some_ids : 0 < length (ids_of s.live)
  some_ids = let some = so.some in let same = length_ids s.live in omega (arith, some, same)

  mine_now : IsMine whose next_uid n so.next.0
  mine_now = subst (IsMine whose next_uid n) (sym so.fresh) so.mine

  unused_now : (entries : List Entry) → AllByRecursion (λ e. If (granted_in e) (λ u. u ≢ so.next.0)) entries → IsUnused (journal ++ entries) so.next.0
  unused_now entries none = granted_append so.next.0 journal entries (subst (IsUnused journal) (sym so.fresh) so.unused) (none_granted so.next.0 entries none)

  -- the fence stands, and the file is free
  freed : PeriodRow whose next_uid journal n (record { layout = fenced_to s (Fencing so.next Clean); activity = Idle }) (fence ∷ free ∷ [])
  freed = record {
    place = (some_ids, (record { fenced = owed_then f journal fence ∙ owed_now; some = some_ids; alike = λ none. absurd (is_some (user_then f journal fence ∙ user_now) none) }, tt));
    of_file = (fenced_of n s.cred so.next (ids_of s.live), (free_of n (ids_of s.live), tt));
    grants = (tt, (tt, tt));
    tells = (refl, (refl, tt));
    period = record {
      mine = mine_now;
      active = record {
        fenced = record {
          some = so.some;
          owed = owed_append f None journal (fence ∷ free ∷ []) ∙ owed_now;
          user = user_append f [] None journal (fence ∷ free ∷ [])
              ∙ ap (λ (b : Bool). cond b (user_when_free (journal ++ fence ∷ []) (ids_of s.live) (user_after f journal (user_in journal f) fence)) (user_after f journal (user_in journal f) fence)) (own_file f)
              ∙ ap (user_when_free (journal ++ fence ∷ []) (ids_of s.live)) user_now;
        };
        unused = λ e. unused_now (fence ∷ free ∷ []) (tt, (tt, tt));
      };
    };
  }
    where
      is_some : {x : Option ℕ} → x ≡ Some so.next.0 → x ≡ None → ⊥
      is_some a b = no (sym a ∙ b)
        where
          no : Some so.next.0 ≡ None → ⊥
          no e = absurd cc

  by_end : (end : FenceEnd) → PeriodRow whose next_uid journal n (record { layout = fenced_to s (Fencing so.next end); activity = begun_by (fenced_to s (Fencing so.next end)).phase }) (fence_entries f s (Fencing so.next end))
  by_end Clean = freed
  by_end Copied = freed
  by_end Dirty = record {
    place = (some_ids, tt);
    of_file = (fenced_of n s.cred so.next (ids_of s.live), tt);
    grants = (tt, tt);
    tells = (refl, tt);
    period = record {
      mine = mine_now;
      active = record {
        fenced = record { some = so.some; owed = owed_then f journal fence ∙ owed_now; user = user_then f journal fence ∙ user_now };
        unused = unused_now (fence ∷ []) (tt, tt);
      };
    };
  }

  pub done : PeriodRow whose next_uid journal n (record { layout = fenced_to s s.phase; activity = begun_by (fenced_to s s.phase).phase }) (fence_entries f s s.phase)
  done = subst (λ (p : LayoutPhase). PeriodRow whose next_uid journal n (record { layout = fenced_to s p; activity = begun_by (fenced_to s p).phase }) (fence_entries f s p)) (sym so.phase) (by_end so.end)

-- ---- steps of a fence

module _ (whose : ℕ → ℕ) (next_uid n : ℕ) where
  abbrev Row : List Entry → FileStep → Type 0
  Row journal x = PeriodRow whose next_uid journal n x.file x.entries

  fenced_row : (journal : List Entry) (s : LayoutState) (fence : FenceState) → IsMine whose next_uid n s.cred.0 → IsFencingSo whose next_uid journal n s fence.cred → Row journal (fenced_on (file_id n) s fence)
  fenced_row journal s fence mine so =
      cond_both (is_done fence) (goes_on (fence_done (file_id n) s)) (stays s (Fences fence)) (Row journal)
      (λ e. done whose next_uid n journal s fence.cred so) (λ e. as_before whose next_uid journal n _ (record { mine = mine; active = so }))

  module _ (journal : List Entry) (s : LayoutState) (fence : FenceState) (apart : are_on_different_servers s.live ≡ true) (mine : IsMine whose next_uid n s.cred.0) (so : IsFencingSo whose next_uid journal n s fence.cred) where
    same_row : Row journal (stays s (Fences fence))
    same_row = as_before whose next_uid journal n _ (record { mine = mine; active = so })

    failed_row : (id : MirrorId) (cause : LeftCause) → Row journal (fence_failed (file_id n) s fence id cause)
    failed_row id cause =
        let e : Entry = entry.Left (file_id n) id cause in
        let phase : phase_without s.phase (is_source id s.live) ≡ Fencing so.next so.end = ap (λ p. phase_without p (is_source id s.live)) so.phase in
        cond_both (is_last_live s.live) (stays s (Fences fence)) (with_entries (mirror_left (file_id n) s id cause).entries (fenced_on (file_id n) (mirror_left (file_id n) s id cause).file (without fence id))) (Row journal)
        (λ w. same_row)
        (λ w. behind_left whose next_uid journal n _ id cause _
        (fenced_row (journal ++ e ∷ []) (after_loss s id) (without fence id) mine
        (record {
          some = but_for_some id s.live apart w;
          next = so.next;
          end = so.end;
          phase = phase;
          owed = owed_then (file_id n) journal e ∙ so.owed;
          fresh = so.fresh;
          mine = so.mine;
          unused = still_unused journal (e ∷ []) (left_still (file_id n) id cause, tt) fence.cred so.unused;
        })))

    stepped_row : (step : FenceStep) → Row journal (fence_stepped (file_id n) s fence step)
    stepped_row Stranger = same_row
    stepped_row Acked = fenced_row journal s fence mine so
    stepped_row Again = same_row
    stepped_row (HasFailed id cause) = failed_row id cause

  -- the fence stays one to this uid
  same_cred : (x : FenceState) (step : FenceMirror → MirrorStep) (found : Option ℕ) → (step_from x step found).fence.cred ≡ x.cred
  same_cred x step None = refl
  same_cred x step (Some place) = at (slice_get x.mirrors place)
    where
      at : (got : Option FenceMirror) → (step_at x step place got).fence.cred ≡ x.cred
      at None = refl
      at (Some m) = refl

  module _ (journal : List Entry) (s : LayoutState) (apart : are_on_different_servers s.live ≡ true) (mine : IsMine whose next_uid n s.cred.0) where
    pub timeout_row : (fence : FenceState) (xid : ℕ) → IsFencingSo whose next_uid journal n s fence.cred → Row journal (fence_timed_out (file_id n) s fence xid)
    timeout_row fence xid so =
        stepped_row journal s (on_timeout fence xid).fence apart mine (subst (IsFencingSo whose next_uid journal n s) (sym (same_cred fence _ (outstanding_at fence xid))) so) (on_timeout fence xid).step

    by_seen : (m : Option FenceMirror) (shown : Option Shown) (fence : FenceState) (step : FenceStep) → IsFencingSo whose next_uid journal n s fence.cred → Row journal (fence_stepped (file_id n) (seen_by s m shown) fence step)
    by_seen None shown fence step so = stepped_row journal s fence apart mine so step
    by_seen (Some m) None fence step so = stepped_row journal s fence apart mine so step
    by_seen (Some m) (Some shown) fence step so =
        let some = so.some in
        let same = length_seen m.id shown.seen s.live in
        stepped_row journal (with_live s (seen_at m.id shown.seen s.live)) fence (apart_seen m.id shown.seen s.live apart) mine
        (record { some = omega (arith, some, same); next = so.next; end = so.end; phase = so.phase; owed = so.owed; fresh = so.fresh; mine = so.mine; unused = so.unused }) step

    pub reply_row : (fence : FenceState) (xid : ℕ) (reply : DsReplyValue) → IsFencingSo whose next_uid journal n s fence.cred → Row journal (fence_answered (file_id n) s fence xid reply)
    reply_row fence xid reply so =
        by_seen (mirror_at fence (outstanding_at fence xid)) (shown_by_set reply) (on_reply fence xid reply).fence (on_reply fence xid reply).step
        (subst (IsFencingSo whose next_uid journal n s) (sym (same_cred fence _ (outstanding_at fence xid))) so)
