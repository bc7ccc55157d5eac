-- Each row of the table of phases tells the file's own live list: what its entries make of the list before it is the list behind it.
use Rattle.std.proofs.Common.{◌≡◌, ℕ, ◌+◌, Bool, true, false, cond, List, [], ◌∷◌, ◌++◌, length, Option, Some, None, refl, sym, ap, subst, ◌∙◌}
use Rattle.std.specs.Prelude.{◌==◌, ◌&&◌, not, nat_lt, slice_get, map, filter, is_some, if◌then◌else◌}
use Rattle.std.specs.List.{list_all, list_any, AllByRecursion}
use Rattle.std.proofs.lemmas.Bool.{cond_both}
use Rattle.cluster_model.specs.declared.limits.TheConstants.{MAX_TIMEOUTS}
use Rattle.cluster_model.specs.declared.ids.NodeId.{NodeId}
use Rattle.cluster_model.specs.declared.ids.NodeId.TheVariants.{Mds, Server, Client}
use Rattle.cluster_model.specs.declared.ids.FileId.{FileId}
use Rattle.cluster_model.specs.declared.ids.Cred.{Cred}
use Rattle.cluster_model.specs.declared.ids.Mirror.{Mirror}
use Rattle.cluster_model.specs.declared.ids.MirrorId.{MirrorId}
use Rattle.cluster_model.specs.declared.phase.EndCause.{EndCause}
use Rattle.cluster_model.specs.declared.phase.EndCause.TheVariants.{Returned, Own}
use Rattle.cluster_model.specs.declared.phase.LeftCause.{LeftCause}
use Rattle.cluster_model.specs.declared.phase.LeftCause.TheVariants.{Error, Timeouts}
use Rattle.cluster_model.specs.declared.ds_call.Shown.{Shown}
use Rattle.cluster_model.specs.declared.call_stage.CallStage.{CallStage}
use Rattle.cluster_model.specs.declared.call_stage.CallStage.TheVariants.{Waits, Out, KeptOut, KeptBack, Done, GivenUp}
use Rattle.cluster_model.specs.declared.entry.Entry.{Entry}
use Rattle.cluster_model.specs.declared.entry.Entry.TheVariants as entry
use Rattle.cluster_model.specs.declared.fence_mirror.FenceMirror.{FenceMirror}
use Rattle.cluster_model.specs.declared.fence_mirror.FenceStep.{FenceStep}
use Rattle.cluster_model.specs.declared.fence_mirror.FenceStep.TheVariants.{Stranger, Acked, Again, Failed as HasFailed}
use Rattle.cluster_model.specs.declared.layout_state.LayoutState.{LayoutState}
use Rattle.cluster_model.specs.declared.layout_state.LayoutPhase.{LayoutPhase}
use Rattle.cluster_model.specs.declared.layout_state.LayoutPhase.TheVariants.{Making, Free, Held, Fencing, Settling, Copying}
use Rattle.cluster_model.specs.declared.layout_state.FenceEnd.TheVariants.{Clean, Dirty, Copied}
use Rattle.cluster_model.specs.declared.layout_state.CopyKind.{CopyKind}
use Rattle.cluster_model.specs.declared.targets.SwappedIn.{SwappedIn}
use Rattle.cluster_model.specs.DsCalls.{DsReplyValue, Created, Set, Written, Committed, Bytes, NotSync, Failed}
use Rattle.cluster_model.specs.Fences.{is_out, is_over, odd_status, FenceState, outstanding_at, on_reply, on_timeout, without, is_done}
use Rattle.cluster_model.specs.Journal.{is_mirror}
use Rattle.cluster_model.specs.Phases.{ids_of, is_last_live, with_phase, is_clean, phase_of, unreported, is_source, left_entries, reported_cause, end_entries, PhaseStep, freed, made, granted, left_with, returned, revoked, mirror_left, fenced_to, fence_entries, fence_done, has_targets, swapped_entries, resilvered}
use Rattle.copy_rule.specs.declared.copy_target.CopyStep.{CopyStep}
use Rattle.copy_rule.specs.declared.copy_target.CopyStep.TheVariants as copy_step
use Rattle.copy_rule.specs.Copies.{CopyState, has_outcome, swaps_of}
use Rattle.copy_rule.specs.Copies as copy
use Rattle.file_rule.specs.declared.creation.Creation.{Creation}
use Rattle.file_rule.specs.declared.fresh.Fresh.{Fresh}
use Rattle.file_rule.specs.MdsFiles.{Creations, Activity, Makes, Fences, Settles, Copies, MdsFile, FileStep, nothing, stays, a_uid, goes_idle, goes_fencing, goes_on, begun_by, with_entries, fenced_on, fence_stepped, shown_by_set, seen_by, mirror_at, with_creation, creation_of, creation_answered, creation_timed_out, all_made, making_on, making_at, making_by, plan_of, copying, settled, source_left, shown_by_commit, seen_at_source, settling_answered, settling_timed_out, copied_by, copied_on, target_left, copy_stepped, Idle}
use Rattle.file_rule.specs.FilePhases.{FileInput, AsksLayout, OwnWrite, Recall, Returns, Revokes, OwnEnds, Resilver, Answers, TimesOut, Ticks, Sees, are_spent, asked_in, held_in, by_client, by_mds, recalled_row, returned_row, revoked_row, own_row, resilvered_in, kind_of, settles_by, answered_in, timed_out_in, ticked, phase}
use Rattle.mds_refusals.specs.Reads.{is_made}
use Rattle.mds_rule.specs.ServedFiles.{is_swap}
use Rattle.cluster_laws.specs.FenceLaw.{live_after, live_by, changed_live, first_free}
use Rattle.cluster_laws.proofs.Invariant.{live_of}
use Rattle.cluster_laws.proofs.Journals.{live_append}
use Rattle.cluster_laws.proofs.Lists.{all_append}
use Rattle.cluster_laws.proofs.Lives.{own_file, ids_but_for, ids_seen, all_swapped}
use Rattle.read_runs.proofs.LiveTold.{IsOf, AreStill, stills_live, stills_of, stills_swap, no_swaps_joined, left_of, left_swaps, swapped_of, live_in_layout, FitsPhase, SwapsLast, HasNone, HasLast, last_swap, Says, made_live, begun_fits, held_fits, ticked_fits, loss_made, loss_live, LeaveSo}

module _ (file : FileId) (fresh : Fresh) where
  abbrev Row : LayoutState → FileStep → Type 0
  Row s x = Says file (live_in_layout s) x

  still : (f : MdsFile) → FitsPhase f.layout.phase f.activity → Row f.layout (nothing f)
  still f fits = record { live = refl; own = tt; swaps = HasNone refl; fits = fits }

  kept : (s : LayoutState) (a : Activity) → FitsPhase s.phase a → Row s (stays s a)
  kept s a fits = record { live = refl; own = tt; swaps = HasNone refl; fits = fits }

  -- ---- a grant, and what comes to a file that is held

  asked_says : (f : MdsFile) (holder : NodeId) (entries : List Entry) (p : LayoutPhase) → f.layout.phase ≡ p → AreStill entries → FitsPhase f.layout.phase f.activity → Row f.layout (asked_in file f holder entries fresh p)
  asked_says f holder entries Making at quiet i = still f i
  asked_says f holder entries Free at quiet i =
      cond_both (are_spent fresh) (nothing f)
      (with_entries (granted file f.layout holder).entries (record { file = record { layout = (granted file f.layout holder).file; activity = f.activity }; entries = entries; uids = 0; names = 0 })) (λ (x : FileStep). Row f.layout x)
      (λ is. still f i)
      (λ off.
      record {
        live = stills_live file entries quiet (live_in_layout f.layout) ∙ ap (λ (q : LayoutPhase). live_of q (ids_of f.layout.live)) at;
        own = (tt, stills_of file entries quiet);
        swaps = HasNone (stills_swap entries quiet);
        fits = held_fits Free (Held holder false) f.activity refl refl (subst (λ (q : LayoutPhase). FitsPhase q f.activity) at i);
      })
  asked_says f holder entries (Held other is_recalled) at quiet i = still f i
  asked_says f holder entries (Fencing next end) at quiet i = still f i
  asked_says f holder entries (Settling copies) at quiet i = still f i
  asked_says f holder entries (Copying copier copies) at quiet i = still f i

  -- it is held
  record IsHeld (f : MdsFile) : Type 0 where
    live : live_in_layout f.layout ≡ Some (ids_of f.layout.live)
    made : is_made (phase_of f.layout.phase) ≡ true

  held_says : (f : MdsFile) (row : NodeId → FileStep) (p : LayoutPhase) → f.layout.phase ≡ p → FitsPhase f.layout.phase f.activity → ((holder : NodeId) → IsHeld f → Row f.layout (row holder)) → Row f.layout (held_in f row p)
  held_says f row Making at i all = still f i
  held_says f row Free at i all = still f i
  held_says f row (Held holder is_recalled) at i all =
      all holder (record { live = ap (λ (q : LayoutPhase). live_of q (ids_of f.layout.live)) at; made = ap (λ (q : LayoutPhase). is_made (phase_of q)) at })
  held_says f row (Fencing next end) at i all = still f i
  held_says f row (Settling copies) at i all = still f i
  held_says f row (Copying copier copies) at i all = still f i

  client_says : (f : MdsFile) (row : ℕ → FileStep) → FitsPhase f.layout.phase f.activity → ((n : ℕ) → Row f.layout (row n)) → (holder : NodeId) → Row f.layout (by_client f row holder)
  client_says f row i all Mds = still f i
  client_says f row i all (Server n) = still f i
  client_says f row i all (Client n) = all n

  mds_says : (f : MdsFile) (row : FileStep) → FitsPhase f.layout.phase f.activity → Row f.layout row → (holder : NodeId) → Row f.layout (by_mds f row holder)
  mds_says f row i its Mds = its
  mds_says f row i its (Server n) = still f i
  mds_says f row i its (Client n) = still f i

  recalled_says : (f : MdsFile) (n : ℕ) → FitsPhase f.layout.phase f.activity → IsHeld f → Row f.layout (recalled_row f n)
  recalled_says f n i held =
      record { live = held.live; own = tt; swaps = HasNone refl; fits = held_fits f.layout.phase (Held (Client n) true) f.activity held.made refl i }

  end_says : (s : LayoutState) (next : Cred) (left : List Entry) (cause : EndCause) (behind : List Mirror) (uid : ℕ) → live_in_layout s ≡ Some (ids_of s.live)
      → live_by file (Some (ids_of s.live)) left ≡ Some (ids_of behind) → AllByRecursion (IsOf file) left → list_any is_swap left ≡ false
      → Row s (goes_fencing (record { file = left_with s next behind; entries = end_entries file s.cred left cause behind }) uid)
  end_says s next left cause [] uid held leave own none = record { live = held; own = (tt, tt); swaps = HasNone refl; fits = tt }
  end_says s next left cause (m ∷ behind) uid held leave own none =
      let ended : List Entry = entry.Ended file s.cred cause ∷ [] in
      record {
        live = ap (λ (w : Option (List MirrorId)). live_by file w (left ++ ended)) held ∙ live_append file (Some (ids_of s.live)) left ended ∙ leave;
        own = all_append (IsOf file) left ended own (tt, tt);
        swaps = HasNone (no_swaps_joined left ended none refl);
        fits = tt;
      }

  returned_says : (f : MdsFile) (client : ℕ) (claimed : Cred) (places : List Bool) (holder : ℕ) → FitsPhase f.layout.phase f.activity → IsHeld f → LeaveSo file f (Returns client claimed places)
      → Row f.layout (returned_row file f client claimed places fresh holder)
  returned_says f client claimed places holder i held leave =
      cond_both (holder == client && (f.layout.cred.0 == claimed.0)) (goes_fencing (returned file f.layout places (a_uid fresh.uid)) fresh.uid) (nothing f) (λ (x : FileStep). Row f.layout x)
      (λ is.
      end_says f.layout (a_uid fresh.uid) (left_entries file (map reported_cause places) f.layout.live) Returned (unreported places f.layout.live) fresh.uid held.live leave
      (left_of file (map reported_cause places) f.layout.live) (left_swaps file (map reported_cause places) f.layout.live))
      (λ off. still f i)

  revoked_says : (f : MdsFile) (cause : EndCause) → FitsPhase f.layout.phase f.activity → IsHeld f → Row f.layout (revoked_row file f cause fresh)
  revoked_says f cause i held =
      cond_both (is_clean cause) (nothing f) (goes_fencing (revoked file f.layout cause (a_uid fresh.uid)) fresh.uid) (λ (x : FileStep). Row f.layout x) (λ is. still f i)
      (λ off. record { live = held.live; own = (tt, tt); swaps = HasNone refl; fits = tt })

  own_says : (f : MdsFile) (causes : List (Option LeftCause)) (at : ℕ) (bytes : List ℕ) → IsHeld f → LeaveSo file f (OwnEnds causes at bytes) → Row f.layout (own_row file f causes (entry.Told file f.layout.cred at bytes) fresh)
  own_says f causes at bytes held leave =
      let told : List Entry = entry.Told file f.layout.cred at bytes ∷ [] in
      let left : List Entry = left_entries file causes f.layout.live in
      end_says f.layout (a_uid fresh.uid) (left ++ told) Own (unreported (map is_some causes) f.layout.live) fresh.uid held.live (live_append file (Some (ids_of f.layout.live)) left told ∙ leave)
      (all_append (IsOf file) left told (left_of file causes f.layout.live) (tt, tt)) (no_swaps_joined left told (left_swaps file causes f.layout.live) refl)

  resilver_says : (f : MdsFile) (p : LayoutPhase) → f.layout.phase ≡ p → FitsPhase f.layout.phase f.activity → Row f.layout (resilvered_in f fresh p)
  resilver_says f Making at i = still f i
  resilver_says f Free at i =
      cond_both (nat_lt (length f.layout.live) f.layout.wanted && (if are_spent fresh then false else true)) (stays (resilvered f.layout) (Settles Waits)) (nothing f) (λ (x : FileStep). Row f.layout x)
      (λ is. record { live = ap (λ (q : LayoutPhase). live_of q (ids_of f.layout.live)) at; own = tt; swaps = HasNone refl; fits = tt }) (λ off. still f i)
  resilver_says f (Held holder is_recalled) at i = still f i
  resilver_says f (Fencing next end) at i = still f i
  resilver_says f (Settling copies) at i = still f i
  resilver_says f (Copying copier copies) at i = still f i

  -- ---- the entry Free

  free_live : (was : Option (List MirrorId)) (ks : List MirrorId) → first_free ks was ≡ Some ks → live_by file was (entry.Free file ks ∷ []) ≡ Some ks
  free_live was ks is = ap (λ (b : Bool). cond b (first_free ks was) was) (own_file file) ∙ is

  -- ---- CREATEs

  on_says : (s : LayoutState) (all : Creations) → s.phase ≡ Making → Row s (making_on file s all)
  on_says s all i =
      cond_both (list_all (λ (c : Creation). is_over c.stage) all.items) (goes_idle (made file s (all_made all)) 0) (stays s (Makes all)) (λ (x : FileStep). Row s x)
      (λ is.
      let ks : List MirrorId = ids_of (all_made all) in
      record { live = free_live (live_in_layout s) ks (ap (λ (q : LayoutPhase). first_free ks (live_of q (ids_of s.live))) i); own = (refl, tt); swaps = HasNone refl; fits = tt })
      (λ off. kept s (Makes all) i)

  making_at_says : (s : LayoutState) (all : Creations) (step : Creation → Creation) (place : ℕ) (o : Option Creation) → s.phase ≡ Making → Row s (making_at file s all step place o)
  making_at_says s all step place None i = kept s (Makes all) i
  making_at_says s all step place (Some c) i = on_says s (with_creation all place (step c)) i

  making_says : (s : LayoutState) (all : Creations) (step : Creation → Creation) (o : Option ℕ) → s.phase ≡ Making → Row s (making_by file s all step o)
  making_says s all step None i = kept s (Makes all) i
  making_says s all step (Some place) i = making_at_says s all step place (slice_get all.items place) i

  -- ---- a mirror that leaves

  lost_live : (s : LayoutState) (id : MirrorId) (cause : LeftCause) → live_after file (live_in_layout s) (entry.Left file id cause) ≡ live_in_layout (mirror_left file s id cause).file
  lost_live s id cause =
      ap (λ (b : Bool). cond b (changed_live (filter (λ m. not (is_mirror m id))) (live_in_layout s)) (live_in_layout s)) (own_file file)
      ∙ loss_live s.phase (is_source id s.live) (filter (λ m. not (is_mirror m id))) (ids_of s.live) (ids_of (mirror_left file s id cause).file.live) (sym (ids_but_for id s.live))

  -- it leaves, and then this follows
  leaves_first : (s : LayoutState) (id : MirrorId) (cause : LeftCause) (x : FileStep) → Row (mirror_left file s id cause).file x → Row s (with_entries (mirror_left file s id cause).entries x)
  leaves_first s id cause x r =
      record { live = ap (λ (w : Option (List MirrorId)). live_by file w x.entries) (lost_live s id cause) ∙ r.live; own = (refl, r.own); swaps = further r.swaps; fits = r.fits }
    where
      further : SwapsLast file x.entries x.file.layout.phase → SwapsLast file (entry.Left file id cause ∷ x.entries) x.file.layout.phase
      further (HasNone none) = HasNone none
      further (HasLast front old new is so) = HasLast (entry.Left file id cause ∷ front) old new (ap (λ l. entry.Left file id cause ∷ l) is) so

  -- ---- a fence

  fence_done_says : (s : LayoutState) (p : LayoutPhase) → s.phase ≡ p
      → Row s (record { file = record { layout = fenced_to s p; activity = begun_by (fenced_to s p).phase }; entries = fence_entries file s p; uids = 0; names = 0 })
  fence_done_says s Making at = record { live = refl; own = tt; swaps = HasNone refl; fits = begun_fits s.phase s.phase }
  fence_done_says s Free at = record { live = refl; own = tt; swaps = HasNone refl; fits = begun_fits s.phase s.phase }
  fence_done_says s (Held holder is_recalled) at = record { live = refl; own = tt; swaps = HasNone refl; fits = begun_fits s.phase s.phase }
  fence_done_says s (Fencing next Clean) at =
      let ks : List MirrorId = ids_of s.live in
      record { live = free_live (live_in_layout s) ks (ap (λ (q : LayoutPhase). first_free ks (live_of q ks)) at); own = (tt, (refl, tt)); swaps = HasNone refl; fits = tt }
  fence_done_says s (Fencing next Dirty) at = record { live = ap (λ (q : LayoutPhase). live_of q (ids_of s.live)) at; own = (tt, tt); swaps = HasNone refl; fits = tt }
  fence_done_says s (Fencing next Copied) at =
      let ks : List MirrorId = ids_of s.live in
      record { live = free_live (live_in_layout s) ks (ap (λ (q : LayoutPhase). first_free ks (live_of q ks)) at); own = (tt, (refl, tt)); swaps = HasNone refl; fits = tt }
  fence_done_says s (Settling copies) at = record { live = refl; own = tt; swaps = HasNone refl; fits = begun_fits s.phase s.phase }
  fence_done_says s (Copying copier copies) at = record { live = refl; own = tt; swaps = HasNone refl; fits = begun_fits s.phase s.phase }

  fenced_on_says : (s : LayoutState) (x : FenceState) → Row s (fenced_on file s x)
  fenced_on_says s x = cond_both (is_done x) (goes_on (fence_done file s)) (stays s (Fences x)) (λ (y : FileStep). Row s y) (λ is. fence_done_says s s.phase refl) (λ off. kept s (Fences x) tt)

  fence_says : (s : LayoutState) (x : FenceState) (step : FenceStep) → Row s (fence_stepped file s x step)
  fence_says s x Stranger = kept s (Fences x) tt
  fence_says s x Acked = fenced_on_says s x
  fence_says s x Again = kept s (Fences x) tt
  fence_says s x (HasFailed id cause) =
      cond_both (is_last_live s.live) (stays s (Fences x)) (with_entries (mirror_left file s id cause).entries (fenced_on file (mirror_left file s id cause).file (without x id))) (λ (y : FileStep). Row s y)
      (λ is. kept s (Fences x) tt) (λ off. leaves_first s id cause (fenced_on file (mirror_left file s id cause).file (without x id)) (fenced_on_says (mirror_left file s id cause).file (without x id)))

  -- a ctime that is seen changes no live list
  seen_live : (s : LayoutState) (o : Option FenceMirror) (shown : Option Shown) → live_in_layout (seen_by s o shown) ≡ live_in_layout s
  seen_live s None shown = refl
  seen_live s (Some m) None = refl
  seen_live s (Some m) (Some shown) = ap (live_of s.phase) (ids_seen m.id shown.seen s.live)

  source_live : (s : LayoutState) (live : List Mirror) (shown : Option Shown) → live_in_layout (seen_at_source s live shown) ≡ live_in_layout s
  source_live s [] shown = refl
  source_live s (m ∷ live) None = refl
  source_live s (m ∷ live) (Some shown) = ap (live_of s.phase) (ids_seen m.id shown.seen s.live)

  source_phase : (s : LayoutState) (live : List Mirror) (shown : Option Shown) → (seen_at_source s live shown).phase ≡ s.phase
  source_phase s [] shown = refl
  source_phase s (m ∷ live) None = refl
  source_phase s (m ∷ live) (Some shown) = refl

  -- ---- the COMMIT of a source

  leaves_says : (s : LayoutState) (live : List Mirror) (cause : LeftCause) (under_way : Activity) → FitsPhase s.phase under_way → Row s (source_left file s live cause under_way)
  leaves_says s [] cause under_way i = kept s under_way i
  leaves_says s (m ∷ live) cause under_way i =
      cond_both (is_last_live s.live) (stays s under_way)
      (record { file = record { layout = (mirror_left file s m.id cause).file; activity = Settles Waits }; entries = (mirror_left file s m.id cause).entries; uids = 0; names = 0 }) (λ (y : FileStep). Row s y)
      (λ is. kept s under_way i) (λ off. record { live = lost_live s m.id cause; own = (refl, tt); swaps = HasNone refl; fits = tt })

  commit_says : (s : LayoutState) (copies : CopyKind) → is_made (phase_of s.phase) ≡ true → Row s (settled file s copies fresh)
  commit_says s copies i = by_targets (has_targets copies (length s.live) s.wanted)
    where
      by_targets : (b : Bool) → Row s (cond {A = FileStep} b
          (copying (cond {A = PhaseStep} b (record { file = with_phase s (Copying (a_uid fresh.uid) copies); entries = [] }) (freed file s)).file fresh (plan_of copies s fresh))
          (goes_idle (cond {A = PhaseStep} b (record { file = with_phase s (Copying (a_uid fresh.uid) copies); entries = [] }) (freed file s)) 0))
      by_targets true = record { live = made_live s.phase (ids_of s.live) i; own = tt; swaps = HasNone refl; fits = refl }
      by_targets false =
          let ks : List MirrorId = ids_of s.live in
          record { live = free_live (live_in_layout s) ks (ap (first_free ks) (made_live s.phase ks i)); own = (refl, tt); swaps = HasNone refl; fits = tt }

  settling_says : (s : LayoutState) (copies : CopyKind) (reply : DsReplyValue) → is_made (phase_of s.phase) ≡ true → Row s (settling_answered file s copies fresh reply)
  settling_says s copies (Created fileid shown) i = leaves_says s s.live (Error odd_status) (Settles KeptBack) tt
  settling_says s copies (Set shown) i = leaves_says s s.live (Error odd_status) (Settles KeptBack) tt
  settling_says s copies (Written shown verifier) i = leaves_says s s.live (Error odd_status) (Settles KeptBack) tt
  settling_says s copies (Committed shown verifier) i = commit_says s copies i
  settling_says s copies (Bytes shown eof bytes) i = leaves_says s s.live (Error odd_status) (Settles KeptBack) tt
  settling_says s copies (NotSync shown) i = leaves_says s s.live (Error odd_status) (Settles KeptBack) tt
  settling_says s copies (Failed status shown) i = leaves_says s s.live (Error status) (Settles KeptBack) tt

  settling_late_says : (s : LayoutState) (stage : CallStage) → Row s (settling_timed_out file s stage)
  settling_late_says s Waits = kept s (Settles Waits) tt
  settling_late_says s (Out xid timeouts) =
      cond_both (nat_lt (timeouts + 1) MAX_TIMEOUTS) (stays s (Settles (Out xid (timeouts + 1)))) (source_left file s s.live Timeouts (Settles (KeptOut xid))) (λ (y : FileStep). Row s y)
      (λ is. kept s (Settles (Out xid (timeouts + 1))) tt) (λ off. leaves_says s s.live Timeouts (Settles (KeptOut xid)) tt)
  settling_late_says s (KeptOut xid) = kept s (Settles (KeptOut xid)) tt
  settling_late_says s KeptBack = kept s (Settles KeptBack) tt
  settling_late_says s Done = kept s (Settles Done) tt
  settling_late_says s GivenUp = kept s (Settles GivenUp) tt

  kind_made : (p : LayoutPhase) (copies : CopyKind) → kind_of p ≡ Some copies → is_made (phase_of p) ≡ true
  kind_made Making copies is = absurd cc
  kind_made Free copies is = refl
  kind_made (Held holder is_recalled) copies is = refl
  kind_made (Fencing next end) copies is = refl
  kind_made (Settling kind) copies is = refl
  kind_made (Copying copier kind) copies is = refl

  settles_says : (f : MdsFile) (row : CopyKind → FileStep) (o : Option CopyKind) → kind_of f.layout.phase ≡ o → FitsPhase f.layout.phase f.activity
      → ((copies : CopyKind) → is_made (phase_of f.layout.phase) ≡ true → Row f.layout (row copies)) → Row f.layout (settles_by f row o)
  settles_says f row None at i all = still f i
  settles_says f row (Some copies) at i all = all copies (kind_made f.layout.phase copies at)

  -- ---- a copy

  copied_by_says : (s : LayoutState) (copier : Cred) (targets : List SwappedIn) → is_made (phase_of s.phase) ≡ true → Row s (copied_by file s copier targets fresh)
  copied_by_says s copier [] i =
      let ks : List MirrorId = ids_of s.live in
      record { live = free_live (live_in_layout s) ks (ap (first_free ks) (made_live s.phase ks i)); own = (refl, tt); swaps = HasNone refl; fits = tt }
  copied_by_says s copier (t ∷ targets) i =
      record {
        live = ap (λ (w : Option (List MirrorId)). live_by file w (swapped_entries file (t ∷ targets))) (made_live s.phase (ids_of s.live) i) ∙ all_swapped file (t ∷ targets) s.live;
        own = swapped_of file (t ∷ targets);
        swaps = last_swap file t targets (Fencing (a_uid fresh.uid) Copied) refl;
        fits = tt;
      }

  copied_says : (s : LayoutState) (c : CopyState) → is_made (phase_of s.phase) ≡ true → Row s (copied_on file s c fresh)
  copied_says s c i =
      cond_both (has_outcome c) (copied_by file s (a_uid c.copier) (swaps_of c) fresh) (stays s (Copies c)) (λ (y : FileStep). Row s y) (λ is. copied_by_says s (a_uid c.copier) (swaps_of c) i) (λ off. kept s (Copies c) i)

  target_says : (s : LayoutState) (c : CopyState) (cause : LeftCause) (o : Option MirrorId) → is_made (phase_of s.phase) ≡ true → Row s (target_left file s c fresh cause o)
  target_says s c cause None i = copied_says s c i
  target_says s c cause (Some id) i =
      leaves_first s id cause (copied_on file (mirror_left file s id cause).file c fresh) (copied_says (mirror_left file s id cause).file c (loss_made s.phase (is_source id s.live) i))

  copy_says : (s : LayoutState) (c : CopyState) (step : CopyStep) → is_made (phase_of s.phase) ≡ true → Row s (copy_stepped file s c fresh step)
  copy_says s c copy_step.Stranger i = kept s (Copies c) i
  copy_says s c copy_step.Waiting i = kept s (Copies c) i
  copy_says s c (copy_step.SourceFailed cause) i = leaves_says s s.live cause (Copies c) i
  copy_says s c (copy_step.TargetFailed server replaced cause) i = target_says s c cause replaced i
  copy_says s c copy_step.Done i = copied_says s c i

  -- ---- answers and timeouts

  answered_says : (f : MdsFile) (xid : ℕ) (reply : DsReplyValue) (a : Activity) → FitsPhase f.layout.phase a → FitsPhase f.layout.phase f.activity → Row f.layout (answered_in file f xid reply fresh a)
  answered_says f xid reply Idle fits i = still f i
  answered_says f xid reply (Makes all) fits i = making_says f.layout all (λ c. creation_answered all c reply) (creation_of all xid) fits
  answered_says f xid reply (Fences x) fits i =
      let s : LayoutState = seen_by f.layout (mirror_at x (outstanding_at x xid)) (shown_by_set reply) in
      subst (λ (w : Option (List MirrorId)). Says file w (fence_stepped file s (on_reply x xid reply).fence (on_reply x xid reply).step)) (seen_live f.layout (mirror_at x (outstanding_at x xid)) (shown_by_set reply))
      (fence_says s (on_reply x xid reply).fence (on_reply x xid reply).step)
  answered_says f xid reply (Settles stage) fits i =
      let s : LayoutState = seen_at_source f.layout f.layout.live (shown_by_commit reply) in
      cond_both (is_out xid stage) (settles_by f (λ copies. settling_answered file s copies fresh reply) (kind_of f.layout.phase)) (nothing f) (λ (y : FileStep). Row f.layout y)
      (λ is.
      settles_says f (λ copies. settling_answered file s copies fresh reply) (kind_of f.layout.phase) refl i
      (λ copies so.
      subst (λ (w : Option (List MirrorId)). Says file w (settling_answered file s copies fresh reply)) (source_live f.layout f.layout.live (shown_by_commit reply))
      (settling_says s copies reply (ap (λ (q : LayoutPhase). is_made (phase_of q)) (source_phase f.layout f.layout.live (shown_by_commit reply)) ∙ so))))
      (λ off. still f i)
  answered_says f xid reply (Copies c) fits i = copy_says f.layout (copy.on_reply c xid reply).copy (copy.on_reply c xid reply).step fits

  late_says : (f : MdsFile) (xid : ℕ) (a : Activity) → FitsPhase f.layout.phase a → FitsPhase f.layout.phase f.activity → Row f.layout (timed_out_in file f xid fresh a)
  late_says f xid Idle fits i = still f i
  late_says f xid (Makes all) fits i = making_says f.layout all (creation_timed_out all) (creation_of all xid) fits
  late_says f xid (Fences x) fits i = fence_says f.layout (on_timeout x xid).fence (on_timeout x xid).step
  late_says f xid (Settles stage) fits i = cond_both (is_out xid stage) (settling_timed_out file f.layout stage) (nothing f) (λ (y : FileStep). Row f.layout y) (λ is. settling_late_says f.layout stage) (λ off. still f i)
  late_says f xid (Copies c) fits i = copy_says f.layout (copy.on_timeout c xid).copy (copy.on_timeout c xid).step fits

  -- each input of the table
  pub phase_says : (f : MdsFile) (input : FileInput) → FitsPhase f.layout.phase f.activity → LeaveSo file f input → Says file (live_in_layout f.layout) (phase file f input fresh)
  phase_says f (AsksLayout client) i leave = asked_says f (Client client) [] f.layout.phase refl tt i
  phase_says f (OwnWrite at bytes) i leave = asked_says f Mds (entry.Sent file f.layout.cred at bytes ∷ []) f.layout.phase refl (refl, tt) i
  phase_says f Recall i leave = held_says f (by_client f (recalled_row f)) f.layout.phase refl i (λ holder held. client_says f (recalled_row f) i (λ n. recalled_says f n i held) holder)
  phase_says f (Returns client claimed places) i leave =
      held_says f (by_client f (returned_row file f client claimed places fresh)) f.layout.phase refl i
      (λ holder held. client_says f (returned_row file f client claimed places fresh) i (λ n. returned_says f client claimed places n i held leave) holder)
  phase_says f (Revokes cause) i leave =
      held_says f (by_client f (λ client. revoked_row file f cause fresh)) f.layout.phase refl i (λ holder held. client_says f (λ client. revoked_row file f cause fresh) i (λ n. revoked_says f cause i held) holder)
  phase_says f (OwnEnds causes at bytes) i leave =
      held_says f (by_mds f (own_row file f causes (entry.Told file f.layout.cred at bytes) fresh)) f.layout.phase refl i
      (λ holder held. mds_says f (own_row file f causes (entry.Told file f.layout.cred at bytes) fresh) i (own_says f causes at bytes held leave) holder)
  phase_says f Resilver i leave = resilver_says f f.layout.phase refl i
  phase_says f (Answers xid reply) i leave = answered_says f xid reply f.activity i i
  phase_says f (TimesOut xid) i leave = late_says f xid f.activity i i
  phase_says f Ticks i leave = kept f.layout (ticked f.activity) (ticked_fits f.layout.phase f.activity i)
  phase_says f (Sees id seen) i leave = record { live = ap (live_of f.layout.phase) (sym (ids_seen id seen f.layout.live)); own = tt; swaps = HasNone refl; fits = i }
