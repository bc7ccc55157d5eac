-- What the entries of one input of the table of phases tell of the file's live mirrors, and when they say that a client was granted the file.
use Rattle.std.proofs.Common.{◌≡◌, ℕ, ◌+◌, Bool, true, false, cond, List, [], ◌∷◌, ◌++◌, length, Option, Some, None, refl, sym, ap, ◌∙◌, inl, inr, ◌⊎◌}
use Rattle.std.specs.Prelude.{◌==◌, ◌&&◌, not, nat_lt, slice_get, map, filter, is_some, if◌then◌else◌}
use Rattle.std.specs.List.{list_all, AllByRecursion}
use Rattle.std.proofs.lemmas.Bool.{cond_both}
use Rattle.cluster_model.specs.declared.limits.TheConstants.{MAX_TIMEOUTS}
use Rattle.cluster_model.specs.declared.ids.NodeId.{NodeId}
use Rattle.cluster_model.specs.declared.ids.NodeId.TheVariants.{Mds, Server, Client}
use Rattle.cluster_model.specs.declared.ids.FileId.{FileId}
use Rattle.cluster_model.specs.declared.ids.Cred.{Cred}
use Rattle.cluster_model.specs.declared.ids.Mirror.{Mirror}
use Rattle.cluster_model.specs.declared.ids.MirrorId.{MirrorId}
use Rattle.cluster_model.specs.declared.phase.EndCause.{EndCause}
use Rattle.cluster_model.specs.declared.phase.EndCause.TheVariants.{Returned, Own}
use Rattle.cluster_model.specs.declared.phase.LeftCause.{LeftCause}
use Rattle.cluster_model.specs.declared.phase.LeftCause.TheVariants.{Error, Timeouts}
use Rattle.cluster_model.specs.declared.ds_call.Shown.{Shown}
use Rattle.cluster_model.specs.declared.call_stage.CallStage.{CallStage}
use Rattle.cluster_model.specs.declared.call_stage.CallStage.TheVariants.{Waits, Out, KeptOut, KeptBack, Done, GivenUp}
use Rattle.cluster_model.specs.declared.entry.Entry.{Entry}
use Rattle.cluster_model.specs.declared.entry.Entry.TheVariants as entry
use Rattle.cluster_model.specs.declared.fence_mirror.FenceMirror.{FenceMirror}
use Rattle.cluster_model.specs.declared.fence_mirror.FenceStep.{FenceStep}
use Rattle.cluster_model.specs.declared.fence_mirror.FenceStep.TheVariants.{Stranger, Acked, Again, Failed as HasFailed}
use Rattle.cluster_model.specs.declared.layout_state.LayoutState.{LayoutState}
use Rattle.cluster_model.specs.declared.layout_state.LayoutPhase.{LayoutPhase}
use Rattle.cluster_model.specs.declared.layout_state.LayoutPhase.TheVariants.{Making, Free, Held, Fencing, Settling, Copying}
use Rattle.cluster_model.specs.declared.layout_state.FenceEnd.TheVariants.{Clean, Dirty, Copied}
use Rattle.cluster_model.specs.declared.layout_state.CopyKind.{CopyKind}
use Rattle.cluster_model.specs.declared.targets.SwappedIn.{SwappedIn}
use Rattle.cluster_model.specs.DsCalls.{DsReplyValue, Created, Set, Written, Committed, Bytes, NotSync, Failed}
use Rattle.cluster_model.specs.Fences.{is_out, is_over, odd_status, FenceState, outstanding_at, on_reply, on_timeout, without, is_done}
use Rattle.cluster_model.specs.Journal.{is_mirror}
use Rattle.cluster_model.specs.Phases.{ids_of, is_last_live, with_phase, is_clean, unreported, is_source, left_entries, reported_cause, end_entries, PhaseStep, freed, made, granted, left_with, returned, revoked, phase_without, mirror_left, fenced_to, fence_entries, fence_done, has_targets, swapped_entries, resilvered}
use Rattle.copy_rule.specs.declared.copy_target.CopyStep.{CopyStep}
use Rattle.copy_rule.specs.declared.copy_target.CopyStep.TheVariants as copy_step
use Rattle.copy_rule.specs.Copies.{CopyState, has_outcome, swaps_of}
use Rattle.copy_rule.specs.Copies as copy
use Rattle.file_rule.specs.declared.creation.Creation.{Creation}
use Rattle.file_rule.specs.declared.fresh.Fresh.{Fresh}
use Rattle.file_rule.specs.MdsFiles.{Creations, Activity, Makes, Fences, Settles, Copies, MdsFile, FileStep, nothing, stays, a_uid, goes_idle, goes_fencing, goes_on, begun_by, with_entries, fenced_on, fence_stepped, shown_by_set, seen_by, mirror_at, with_creation, creation_of, creation_answered, creation_timed_out, all_made, making_on, making_at, making_by, plan_of, copying, settled, source_left, shown_by_commit, seen_at_source, settling_answered, settling_timed_out, copied_by, copied_on, target_left, copy_stepped, Idle}
use Rattle.file_rule.specs.FilePhases.{FileInput, AsksLayout, OwnWrite, Recall, Returns, Revokes, OwnEnds, Resilver, Answers, TimesOut, Ticks, Sees, are_spent, asked_in, held_in, by_client, by_mds, recalled_row, returned_row, revoked_row, own_row, resilvered_in, kind_of, settles_by, answered_in, timed_out_in, ticked, phase}
use Rattle.layout_state.specs.Grants.{is_held}
use Rattle.cluster_laws.specs.FenceLaw.{live_after, live_by, changed_live, first_free}
use Rattle.cluster_laws.proofs.Invariant.{live_of}
use Rattle.cluster_laws.proofs.Journals.{live_append}
use Rattle.cluster_laws.proofs.Lists.{all_append}
use Rattle.cluster_laws.proofs.Lives.{own_file, ids_but_for, ids_seen, all_swapped}
use Rattle.mds_laws.proofs.PeriodUids.{is_making, loss_kind}

-- ---- entries

-- where it says something of live mirrors, it is of this file
abbrev pub IsOf : FileId → Entry → Type 0
IsOf file (entry.Free other live) = other ≡ file
IsOf file (entry.Left other mirror cause) = other ≡ file
IsOf file (entry.Swapped other old new) = other ≡ file
IsOf file e = Unit {0}

left_of : (file : FileId) (causes : List (Option LeftCause)) (live : List Mirror) → AllByRecursion (IsOf file) (left_entries file causes live)
left_of file causes [] = tt
left_of file [] (m ∷ live) = tt
left_of file (None ∷ causes) (m ∷ live) = left_of file causes live
left_of file (Some cause ∷ causes) (m ∷ live) = (refl, left_of file causes live)

swapped_of : (file : FileId) (targets : List SwappedIn) → AllByRecursion (IsOf file) (swapped_entries file targets)
swapped_of file [] = tt
swapped_of file (t ∷ targets) = (refl, swapped_of file targets)

-- ---- a file

-- its live list, once it was free
abbrev pub told : LayoutState → Option (List MirrorId)
told s = live_of s.phase (ids_of s.live)

abbrev pub is_fencing : LayoutPhase → Bool
is_fencing (Fencing next end) = true
is_fencing p = false

-- what is under way is of the phase, and nothing is where the file is free or held
abbrev pub Fits : LayoutPhase → Activity → Type 0
Fits p Idle = Unit {0}
Fits p (Makes all) = is_making p ≡ true
Fits p (Fences fence) = is_fencing p ≡ true
Fits p (Settles stage) = is_some (kind_of p) ≡ true
Fits p (Copies c) = is_some (kind_of p) ≡ true

-- a client was granted the file, which was free, with the mirrors that it had
pub record IsGrant (file : FileId) (s : LayoutState) (x : FileStep) : Type 0 where
  pub holder : NodeId
  pub rest : List Entry
  pub free : s.phase ≡ Free
  pub held : x.file.layout.phase ≡ Held holder false
  pub cred : x.file.layout.cred ≡ s.cred
  pub live : x.file.layout.live ≡ s.live
  pub entries : x.entries ≡ entry.Granted file s.cred holder ∷ rest

pub record Tells (file : FileId) (s : LayoutState) (x : FileStep) : Type 0 where
  pub live : live_by file (told s) x.entries ≡ told x.file.layout
  pub own : AllByRecursion (IsOf file) x.entries
  pub fits : Fits x.file.layout.phase x.file.activity
  pub held : is_held x.file.layout.phase ≡ true → (is_held s.phase ≡ true) ⊎ IsGrant file s x

kind_live : (p : LayoutPhase) (ks : List MirrorId) → is_some (kind_of p) ≡ true → live_of p ks ≡ Some ks
kind_live Making ks is = absurd cc
kind_live Free ks is = refl
kind_live (Held holder recalled) ks is = refl
kind_live (Fencing next end) ks is = refl
kind_live (Settling copies) ks is = refl
kind_live (Copying copier copies) ks is = refl

loss_fencing : (p : LayoutPhase) (source : Bool) → is_fencing p ≡ true → is_fencing (phase_without p source) ≡ true
loss_fencing Making source is = absurd cc
loss_fencing Free source is = absurd cc
loss_fencing (Held holder recalled) source is = absurd cc
loss_fencing (Fencing next end) source is = refl
loss_fencing (Settling copies) source is = absurd cc
loss_fencing (Copying copier copies) source is = absurd cc

loss_held : (p : LayoutPhase) (source : Bool) → is_held (phase_without p source) ≡ true → is_held p ≡ true
loss_held Making source is = is
loss_held Free source is = is
loss_held (Held holder recalled) source is = is
loss_held (Fencing next end) source is = is
loss_held (Settling copies) source is = is
loss_held (Copying copier copies) source is = not_so source is
  where
    not_so : (b : Bool) → is_held (cond {A = LayoutPhase} b (Settling copies) (Copying copier copies)) ≡ true → false ≡ true
    not_so true its = its
    not_so false its = its

loss_live : (p : LayoutPhase) (source : Bool) (change : List MirrorId → List MirrorId) (ks new : List MirrorId) → change ks ≡ new
    → changed_live change (live_of p ks) ≡ live_of (phase_without p source) new
loss_live Making source change ks new is = refl
loss_live Free source change ks new is = ap (λ (l : List MirrorId). Some l) is
loss_live (Held holder recalled) source change ks new is = ap (λ (l : List MirrorId). Some l) is
loss_live (Fencing next end) source change ks new is = ap (λ (l : List MirrorId). Some l) is
loss_live (Settling copies) source change ks new is = ap (λ (l : List MirrorId). Some l) is
loss_live (Copying copier copies) source change ks new is =
    cond_both source (Settling copies) (Copying copier copies) (λ (p : LayoutPhase). Some (change ks) ≡ live_of p new) (λ on. ap (λ (l : List MirrorId). Some l) is) (λ off. ap (λ (l : List MirrorId). Some l) is)

-- the mirrors that leave by a return or an own write leave the live list that is told
abbrev pub LeaveSo : FileId → MdsFile → FileInput → Type 0
LeaveSo file f (Returns client claimed places) = live_by file (Some (ids_of f.layout.live)) (left_entries file (map reported_cause places) f.layout.live) ≡ Some (ids_of (unreported places f.layout.live))
LeaveSo file f (OwnEnds causes at bytes) = live_by file (Some (ids_of f.layout.live)) (left_entries file causes f.layout.live) ≡ Some (ids_of (unreported (map is_some causes) f.layout.live))
LeaveSo file f input = Unit {0}

none : {A : Type 0} → false ≡ true → A
none is = absurd cc

module _ (file : FileId) (fresh : Fresh) where
  abbrev Row : LayoutState → FileStep → Type 0
  Row s x = Tells file s x

  kept : (s : LayoutState) (a : Activity) → Fits s.phase a → Row s (stays s a)
  kept s a fits = record { live = refl; own = tt; fits = fits; held = λ is. inl is }

  still : (f : MdsFile) → Fits f.layout.phase f.activity → Row f.layout (nothing f)
  still f fits = record { live = refl; own = tt; fits = fits; held = λ is. inl is }

  -- ---- a grant, and what comes to a file that is held

  free_idle : (a : Activity) (p : LayoutPhase) → p ≡ Free → Fits p a → (q : LayoutPhase) → Fits q a
  free_idle Idle p at fits q = tt
  free_idle (Makes all) p at fits q = none (sym (ap is_making at) ∙ fits)
  free_idle (Fences fence) p at fits q = none (sym (ap is_fencing at) ∙ fits)
  free_idle (Settles stage) p at fits q = none (sym (ap (λ (x : LayoutPhase). is_some (kind_of x)) at) ∙ fits)
  free_idle (Copies c) p at fits q = none (sym (ap (λ (x : LayoutPhase). is_some (kind_of x)) at) ∙ fits)

  held_idle : (a : Activity) (p : LayoutPhase) → is_held p ≡ true → Fits p a → (q : LayoutPhase) → Fits q a
  held_idle a Making held fits q = none held
  held_idle a Free held fits q = none held
  held_idle Idle (Held holder is_recalled) held fits q = tt
  held_idle (Makes all) (Held holder is_recalled) held fits q = none fits
  held_idle (Fences fence) (Held holder is_recalled) held fits q = none fits
  held_idle (Settles stage) (Held holder is_recalled) held fits q = none fits
  held_idle (Copies c) (Held holder is_recalled) held fits q = none fits
  held_idle a (Fencing next end) held fits q = none held
  held_idle a (Settling copies) held fits q = none held
  held_idle a (Copying copier copies) held fits q = none held

  -- what is entered behind a grant says nothing of live mirrors
  record IsQuiet (entries : List Entry) : Type 0 where
    live : (was : Option (List MirrorId)) → live_by file was entries ≡ was
    own : AllByRecursion (IsOf file) entries

  asked_tells : (f : MdsFile) (holder : NodeId) (entries : List Entry) (p : LayoutPhase) → f.layout.phase ≡ p → IsQuiet entries → Fits f.layout.phase f.activity → Row f.layout (asked_in file f holder entries fresh p)
  asked_tells f holder entries Making at quiet i = still f i
  asked_tells f holder entries Free at quiet i =
      cond_both (are_spent fresh) (nothing f)
      (with_entries (granted file f.layout holder).entries (record { file = record { layout = (granted file f.layout holder).file; activity = f.activity }; entries = entries; uids = 0; names = 0 })) (λ (x : FileStep). Row f.layout x)
      (λ is. still f i)
      (λ off.
      record {
        live = quiet.live (told f.layout) ∙ ap (λ (q : LayoutPhase). live_of q (ids_of f.layout.live)) at;
        own = (tt, quiet.own);
        fits = free_idle f.activity f.layout.phase at i (Held holder false);
        held = λ is. inr (record { holder = holder; rest = entries; free = at; held = refl; cred = refl; live = refl; entries = refl });
      })
  asked_tells f holder entries (Held other is_recalled) at quiet i = still f i
  asked_tells f holder entries (Fencing next end) at quiet i = still f i
  asked_tells f holder entries (Settling copies) at quiet i = still f i
  asked_tells f holder entries (Copying copier copies) at quiet i = still f i

  record WasHeld (f : MdsFile) : Type 0 where
    live : told f.layout ≡ Some (ids_of f.layout.live)
    held : is_held f.layout.phase ≡ true

  held_tells : (f : MdsFile) (row : NodeId → FileStep) (p : LayoutPhase) → f.layout.phase ≡ p → Fits f.layout.phase f.activity → ((holder : NodeId) → WasHeld f → Row f.layout (row holder)) → Row f.layout (held_in f row p)
  held_tells f row Making at i all = still f i
  held_tells f row Free at i all = still f i
  held_tells f row (Held holder is_recalled) at i all = all holder (record { live = ap (λ (q : LayoutPhase). live_of q (ids_of f.layout.live)) at; held = ap is_held at })
  held_tells f row (Fencing next end) at i all = still f i
  held_tells f row (Settling copies) at i all = still f i
  held_tells f row (Copying copier copies) at i all = still f i

  client_tells : (f : MdsFile) (row : ℕ → FileStep) → Fits f.layout.phase f.activity → ((n : ℕ) → Row f.layout (row n)) → (holder : NodeId) → Row f.layout (by_client f row holder)
  client_tells f row i all Mds = still f i
  client_tells f row i all (Server n) = still f i
  client_tells f row i all (Client n) = all n

  mds_tells : (f : MdsFile) (row : FileStep) → Fits f.layout.phase f.activity → Row f.layout row → (holder : NodeId) → Row f.layout (by_mds f row holder)
  mds_tells f row i its Mds = its
  mds_tells f row i its (Server n) = still f i
  mds_tells f row i its (Client n) = still f i

  recalled_tells : (f : MdsFile) (n : ℕ) → Fits f.layout.phase f.activity → WasHeld f → Row f.layout (recalled_row f n)
  recalled_tells f n i was = record { live = was.live; own = tt; fits = held_idle f.activity f.layout.phase was.held i (Held (Client n) true); held = λ is. inl was.held }

  end_tells : (s : LayoutState) (next : Cred) (left : List Entry) (cause : EndCause) (behind : List Mirror) (uid : ℕ) → told s ≡ Some (ids_of s.live)
      → live_by file (Some (ids_of s.live)) left ≡ Some (ids_of behind) → AllByRecursion (IsOf file) left → Row s (goes_fencing (record { file = left_with s next behind; entries = end_entries file s.cred left cause behind }) uid)
  end_tells s next left cause [] uid held leave own = record { live = held; own = (tt, tt); fits = refl; held = λ is. none is }
  end_tells s next left cause (m ∷ behind) uid held leave own =
      let ended : List Entry = entry.Ended file s.cred cause ∷ [] in
      record {
        live = ap (λ (w : Option (List MirrorId)). live_by file w (left ++ ended)) held ∙ live_append file (Some (ids_of s.live)) left ended ∙ leave;
        own = all_append (IsOf file) left ended own (tt, tt);
        fits = refl;
        held = λ is. none is;
      }

  returned_tells : (f : MdsFile) (client : ℕ) (claimed : Cred) (places : List Bool) (holder : ℕ) → Fits f.layout.phase f.activity → WasHeld f → LeaveSo file f (Returns client claimed places)
      → Row f.layout (returned_row file f client claimed places fresh holder)
  returned_tells f client claimed places holder i was leave =
      cond_both (holder == client && (f.layout.cred.0 == claimed.0)) (goes_fencing (returned file f.layout places (a_uid fresh.uid)) fresh.uid) (nothing f) (λ (x : FileStep). Row f.layout x)
      (λ is.
      end_tells f.layout (a_uid fresh.uid) (left_entries file (map reported_cause places) f.layout.live) Returned (unreported places f.layout.live) fresh.uid was.live leave
      (left_of file (map reported_cause places) f.layout.live))
      (λ off. still f i)

  revoked_tells : (f : MdsFile) (cause : EndCause) → Fits f.layout.phase f.activity → WasHeld f → Row f.layout (revoked_row file f cause fresh)
  revoked_tells f cause i was =
      cond_both (is_clean cause) (nothing f) (goes_fencing (revoked file f.layout cause (a_uid fresh.uid)) fresh.uid) (λ (x : FileStep). Row f.layout x) (λ is. still f i)
      (λ off. record { live = was.live; own = (tt, tt); fits = refl; held = λ is. none is })

  own_tells : (f : MdsFile) (causes : List (Option LeftCause)) (at : ℕ) (bytes : List ℕ) → WasHeld f → LeaveSo file f (OwnEnds causes at bytes) → Row f.layout (own_row file f causes (entry.Told file f.layout.cred at bytes) fresh)
  own_tells f causes at bytes was leave =
      let said : List Entry = entry.Told file f.layout.cred at bytes ∷ [] in
      let left : List Entry = left_entries file causes f.layout.live in
      end_tells f.layout (a_uid fresh.uid) (left ++ said) Own (unreported (map is_some causes) f.layout.live) fresh.uid was.live (live_append file (Some (ids_of f.layout.live)) left said ∙ leave)
      (all_append (IsOf file) left said (left_of file causes f.layout.live) (tt, tt))

  resilver_tells : (f : MdsFile) (p : LayoutPhase) → f.layout.phase ≡ p → Fits f.layout.phase f.activity → Row f.layout (resilvered_in f fresh p)
  resilver_tells f Making at i = still f i
  resilver_tells f Free at i =
      cond_both (nat_lt (length f.layout.live) f.layout.wanted && (if are_spent fresh then false else true)) (stays (resilvered f.layout) (Settles Waits)) (nothing f) (λ (x : FileStep). Row f.layout x)
      (λ is. record { live = ap (λ (q : LayoutPhase). live_of q (ids_of f.layout.live)) at; own = tt; fits = refl; held = λ its. none its }) (λ off. still f i)
  resilver_tells f (Held holder is_recalled) at i = still f i
  resilver_tells f (Fencing next end) at i = still f i
  resilver_tells f (Settling copies) at i = still f i
  resilver_tells f (Copying copier copies) at i = still f i

  -- ---- the entry Free, and CREATEs

  free_live : (was : Option (List MirrorId)) (ks : List MirrorId) → first_free ks was ≡ Some ks → live_by file was (entry.Free file ks ∷ []) ≡ Some ks
  free_live was ks is = ap (λ (b : Bool). cond b (first_free ks was) was) (own_file file) ∙ is

  making_first : (p : LayoutPhase) (ks new : List MirrorId) → is_making p ≡ true → first_free new (live_of p ks) ≡ Some new
  making_first Making ks new is = refl
  making_first Free ks new is = none is
  making_first (Held holder recalled) ks new is = none is
  making_first (Fencing next end) ks new is = none is
  making_first (Settling copies) ks new is = none is
  making_first (Copying copier copies) ks new is = none is

  on_tells : (s : LayoutState) (all : Creations) → is_making s.phase ≡ true → Row s (making_on file s all)
  on_tells s all i =
      cond_both (list_all (λ (c : Creation). is_over c.stage) all.items) (goes_idle (made file s (all_made all)) 0) (stays s (Makes all)) (λ (x : FileStep). Row s x)
      (λ is. record { live = free_live (told s) (ids_of (all_made all)) (making_first s.phase (ids_of s.live) (ids_of (all_made all)) i); own = (refl, tt); fits = tt; held = λ its. none its })
      (λ off. kept s (Makes all) i)

  making_at_tells : (s : LayoutState) (all : Creations) (step : Creation → Creation) (place : ℕ) (o : Option Creation) → is_making s.phase ≡ true → Row s (making_at file s all step place o)
  making_at_tells s all step place None i = kept s (Makes all) i
  making_at_tells s all step place (Some c) i = on_tells s (with_creation all place (step c)) i

  making_tells : (s : LayoutState) (all : Creations) (step : Creation → Creation) (o : Option ℕ) → is_making s.phase ≡ true → Row s (making_by file s all step o)
  making_tells s all step None i = kept s (Makes all) i
  making_tells s all step (Some place) i = making_at_tells s all step place (slice_get all.items place) i

  -- ---- a mirror that leaves

  lost_live : (s : LayoutState) (id : MirrorId) (cause : LeftCause) → live_after file (told s) (entry.Left file id cause) ≡ told (mirror_left file s id cause).file
  lost_live s id cause =
      ap (λ (b : Bool). cond b (changed_live (filter (λ m. not (is_mirror m id))) (told s)) (told s)) (own_file file)
      ∙ loss_live s.phase (is_source id s.live) (filter (λ m. not (is_mirror m id))) (ids_of s.live) (ids_of (mirror_left file s id cause).file.live) (sym (ids_but_for id s.live))

  -- it leaves, and then this follows
  leaves_first : (s : LayoutState) (id : MirrorId) (cause : LeftCause) (x : FileStep) → Row (mirror_left file s id cause).file x → ((mirror_left file s id cause).file.phase ≡ Free → false ≡ true) → Row s (with_entries (mirror_left file s id cause).entries x)
  leaves_first s id cause x r busy = record { live = ap (λ (w : Option (List MirrorId)). live_by file w x.entries) (lost_live s id cause) ∙ r.live; own = (refl, r.own); fits = r.fits; held = λ is. by_row (r.held is) }
    where
      by_row : (is_held (mirror_left file s id cause).file.phase ≡ true) ⊎ IsGrant file (mirror_left file s id cause).file x → (is_held s.phase ≡ true) ⊎ IsGrant file s (with_entries (mirror_left file s id cause).entries x)
      by_row (inl its) = inl (loss_held s.phase (is_source id s.live) its)
      by_row (inr g) = none (busy g.free)

  -- ---- a fence

  fence_done_tells : (s : LayoutState) (p : LayoutPhase) → s.phase ≡ p → is_fencing p ≡ true
      → Row s (record { file = record { layout = fenced_to s p; activity = begun_by (fenced_to s p).phase }; entries = fence_entries file s p; uids = 0; names = 0 })
  fence_done_tells s Making at is = none is
  fence_done_tells s Free at is = none is
  fence_done_tells s (Held holder is_recalled) at is = none is
  fence_done_tells s (Fencing next Clean) at is =
      let ks : List MirrorId = ids_of s.live in
      record { live = free_live (told s) ks (ap (λ (q : LayoutPhase). first_free ks (live_of q ks)) at); own = (tt, (refl, tt)); fits = tt; held = λ its. none its }
  fence_done_tells s (Fencing next Dirty) at is = record { live = ap (λ (q : LayoutPhase). live_of q (ids_of s.live)) at; own = (tt, tt); fits = refl; held = λ its. none its }
  fence_done_tells s (Fencing next Copied) at is =
      let ks : List MirrorId = ids_of s.live in
      record { live = free_live (told s) ks (ap (λ (q : LayoutPhase). first_free ks (live_of q ks)) at); own = (tt, (refl, tt)); fits = tt; held = λ its. none its }
  fence_done_tells s (Settling copies) at is = none is
  fence_done_tells s (Copying copier copies) at is = none is

  fenced_on_tells : (s : LayoutState) (x : FenceState) → is_fencing s.phase ≡ true → Row s (fenced_on file s x)
  fenced_on_tells s x i = cond_both (is_done x) (goes_on (fence_done file s)) (stays s (Fences x)) (λ (y : FileStep). Row s y) (λ is. fence_done_tells s s.phase refl i) (λ off. kept s (Fences x) i)

  fencing_busy : (p : LayoutPhase) → is_fencing p ≡ true → p ≡ Free → false ≡ true
  fencing_busy p is at = sym (ap is_fencing at) ∙ is

  kind_busy : (p : LayoutPhase) → is_some (kind_of p) ≡ true → p ≡ Free → false ≡ true
  kind_busy p is at = sym (ap (λ (x : LayoutPhase). is_some (kind_of x)) at) ∙ is

  fence_tells : (s : LayoutState) (x : FenceState) (step : FenceStep) → is_fencing s.phase ≡ true → Row s (fence_stepped file s x step)
  fence_tells s x Stranger i = kept s (Fences x) i
  fence_tells s x Acked i = fenced_on_tells s x i
  fence_tells s x Again i = kept s (Fences x) i
  fence_tells s x (HasFailed id cause) i =
      let t : LayoutState = (mirror_left file s id cause).file in
      let its : is_fencing t.phase ≡ true = loss_fencing s.phase (is_source id s.live) i in
      cond_both (is_last_live s.live) (stays s (Fences x)) (with_entries (mirror_left file s id cause).entries (fenced_on file (mirror_left file s id cause).file (without x id))) (λ (y : FileStep). Row s y)
      (λ is. kept s (Fences x) i) (λ off. leaves_first s id cause (fenced_on file t (without x id)) (fenced_on_tells t (without x id) its) (fencing_busy t.phase its))

  -- a ctime that is seen changes no live list, no phase and no uid
  record SameAs (s t : LayoutState) : Type 0 where
    live : told t ≡ told s
    phase : t.phase ≡ s.phase

  -- what such a state's row tells
  as_before : (s t : LayoutState) (x : FileStep) → SameAs s t → (t.phase ≡ Free → false ≡ true) → Row t x → Row s x
  as_before s t x same busy r = record { live = ap (λ (w : Option (List MirrorId)). live_by file w x.entries) (sym same.live) ∙ r.live; own = r.own; fits = r.fits; held = λ is. by_row (r.held is) }
    where
      by_row : (is_held t.phase ≡ true) ⊎ IsGrant file t x → (is_held s.phase ≡ true) ⊎ IsGrant file s x
      by_row (inl its) = inl (sym (ap is_held same.phase) ∙ its)
      by_row (inr g) = none (busy g.free)

  seen_same : (s : LayoutState) (o : Option FenceMirror) (shown : Option Shown) → SameAs s (seen_by s o shown)
  seen_same s None shown = record { live = refl; phase = refl }
  seen_same s (Some m) None = record { live = refl; phase = refl }
  seen_same s (Some m) (Some shown) = record { live = ap (live_of s.phase) (ids_seen m.id shown.seen s.live); phase = refl }

  source_same : (s : LayoutState) (live : List Mirror) (shown : Option Shown) → SameAs s (seen_at_source s live shown)
  source_same s [] shown = record { live = refl; phase = refl }
  source_same s (m ∷ live) None = record { live = refl; phase = refl }
  source_same s (m ∷ live) (Some shown) = record { live = ap (live_of s.phase) (ids_seen m.id shown.seen s.live); phase = refl }

  -- ---- the COMMIT of a source

  lost_kind : (s : LayoutState) (id : MirrorId) (cause : LeftCause) → is_some (kind_of s.phase) ≡ true → is_some (kind_of (mirror_left file s id cause).file.phase) ≡ true
  lost_kind s id cause i = loss_kind s.phase (is_source id s.live) ∙ i

  leaves_tells : (s : LayoutState) (live : List Mirror) (cause : LeftCause) (under_way : Activity) → Fits s.phase under_way → is_some (kind_of s.phase) ≡ true → Row s (source_left file s live cause under_way)
  leaves_tells s [] cause under_way fits i = kept s under_way fits
  leaves_tells s (m ∷ live) cause under_way fits i =
      cond_both (is_last_live s.live) (stays s under_way)
      (record { file = record { layout = (mirror_left file s m.id cause).file; activity = Settles Waits }; entries = (mirror_left file s m.id cause).entries; uids = 0; names = 0 }) (λ (y : FileStep). Row s y)
      (λ is. kept s under_way fits) (λ off. record { live = lost_live s m.id cause; own = (refl, tt); fits = lost_kind s m.id cause i; held = λ is. inl (loss_held s.phase (is_source m.id s.live) is) })

  commit_tells : (s : LayoutState) (copies : CopyKind) → is_some (kind_of s.phase) ≡ true → Row s (settled file s copies fresh)
  commit_tells s copies i = by_targets (has_targets copies (length s.live) s.wanted)
    where
      by_targets : (b : Bool) → Row s (cond {A = FileStep} b
          (copying (cond {A = PhaseStep} b (record { file = with_phase s (Copying (a_uid fresh.uid) copies); entries = [] }) (freed file s)).file fresh (plan_of copies s fresh))
          (goes_idle (cond {A = PhaseStep} b (record { file = with_phase s (Copying (a_uid fresh.uid) copies); entries = [] }) (freed file s)) 0))
      by_targets true = record { live = kind_live s.phase (ids_of s.live) i; own = tt; fits = refl; held = λ its. none its }
      by_targets false =
          let ks : List MirrorId = ids_of s.live in
          record { live = free_live (told s) ks (ap (first_free ks) (kind_live s.phase ks i)); own = (refl, tt); fits = tt; held = λ its. none its }

  settling_tells : (s : LayoutState) (copies : CopyKind) (reply : DsReplyValue) → is_some (kind_of s.phase) ≡ true → Row s (settling_answered file s copies fresh reply)
  settling_tells s copies (Created fileid shown) i = leaves_tells s s.live (Error odd_status) (Settles KeptBack) i i
  settling_tells s copies (Set shown) i = leaves_tells s s.live (Error odd_status) (Settles KeptBack) i i
  settling_tells s copies (Written shown verifier) i = leaves_tells s s.live (Error odd_status) (Settles KeptBack) i i
  settling_tells s copies (Committed shown verifier) i = commit_tells s copies i
  settling_tells s copies (Bytes shown eof bytes) i = leaves_tells s s.live (Error odd_status) (Settles KeptBack) i i
  settling_tells s copies (NotSync shown) i = leaves_tells s s.live (Error odd_status) (Settles KeptBack) i i
  settling_tells s copies (Failed status shown) i = leaves_tells s s.live (Error status) (Settles KeptBack) i i

  settling_late_tells : (s : LayoutState) (stage : CallStage) → is_some (kind_of s.phase) ≡ true → Row s (settling_timed_out file s stage)
  settling_late_tells s Waits i = kept s (Settles Waits) i
  settling_late_tells s (Out xid timeouts) i =
      cond_both (nat_lt (timeouts + 1) MAX_TIMEOUTS) (stays s (Settles (Out xid (timeouts + 1)))) (source_left file s s.live Timeouts (Settles (KeptOut xid))) (λ (y : FileStep). Row s y)
      (λ is. kept s (Settles (Out xid (timeouts + 1))) i) (λ off. leaves_tells s s.live Timeouts (Settles (KeptOut xid)) i i)
  settling_late_tells s (KeptOut xid) i = kept s (Settles (KeptOut xid)) i
  settling_late_tells s KeptBack i = kept s (Settles KeptBack) i
  settling_late_tells s Done i = kept s (Settles Done) i
  settling_late_tells s GivenUp i = kept s (Settles GivenUp) i

  settles_tells : (f : MdsFile) (row : CopyKind → FileStep) (o : Option CopyKind) → kind_of f.layout.phase ≡ o → Fits f.layout.phase f.activity
      → ((copies : CopyKind) → is_some (kind_of f.layout.phase) ≡ true → Row f.layout (row copies)) → Row f.layout (settles_by f row o)
  settles_tells f row None at i all = still f i
  settles_tells f row (Some copies) at i all = all copies (ap is_some at)

  -- ---- a copy

  copied_by_tells : (s : LayoutState) (copier : Cred) (targets : List SwappedIn) → is_some (kind_of s.phase) ≡ true → Row s (copied_by file s copier targets fresh)
  copied_by_tells s copier [] i =
      let ks : List MirrorId = ids_of s.live in
      record { live = free_live (told s) ks (ap (first_free ks) (kind_live s.phase ks i)); own = (refl, tt); fits = tt; held = λ its. none its }
  copied_by_tells s copier (t ∷ targets) i = record {
    live = ap (λ (w : Option (List MirrorId)). live_by file w (swapped_entries file (t ∷ targets))) (kind_live s.phase (ids_of s.live) i) ∙ all_swapped file (t ∷ targets) s.live;
    own = swapped_of file (t ∷ targets);
    fits = refl;
    held = λ its. none its;
  }

  copied_tells : (s : LayoutState) (c : CopyState) → is_some (kind_of s.phase) ≡ true → Row s (copied_on file s c fresh)
  copied_tells s c i =
      cond_both (has_outcome c) (copied_by file s (a_uid c.copier) (swaps_of c) fresh) (stays s (Copies c)) (λ (y : FileStep). Row s y) (λ is. copied_by_tells s (a_uid c.copier) (swaps_of c) i) (λ off. kept s (Copies c) i)

  target_tells : (s : LayoutState) (c : CopyState) (cause : LeftCause) (o : Option MirrorId) → is_some (kind_of s.phase) ≡ true → Row s (target_left file s c fresh cause o)
  target_tells s c cause None i = copied_tells s c i
  target_tells s c cause (Some id) i =
      let t : LayoutState = (mirror_left file s id cause).file in
      leaves_first s id cause (copied_on file t c fresh) (copied_tells t c (lost_kind s id cause i)) (kind_busy t.phase (lost_kind s id cause i))

  copy_tells : (s : LayoutState) (c : CopyState) (step : CopyStep) → is_some (kind_of s.phase) ≡ true → Row s (copy_stepped file s c fresh step)
  copy_tells s c copy_step.Stranger i = kept s (Copies c) i
  copy_tells s c copy_step.Waiting i = kept s (Copies c) i
  copy_tells s c (copy_step.SourceFailed cause) i = leaves_tells s s.live cause (Copies c) i i
  copy_tells s c (copy_step.TargetFailed server replaced cause) i = target_tells s c cause replaced i
  copy_tells s c copy_step.Done i = copied_tells s c i

  -- ---- answers and timeouts

  answered_tells : (f : MdsFile) (xid : ℕ) (reply : DsReplyValue) (a : Activity) → Fits f.layout.phase a → Fits f.layout.phase f.activity → Row f.layout (answered_in file f xid reply fresh a)
  answered_tells f xid reply Idle fits i = still f i
  answered_tells f xid reply (Makes all) fits i = making_tells f.layout all (λ c. creation_answered all c reply) (creation_of all xid) fits
  answered_tells f xid reply (Fences x) fits i =
      let t : LayoutState = seen_by f.layout (mirror_at x (outstanding_at x xid)) (shown_by_set reply) in
      let same : SameAs f.layout t = seen_same f.layout (mirror_at x (outstanding_at x xid)) (shown_by_set reply) in
      let its : is_fencing t.phase ≡ true = ap is_fencing same.phase ∙ fits in
      as_before f.layout t (fence_stepped file t (on_reply x xid reply).fence (on_reply x xid reply).step) same (fencing_busy t.phase its) (fence_tells t (on_reply x xid reply).fence (on_reply x xid reply).step its)
  answered_tells f xid reply (Settles stage) fits i =
      let t : LayoutState = seen_at_source f.layout f.layout.live (shown_by_commit reply) in
      let same : SameAs f.layout t = source_same f.layout f.layout.live (shown_by_commit reply) in
      let its : is_some (kind_of t.phase) ≡ true = ap (λ (p : LayoutPhase). is_some (kind_of p)) same.phase ∙ fits in
      cond_both (is_out xid stage) (settles_by f (λ copies. settling_answered file t copies fresh reply) (kind_of f.layout.phase)) (nothing f) (λ (y : FileStep). Row f.layout y)
      (λ is.
      settles_tells f (λ copies. settling_answered file t copies fresh reply) (kind_of f.layout.phase) refl i
      (λ copies so. as_before f.layout t (settling_answered file t copies fresh reply) same (kind_busy t.phase its) (settling_tells t copies reply its)))
      (λ off. still f i)
  answered_tells f xid reply (Copies c) fits i = copy_tells f.layout (copy.on_reply c xid reply).copy (copy.on_reply c xid reply).step fits

  late_tells : (f : MdsFile) (xid : ℕ) (a : Activity) → Fits f.layout.phase a → Fits f.layout.phase f.activity → Row f.layout (timed_out_in file f xid fresh a)
  late_tells f xid Idle fits i = still f i
  late_tells f xid (Makes all) fits i = making_tells f.layout all (creation_timed_out all) (creation_of all xid) fits
  late_tells f xid (Fences x) fits i = fence_tells f.layout (on_timeout x xid).fence (on_timeout x xid).step fits
  late_tells f xid (Settles stage) fits i = cond_both (is_out xid stage) (settling_timed_out file f.layout stage) (nothing f) (λ (y : FileStep). Row f.layout y) (λ is. settling_late_tells f.layout stage fits) (λ off. still f i)
  late_tells f xid (Copies c) fits i = copy_tells f.layout (copy.on_timeout c xid).copy (copy.on_timeout c xid).step fits

  ticked_fits : (p : LayoutPhase) (a : Activity) → Fits p a → Fits p (ticked a)
  ticked_fits p Idle fits = tt
  ticked_fits p (Makes all) fits = fits
  ticked_fits p (Fences fence) fits = fits
  ticked_fits p (Settles stage) fits = fits
  ticked_fits p (Copies c) fits = fits

  -- each input of the table
  pub phase_tells : (f : MdsFile) (input : FileInput) → Fits f.layout.phase f.activity → LeaveSo file f input → Tells file f.layout (phase file f input fresh)
  phase_tells f (AsksLayout client) i leave = asked_tells f (Client client) [] f.layout.phase refl (record { live = λ was. refl; own = tt }) i
  phase_tells f (OwnWrite at bytes) i leave = asked_tells f Mds (entry.Sent file f.layout.cred at bytes ∷ []) f.layout.phase refl (record { live = λ was. refl; own = (tt, tt) }) i
  phase_tells f Recall i leave = held_tells f (by_client f (recalled_row f)) f.layout.phase refl i (λ holder was. client_tells f (recalled_row f) i (λ n. recalled_tells f n i was) holder)
  phase_tells f (Returns client claimed places) i leave =
      held_tells f (by_client f (returned_row file f client claimed places fresh)) f.layout.phase refl i
      (λ holder was. client_tells f (returned_row file f client claimed places fresh) i (λ n. returned_tells f client claimed places n i was leave) holder)
  phase_tells f (Revokes cause) i leave =
      held_tells f (by_client f (λ client. revoked_row file f cause fresh)) f.layout.phase refl i (λ holder was. client_tells f (λ client. revoked_row file f cause fresh) i (λ n. revoked_tells f cause i was) holder)
  phase_tells f (OwnEnds causes at bytes) i leave =
      held_tells f (by_mds f (own_row file f causes (entry.Told file f.layout.cred at bytes) fresh)) f.layout.phase refl i
      (λ holder was. mds_tells f (own_row file f causes (entry.Told file f.layout.cred at bytes) fresh) i (own_tells f causes at bytes was leave) holder)
  phase_tells f Resilver i leave = resilver_tells f f.layout.phase refl i
  phase_tells f (Answers xid reply) i leave = answered_tells f xid reply f.activity i i
  phase_tells f (TimesOut xid) i leave = late_tells f xid f.activity i i
  phase_tells f Ticks i leave = kept f.layout (ticked f.activity) (ticked_fits f.layout.phase f.activity i)
  phase_tells f (Sees id seen) i leave = record { live = ap (live_of f.layout.phase) (sym (ids_seen id seen f.layout.live)); own = tt; fits = i; held = λ is. inl is }
