-- What one input of the table of phases makes of a file that a client holds: the client holds it on under the same uid, or the end of this
-- period is entered.
use Rattle.std.proofs.Common.{◌≡◌, ℕ, ◌+◌, Bool, true, false, List, [], ◌∷◌, ◌++◌, Option, Some, None, refl, sym, ap, subst, ◌∙◌, inl, inr}
use Rattle.std.specs.Prelude.{◌==◌, ◌&&◌, nat_lt, is_some, map}
use Rattle.std.proofs.lemmas.Bool.{cond_both}
use Rattle.cluster_model.specs.declared.limits.TheConstants.{MAX_TIMEOUTS}
use Rattle.cluster_model.specs.declared.ids.NodeId.TheVariants.{Mds, Client}
use Rattle.cluster_model.specs.declared.ids.FileId.{FileId}
use Rattle.cluster_model.specs.declared.ids.Cred.{Cred}
use Rattle.cluster_model.specs.declared.ids.Mirror.{Mirror}
use Rattle.cluster_model.specs.declared.ids.MirrorId.{MirrorId}
use Rattle.cluster_model.specs.declared.phase.EndCause.{EndCause}
use Rattle.cluster_model.specs.declared.phase.EndCause.TheVariants.{Returned, AllReported}
use Rattle.cluster_model.specs.declared.phase.LeftCause.{LeftCause}
use Rattle.cluster_model.specs.declared.phase.LeftCause.TheVariants.{Timeouts}
use Rattle.cluster_model.specs.declared.ds_call.Shown.{Shown}
use Rattle.cluster_model.specs.declared.call_stage.CallStage.{CallStage}
use Rattle.cluster_model.specs.declared.call_stage.CallStage.TheVariants.{Waits, Out, KeptOut, KeptBack, Done, GivenUp}
use Rattle.cluster_model.specs.declared.entry.Entry.{Entry}
use Rattle.cluster_model.specs.declared.entry.Entry.TheVariants as entry
use Rattle.cluster_model.specs.declared.fence_mirror.FenceMirror.{FenceMirror}
use Rattle.cluster_model.specs.declared.fence_mirror.FenceStep.{FenceStep}
use Rattle.cluster_model.specs.declared.fence_mirror.FenceStep.TheVariants.{Stranger, Acked, Again, Failed as HasFailed}
use Rattle.cluster_model.specs.declared.layout_state.LayoutState.{LayoutState}
use Rattle.cluster_model.specs.declared.layout_state.LayoutPhase.{LayoutPhase}
use Rattle.cluster_model.specs.declared.layout_state.LayoutPhase.TheVariants.{Held}
use Rattle.cluster_model.specs.DsCalls.{DsReplyValue}
use Rattle.cluster_model.specs.Fences.{is_out, FenceState, outstanding_at, on_reply, on_timeout, without, is_done}
use Rattle.cluster_model.specs.Phases.{holder_of, left_with, is_last_live, is_clean, unreported, is_source, left_entries, reported_cause, end_entries, returned, revoked, phase_without, mirror_left, fenced_to, fence_done}
use Rattle.cluster_model.specs.Members.{IsOneOf}
use Rattle.file_rule.specs.declared.fresh.Fresh.{Fresh}
use Rattle.file_rule.specs.MdsFiles.{Activity, Idle, Makes, Fences, Settles, Copies, MdsFile, FileStep, nothing, stays, a_uid, goes_fencing, goes_on, with_entries, fenced_on, fence_stepped, shown_by_set, seen_by, mirror_at, source_left, settling_timed_out, shown_by_commit, seen_at_source, settling_answered}
use Rattle.file_rule.specs.FilePhases.{FileInput, AsksLayout, OwnWrite, Recall, Returns, Revokes, OwnEnds, Resilver, Answers, TimesOut, Ticks, Sees, asked_in, held_in, by_client, by_mds, recalled_row, returned_row, revoked_row, own_row, resilvered_in, kind_of, settles_by, answered_in, timed_out_in, phase}
use Rattle.mds_walk.proofs.Lists.{in_last}
use Rattle.mds_laws.proofs.PeriodUids.{is_making, Agrees}

pub in_behind : {A : Type 0} (x : A) (front xs : List A) → IsOneOf x xs → IsOneOf x (front ++ xs)
in_behind x [] xs inside = inside
in_behind x (y ∷ front) xs inside = inr (in_behind x front xs inside)

-- ---- what becomes of it

pub record HasEnd (file : FileId) (cred : Cred) (entries : List Entry) : Type 0 where
  pub cause : EndCause
  pub there : IsOneOf (entry.Ended file cred cause) entries

-- held by this client, under this uid
pub record IsHeld (n : ℕ) (cred : Cred) (s : LayoutState) : Type 0 where
  pub is_recalled : Bool
  pub phase : s.phase ≡ Held (Client n) is_recalled
  pub its : s.cred ≡ cred

pub data After (file : FileId) (n : ℕ) (cred : Cred) (step : FileStep) : Type 0 where
  GoesOn : IsHeld n cred step.file.layout → After file n cred step
  IsOver : HasEnd file cred step.entries → holder_of step.file.layout.phase ≡ None → After file n cred step

end_in : (file : FileId) (cred : Cred) (left : List Entry) (cause : EndCause) (live : List Mirror) → HasEnd file cred (end_entries file cred left cause live)
end_in file cred left cause [] = record { cause = AllReported; there = inl refl }
end_in file cred left cause (m ∷ live) = record { cause = cause; there = in_last (entry.Ended file cred cause) left }

-- behind it nobody holds the file
left_none : (s : LayoutState) (next : Cred) (live : List Mirror) → holder_of (left_with s next live).phase ≡ None
left_none s next [] = refl
left_none s next (m ∷ live) = refl

module _ (file : FileId) (fresh : Fresh) (n : ℕ) (cred : Cred) where
  abbrev Holds : LayoutState → Type 0
  Holds s = IsHeld n cred s

  abbrev Is : FileStep → Type 0
  Is step = After file n cred step

  more : (entries : List Entry) (step : FileStep) → Is step → Is (with_entries entries step)
  more entries step (GoesOn i) = GoesOn i
  more entries step (IsOver e none) = IsOver (record { cause = e.cause; there = in_behind (entry.Ended file cred e.cause) entries step.entries e.there }) none

  -- what is a function of the phase
  at_held : (g : LayoutPhase → FileStep) (s : LayoutState) (i : Holds s) → Is (g (Held (Client n) i.is_recalled)) → Is (g s.phase)
  at_held g s i is = subst (λ (p : LayoutPhase). Is (g p)) (sym i.phase) is

  over : (s : LayoutState) (i : Holds s) (entries : List Entry) → HasEnd file s.cred entries → HasEnd file cred entries
  over s i entries e = subst (λ (c : Cred). HasEnd file c entries) i.its e

  -- ---- a mirror that leaves, and a fence

  left_held : (s : LayoutState) (id : MirrorId) (cause : LeftCause) → Holds s → Holds (mirror_left file s id cause).file
  left_held s id cause i = record { is_recalled = i.is_recalled; phase = ap (λ (p : LayoutPhase). phase_without p (is_source id s.live)) i.phase; its = i.its }

  done_held : (s : LayoutState) (i : Holds s) → Is (goes_on (fence_done file s))
  done_held s i =
      let same : fenced_to s s.phase ≡ s = ap (fenced_to s) i.phase in
      GoesOn (record { is_recalled = i.is_recalled; phase = ap (λ (x : LayoutState). x.phase) same ∙ i.phase; its = ap (λ (x : LayoutState). x.cred) same ∙ i.its })

  fenced_held : (s : LayoutState) (x : FenceState) (i : Holds s) → Is (fenced_on file s x)
  fenced_held s x i = cond_both (is_done x) (goes_on (fence_done file s)) (stays s (Fences x)) Is (λ is. done_held s i) (λ off. GoesOn i)

  fence_held : (s : LayoutState) (x : FenceState) (step : FenceStep) (i : Holds s) → Is (fence_stepped file s x step)
  fence_held s x Stranger i = GoesOn i
  fence_held s x Acked i = fenced_held s x i
  fence_held s x Again i = GoesOn i
  fence_held s x (HasFailed id cause) i =
      cond_both (is_last_live s.live) (stays s (Fences x)) (with_entries (mirror_left file s id cause).entries (fenced_on file (mirror_left file s id cause).file (without x id))) Is (λ is. GoesOn i)
      (λ off. more (mirror_left file s id cause).entries (fenced_on file (mirror_left file s id cause).file (without x id)) (fenced_held (mirror_left file s id cause).file (without x id) (left_held s id cause i)))

  seen_held : (s : LayoutState) (o : Option FenceMirror) (shown : Option Shown) → Holds s → Holds (seen_by s o shown)
  seen_held s None shown i = i
  seen_held s (Some m) None i = i
  seen_held s (Some m) (Some shown) i = record { is_recalled = i.is_recalled; phase = i.phase; its = i.its }

  leaves_held : (s : LayoutState) (live : List Mirror) (cause : LeftCause) (kept : Activity) → Holds s → Is (source_left file s live cause kept)
  leaves_held s [] cause kept i = GoesOn i
  leaves_held s (m ∷ live) cause kept i =
      cond_both (is_last_live s.live) (stays s kept)
      (record { file = record { layout = (mirror_left file s m.id cause).file; activity = Settles Waits }; entries = (mirror_left file s m.id cause).entries; uids = 0; names = 0 }) Is
      (λ is. GoesOn i) (λ off. GoesOn (left_held s m.id cause i))

  settling_late : (s : LayoutState) (stage : CallStage) → Holds s → Is (settling_timed_out file s stage)
  settling_late s Waits i = GoesOn i
  settling_late s (Out xid timeouts) i =
      cond_both (nat_lt (timeouts + 1) MAX_TIMEOUTS) (stays s (Settles (Out xid (timeouts + 1)))) (source_left file s s.live Timeouts (Settles (KeptOut xid))) Is (λ is. GoesOn i)
      (λ off. leaves_held s s.live Timeouts (Settles (KeptOut xid)) i)
  settling_late s (KeptOut xid) i = GoesOn i
  settling_late s KeptBack i = GoesOn i
  settling_late s Done i = GoesOn i
  settling_late s GivenUp i = GoesOn i

  -- ---- what does not belong to a file that is held

  not_making : (s : LayoutState) → Holds s → is_making s.phase ≡ true → ⊥
  not_making s i is = absurd (not_so (sym (ap is_making i.phase) ∙ is))
    where
      not_so : false ≡ true → ⊥
      not_so is = absurd cc

  not_copied : (s : LayoutState) → Holds s → is_some (kind_of s.phase) ≡ true → ⊥
  not_copied s i is = absurd (not_so (sym (ap (λ (p : LayoutPhase). is_some (kind_of p)) i.phase) ∙ is))
    where
      not_so : false ≡ true → ⊥
      not_so is = absurd cc

  -- ---- answers and timeouts

  answered_held : (f : MdsFile) (xid : ℕ) (reply : DsReplyValue) (a : Activity) → Agrees a f.layout.phase → Holds f.layout → Is (answered_in file f xid reply fresh a)
  answered_held f xid reply Idle its i = GoesOn i
  answered_held f xid reply (Makes all) its i = absurd (not_making f.layout i its)
  answered_held f xid reply (Fences x) its i =
      fence_held (seen_by f.layout (mirror_at x (outstanding_at x xid)) (shown_by_set reply)) (on_reply x xid reply).fence (on_reply x xid reply).step
      (seen_held f.layout (mirror_at x (outstanding_at x xid)) (shown_by_set reply) i)
  answered_held f xid reply (Settles stage) its i =
      cond_both (is_out xid stage) (settles_by f (λ copies. settling_answered file (seen_at_source f.layout f.layout.live (shown_by_commit reply)) copies fresh reply) (kind_of f.layout.phase)) (nothing f) Is
      (λ is. at_held (λ p. settles_by f (λ copies. settling_answered file (seen_at_source f.layout f.layout.live (shown_by_commit reply)) copies fresh reply) (kind_of p)) f.layout i (GoesOn i)) (λ off. GoesOn i)
  answered_held f xid reply (Copies c) its i = absurd (not_copied f.layout i its)

  late_held : (f : MdsFile) (xid : ℕ) (a : Activity) → Agrees a f.layout.phase → Holds f.layout → Is (timed_out_in file f xid fresh a)
  late_held f xid Idle its i = GoesOn i
  late_held f xid (Makes all) its i = absurd (not_making f.layout i its)
  late_held f xid (Fences x) its i = fence_held f.layout (on_timeout x xid).fence (on_timeout x xid).step i
  late_held f xid (Settles stage) its i = cond_both (is_out xid stage) (settling_timed_out file f.layout stage) (nothing f) Is (λ is. settling_late f.layout stage i) (λ off. GoesOn i)
  late_held f xid (Copies c) its i = absurd (not_copied f.layout i its)

  -- ---- the rows of a file that is held

  returned_held : (f : MdsFile) (client : ℕ) (claimed : Cred) (places : List Bool) → Holds f.layout → Is (returned_row file f client claimed places fresh n)
  returned_held f client claimed places i =
      cond_both (n == client && (f.layout.cred.0 == claimed.0)) (goes_fencing (returned file f.layout places (a_uid fresh.uid)) fresh.uid) (nothing f) Is
      (λ is. IsOver (over f.layout i (returned file f.layout places (a_uid fresh.uid)).entries (end_in file f.layout.cred (left_entries file (map reported_cause places) f.layout.live) Returned (unreported places f.layout.live))) (left_none f.layout (a_uid fresh.uid) (unreported places f.layout.live))) (λ off. GoesOn i)

  revoked_held : (f : MdsFile) (cause : EndCause) → Holds f.layout → Is (revoked_row file f cause fresh)
  revoked_held f cause i =
      cond_both (is_clean cause) (nothing f) (goes_fencing (revoked file f.layout cause (a_uid fresh.uid)) fresh.uid) Is (λ is. GoesOn i)
      (λ off. IsOver (over f.layout i (revoked file f.layout cause (a_uid fresh.uid)).entries (record { cause = cause; there = inl refl })) refl)

  pub held_after : (f : MdsFile) (input : FileInput) → Agrees f.activity f.layout.phase → Holds f.layout → Is (phase file f input fresh)
  held_after f (AsksLayout client) its i = at_held (asked_in file f (Client client) [] fresh) f.layout i (GoesOn i)
  held_after f (OwnWrite at bytes) its i = at_held (asked_in file f Mds (entry.Sent file f.layout.cred at bytes ∷ []) fresh) f.layout i (GoesOn i)
  held_after f Recall its i = at_held (held_in f (by_client f (recalled_row f))) f.layout i (GoesOn (record { is_recalled = true; phase = refl; its = i.its }))
  held_after f (Returns client claimed places) its i = at_held (held_in f (by_client f (returned_row file f client claimed places fresh))) f.layout i (returned_held f client claimed places i)
  held_after f (Revokes cause) its i = at_held (held_in f (by_client f (λ client. revoked_row file f cause fresh))) f.layout i (revoked_held f cause i)
  held_after f (OwnEnds causes at bytes) its i = at_held (held_in f (by_mds f (own_row file f causes (entry.Told file f.layout.cred at bytes) fresh))) f.layout i (GoesOn i)
  held_after f Resilver its i = at_held (resilvered_in f fresh) f.layout i (GoesOn i)
  held_after f (Answers xid reply) its i = answered_held f xid reply f.activity its i
  held_after f (TimesOut xid) its i = late_held f xid f.activity its i
  held_after f Ticks its i = GoesOn i
  held_after f (Sees id seen) its i = GoesOn (record { is_recalled = i.is_recalled; phase = i.phase; its = i.its })
