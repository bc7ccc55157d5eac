-- Answers and timeouts that draw nothing, whatever comes of them; and a tick.
use Rattle.std.proofs.Common.{◌≡◌, ℕ, ◌+◌, Bool, true, false, ltb, cond, List, [], ◌∷◌, map, Option, Some, None, refl, ap}
use Rattle.std.specs.Prelude.{slice_get}
use Rattle.std.specs.List.{list_all}
use Rattle.cluster_model.specs.declared.ids.Mirror.{Mirror}
use Rattle.cluster_model.specs.declared.phase.LeftCause.{LeftCause}
use Rattle.cluster_model.specs.declared.phase.LeftCause.TheVariants.{Timeouts}
use Rattle.cluster_model.specs.declared.entry.Entry.{Entry}
use Rattle.cluster_model.specs.declared.call_stage.CallStage.{CallStage}
use Rattle.cluster_model.specs.declared.call_stage.CallStage.TheVariants.{Waits, Out, KeptOut, KeptBack, Done, GivenUp}
use Rattle.cluster_model.specs.declared.fence_mirror.FenceStep.{FenceStep}
use Rattle.cluster_model.specs.declared.fence_mirror.FenceStep.TheVariants.{Stranger, Acked, Again, Failed as HasFailed}
use Rattle.cluster_model.specs.declared.layout_state.LayoutState.{LayoutState}
use Rattle.cluster_model.specs.Fences.{is_over, stage_at_tick, FenceState, is_done, without}
use Rattle.cluster_model.specs.Phases.{is_last_live, mirror_left, fence_done, made}
use Rattle.file_rule.specs.MdsFiles.{Creations, Activity, Idle, Makes, Fences, Settles, Copies, FileStep, stays, goes_idle, goes_on, with_entries, fenced_on, fence_stepped, in_stage, with_creation, all_made, making_at, making_by, source_left, settling_timed_out}
use Rattle.file_rule.specs.declared.creation.Creation.{Creation}
use Rattle.file_rule.specs.FilePhases.{ticked}
use Rattle.cluster_laws.specs.Machine.{file_id}
use Rattle.cluster_laws.proofs.Lives.{all_map}
use Rattle.cluster_laws.proofs.Invariant.{Net, IsCreationOf, servers_of, IsFile}
use Rattle.cluster_laws.proofs.FenceSteps.{nothing_new}
use Rattle.cluster_laws.proofs.FenceAnswers.{tick_ok}
use Rattle.cluster_laws.proofs.Makings.{tick_stage}
use Rattle.cluster_laws.proofs.MakingSteps.{remade}
use Rattle.cluster_laws.proofs.CopySteps.{staged_settling, StepOk, Plain}
use Rattle.cluster_laws.proofs.Recopied.{recopied}
use Rattle.cluster_laws.proofs.Known.{Known}

-- neither a uid nor names
abbrev pub DrawsNone : FileStep → Type 0
DrawsNone x = (x.uids ≡ 0) × (x.names ≡ 0)

plain_if : (b : Bool) (x y : FileStep) → DrawsNone x → DrawsNone y → DrawsNone (cond b x y)
plain_if true x y hx hy = hx
plain_if false x y hx hy = hy

-- ---- the CREATEs of a new file

module _ (n : ℕ) (s : LayoutState) (all : Creations) (step : Creation → Creation) where
  plain_making_at : (place : ℕ) (got : Option Creation) → DrawsNone (making_at (file_id n) s all step place got)
  plain_making_at place None = (refl, refl)
  plain_making_at place (Some c) =
      let next : Creations = with_creation all place (step c) in
      plain_if (list_all (λ x. is_over x.stage) next.items) (goes_idle (made (file_id n) s (all_made next)) 0) (stays s (Makes next)) (refl, refl) (refl, refl)

  pub plain_making : (found : Option ℕ) → DrawsNone (making_by (file_id n) s all step found)
  plain_making None = (refl, refl)
  plain_making (Some place) = plain_making_at place (slice_get all.items place)

-- ---- a fence

plain_fenced : (n : ℕ) (s : LayoutState) (fence : FenceState) → DrawsNone (fenced_on (file_id n) s fence)
plain_fenced n s fence = plain_if (is_done fence) (goes_on (fence_done (file_id n) s)) (stays s (Fences fence)) (refl, refl) (refl, refl)

pub plain_fence : (n : ℕ) (s : LayoutState) (fence : FenceState) (step : FenceStep) → DrawsNone (fence_stepped (file_id n) s fence step)
plain_fence n s fence Stranger = (refl, refl)
plain_fence n s fence Acked = plain_fenced n s fence
plain_fence n s fence Again = (refl, refl)
plain_fence n s fence (HasFailed id cause) =
    plain_if (is_last_live s.live) (stays s (Fences fence)) (with_entries (mirror_left (file_id n) s id cause).entries (fenced_on (file_id n) (mirror_left (file_id n) s id cause).file (without fence id)))
    (refl, refl) (plain_fenced n (mirror_left (file_id n) s id cause).file (without fence id))

-- ---- the COMMIT of a source

plain_left : (n : ℕ) (s : LayoutState) (live : List Mirror) (cause : LeftCause) (kept : Activity) → DrawsNone (source_left (file_id n) s live cause kept)
plain_left n s [] cause kept = (refl, refl)
plain_left n s (m ∷ live) cause kept =
    plain_if (is_last_live s.live) (stays s kept) (record { file = record { layout = (mirror_left (file_id n) s m.id cause).file; activity = Settles Waits }; entries = (mirror_left (file_id n) s m.id cause).entries; uids = 0; names = 0 })
    (refl, refl) (refl, refl)

pub plain_settling : (n : ℕ) (s : LayoutState) (stage : CallStage) → DrawsNone (settling_timed_out (file_id n) s stage)
plain_settling n s Waits = (refl, refl)
plain_settling n s (Out xid timeouts) = plain_if (ltb (timeouts + 1) 3) (stays s (Settles (Out xid (timeouts + 1)))) (source_left (file_id n) s s.live Timeouts (Settles (KeptOut xid))) (refl, refl) (plain_left n s s.live Timeouts (Settles (KeptOut xid)))
plain_settling n s (KeptOut xid) = (refl, refl)
plain_settling n s KeptBack = (refl, refl)
plain_settling n s Done = (refl, refl)
plain_settling n s GivenUp = (refl, refl)

-- ---- a tick

abbrev at_tick : Creation → Creation
at_tick c = in_stage c (stage_at_tick c.stage)

servers_ticked : (items : List Creation) → servers_of (map at_tick items) ≡ servers_of items
servers_ticked [] = refl
servers_ticked (c ∷ items) = ap (λ ks. c.server ∷ ks) (servers_ticked items)

module _ (net : Net) (n next_uid files : ℕ) (journal : List Entry) (known : Known net next_uid files journal) (s : LayoutState) where
  ticked_file : (activity : Activity) → IsFile net journal n (record { layout = s; activity = activity }) → IsFile net journal n (record { layout = s; activity = ticked activity })
  ticked_file Idle h = h
  ticked_file (Makes all) h =
      remade net n next_uid files journal known.entries s all h (map at_tick all.items)
      (all_map (IsCreationOf net n all.owner) (IsCreationOf net n all.owner) at_tick all.items (λ c k. tick_stage net n all.owner c k) h.busy.items) (servers_ticked all.items)
  ticked_file (Fences fence) h = tick_ok net n next_uid (known.tops n) journal s fence h known.exact
  ticked_file (Settles stage) h = staged_settling net n next_uid journal s stage h (stage_at_tick stage)
  ticked_file (Copies c) h = recopied net n journal s c h c.at c.piece c.ended (stage_at_tick c.read) c.targets h.busy.targets h.busy.sources refl h.busy.short

  pub ticks_ok : (activity : Activity) → IsFile net journal n (record { layout = s; activity = activity }) → StepOk net journal n next_uid (stays s (ticked activity))
  ticks_ok activity h = Plain refl refl (nothing_new net journal n next_uid _ (ticked_file activity h))
