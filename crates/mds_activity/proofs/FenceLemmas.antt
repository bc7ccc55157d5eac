-- What an answer to a SETATTR of a fence brings.
use Rattle.std.proofs.Common.{◌≡◌, ℕ, List, Option, Some, None, refl, ap, subst, ◌∙◌}
use Rattle.std.specs.Prelude.{slice_get}
use Rattle.cluster_model.specs.declared.ids.FileId.{FileId}
use Rattle.cluster_model.specs.declared.ids.MirrorId.{MirrorId}
use Rattle.cluster_model.specs.declared.entry.Entry.{Entry}
use Rattle.cluster_model.specs.declared.ds_call.Shown.{Shown}
use Rattle.cluster_model.specs.declared.fence_mirror.FenceMirror.{FenceMirror}
use Rattle.cluster_model.specs.declared.fence_mirror.FenceStep.{FenceStep}
use Rattle.cluster_model.specs.declared.layout_state.LayoutState.{LayoutState}
use Rattle.cluster_model.specs.DsCalls.{DsReplyValue}
use Rattle.cluster_model.specs.Fences.{FenceState, FenceAfter, on_reply, outstanding_at}
use Rattle.fence.specs.Calls.{fenced_id, mirror_id_at, mirror_out}
use Rattle.file_rule.specs.MdsFiles.{FileStep, seen_by, mirror_at, shown_by_set, fence_stepped, fence_answered}
use Rattle.mds_activity.specs.declared.activity.Activity.{Activity as CodeActivity}
use Rattle.mds_activity.specs.Activities.{seen_at_id, Took}

seen_by_id : (layout : LayoutState) (m : Option FenceMirror) (shown : Option Shown) → seen_at_id layout (fenced_id m) shown ≡ seen_by layout m shown
seen_by_id layout None shown = refl
seen_by_id layout (Some m) None = refl
seen_by_id layout (Some m) (Some shown) = refl

seen_by_place : (layout : LayoutState) (fence : FenceState) (place : Option ℕ) (shown : Option Shown) → seen_at_id layout (mirror_id_at fence place) shown ≡ seen_by layout (mirror_at fence place) shown
seen_by_place layout fence None shown = refl
seen_by_place layout fence (Some place) shown = seen_by_id layout (slice_get fence.mirrors place) shown

pub fence_taken : (file : FileId) (old seen : LayoutState) (fence after : FenceState) (mirror : Option MirrorId) (xid : ℕ) (reply : DsReplyValue) (shown : Option Shown) (step : FenceStep) (entries entries' : List Entry) (layout : LayoutState) (activity : CodeActivity)
    → mirror ≡ mirror_out fence xid → shown ≡ shown_by_set reply → seen ≡ seen_at_id old mirror shown → ◌≡◌ {A = FenceAfter} (record { fence = after; step = step }) (on_reply fence xid reply)
    → Took (fence_stepped file seen after step) entries layout activity entries'
    → Took (fence_answered file old fence xid reply) entries layout activity entries'
fence_taken file old seen fence after mirror xid reply shown step entries entries' layout activity named shows sees replies took =
    let lay : seen ≡ seen_by old (mirror_at fence (outstanding_at fence xid)) (shown_by_set reply) = sees ∙ ap (seen_at_id old mirror) shows ∙ ap (λ (o : Option MirrorId). seen_at_id old o (shown_by_set reply)) named ∙ seen_by_place old fence (outstanding_at fence xid) (shown_by_set reply) in
    let same : fence_stepped file seen after step ≡ fence_answered file old fence xid reply =
    ap (λ l. fence_stepped file l after step) lay
    ∙ ap (λ (a : FenceAfter). fence_stepped file (seen_by old (mirror_at fence (outstanding_at fence xid)) (shown_by_set reply)) a.fence a.step) replies in
    subst (λ (s : FileStep). Took s entries layout activity entries') same took
