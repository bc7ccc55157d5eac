-- What steps leave, joined.
use Rattle.std.proofs.Common.{◌≡◌, ◌+◌, List, ◌++◌, Some, ap, subst, ◌∙◌, arith, append_assoc}
use Rattle.cluster_model.specs.declared.ids.FileId.{FileId}
use Rattle.cluster_model.specs.declared.ids.MirrorId.{MirrorId}
use Rattle.cluster_model.specs.declared.entry.Entry.{Entry}
use Rattle.cluster_model.specs.declared.phase.LeftCause.{LeftCause}
use Rattle.cluster_model.specs.declared.layout_state.LayoutState.{LayoutState}
use Rattle.cluster_model.specs.Phases.{mirror_left}
use Rattle.copy_rule.specs.Copies.{CopyState}
use Rattle.file_rule.specs.declared.fresh.Fresh.{Fresh}
use Rattle.file_rule.specs.MdsFiles.{FileStep, copied_on, target_left}
use Rattle.mds_rows.specs.Draws.{drawn}
use Rattle.mds_rows.specs.Rows.{HasRow}
use Rattle.mds_activity.specs.declared.activity.Activity.{Activity as CodeActivity}
use Rattle.mds_activity.specs.Activities.{Took, TookDrawing}

-- a step that draws nothing
none_drawn : (fresh : Fresh) (s : FileStep) → s.uids ≡ 0 → s.names ≡ 0 → fresh ≡ drawn fresh s
none_drawn fresh s no_uid no_name =
    let uid : fresh.uid ≡ fresh.uid + s.uids = omega (arith, no_uid) in
    let name : fresh.name ≡ fresh.name + s.names = omega (arith, no_name) in
    λ i. record { uid = uid i; name = name i; servers = fresh.servers }

pub took_none : (s : FileStep) (fresh : Fresh) (entries entries' : List Entry) (layout : LayoutState) (activity : CodeActivity) → Took s entries layout activity entries' → TookDrawing s fresh entries layout activity fresh entries'
took_none s fresh entries entries' layout activity took = record { file = took.file; draws = none_drawn fresh s took.uids took.names; more = took.more }

-- a mirror leaves, and the copy is done or goes on
pub left_then : (file : FileId) (old : LayoutState) (c : CopyState) (fresh fresh' : Fresh) (id : MirrorId) (cause : LeftCause) (entries between entries' : List Entry) (left layout : LayoutState) (activity : CodeActivity)
    → HasRow (mirror_left file old id cause) entries left between
    → TookDrawing (copied_on file left c fresh) fresh between layout activity fresh' entries'
    → TookDrawing (target_left file old c fresh cause (Some id)) fresh entries layout activity fresh' entries'
left_then file old c fresh fresh' id cause entries between entries' left layout activity row took =
    let s : FileStep = copied_on file (mirror_left file old id cause).file c fresh in
    let took' : TookDrawing s fresh between layout activity fresh' entries' = subst (λ (l : LayoutState). TookDrawing (copied_on file l c fresh) fresh between layout activity fresh' entries') row.file took in
    record {
      file = took'.file;
      draws = took'.draws;
      more = took'.more ∙ ap (λ l. l ++ s.entries) row.entries ∙ append_assoc entries (mirror_left file old id cause).entries s.entries;
    }
