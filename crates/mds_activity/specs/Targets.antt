-- Which targets of a copy can come into the live list of its file (RFC 8435, section 8.3).
use Rattle.std.specs.Prelude.{◌≡◌, ◌≤◌, ℕ, ◌+◌, Bool, true, false, not, ◌==◌, ◌&&◌, List, [], ◌∷◌, length, map, Option, Some, None, is_some, if◌then◌else◌}
use Rattle.std.specs.List.{list_all}
use Rattle.cluster_model.specs.declared.ids.Mirror.{Mirror}
use Rattle.cluster_model.specs.declared.ids.MirrorId.{MirrorId}
use Rattle.cluster_model.specs.Mirrors.{has_server}
use Rattle.cluster_model.specs.Phases.{is_source, is_one_of, is_last_live, but_for}
use Rattle.copy_rule.specs.declared.copy_target.CopyTarget.{CopyTarget}
use Rattle.copy_rule.specs.declared.copy_target.CopyStep.{CopyStep}
use Rattle.copy_rule.specs.declared.copy_target.CopyStep.TheVariants.{Stranger, Waiting, SourceFailed, TargetFailed, Done}
use Rattle.copy_rule.specs.Copies.{is_given_up}
use Rattle.mds_creations.specs.Makings.{are_different}

-- A mirror on this server may come in: in the place of one that is live there and not the first, or where none is live there.
abbrev pub can_stand : List Mirror → ℕ → Option MirrorId → Bool
can_stand live server None = not (has_server live server)
can_stand live server (Some old) = (server == old.server) && (not (is_source old live) && is_one_of old live)

abbrev pub is_made_on : ℕ → Option Mirror → Bool
is_made_on server None = true
is_made_on server (Some m) = m.id.server == server

-- a target that is left can come in, on its server; one that was thrown away has no file
abbrev pub can_come_in : List Mirror → CopyTarget → Bool
can_come_in live t = if is_given_up t.stage then not (is_some t.made) else (is_made_on t.server t.made && can_stand live t.server t.replaced)

-- how many of them join the others
abbrev pub one_if_added : Option MirrorId → ℕ
one_if_added None = 1
one_if_added (Some old) = 0

abbrev pub count_added : List CopyTarget → ℕ
count_added [] = 0
count_added (t ∷ targets) = one_if_added t.replaced + count_added targets

abbrev pub target_servers : List CopyTarget → List ℕ
target_servers targets = map (λ t. t.server) targets

-- all of them can, one after the other
pub record CanAllComeIn (live : List Mirror) (targets : List CopyTarget) : Type 0 where
  pub apart : are_different (target_servers targets) ≡ true
  pub fit : list_all (can_come_in live) targets ≡ true
  pub room : length live + count_added targets ≤ 4

-- a live mirror that is not the first may leave, and the targets that are left can still come in
pub record MayLeave (live : List Mirror) (targets : List CopyTarget) (id : MirrorId) : Type 0 where
  pub others : is_last_live live ≡ false
  pub not_source : is_source id live ≡ false
  pub all_fit : CanAllComeIn (but_for id live) targets

-- what holds of the mirror that a target was to replace, where the target failed
abbrev pub may_leave : List Mirror → List CopyTarget → Option MirrorId → Type 0
may_leave live targets None = Unit {0}
may_leave live targets (Some id) = MayLeave live targets id

abbrev pub LosesTarget : List Mirror → List CopyTarget → CopyStep → Type 0
LosesTarget live targets Stranger = Unit {0}
LosesTarget live targets Waiting = Unit {0}
LosesTarget live targets (SourceFailed cause) = Unit {0}
LosesTarget live targets (TargetFailed server replaced cause) = may_leave live targets replaced
LosesTarget live targets Done = Unit {0}
