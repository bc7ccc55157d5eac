-- Who is granted a file (RFC 8881, section 18.43; RFC 8435, section 2.2).
use Rattle.std.specs.Prelude.{◌≡◌, ℕ, Bool, true, false, ◌==◌, List, Option, Some, None, Result, Ok, Err, nat_lt, if◌then◌else◌}
use Rattle.cluster_model.specs.declared.limits.TheConstants.{SPARE_UIDS}
use Rattle.cluster_model.specs.declared.ids.NodeId.{NodeId}
use Rattle.cluster_model.specs.declared.ids.NodeId.TheVariants.{Mds, Server, Client}
use Rattle.cluster_model.specs.declared.ids.Cred.{Cred}
use Rattle.cluster_model.specs.declared.ids.Mirror.{Mirror}
use Rattle.cluster_model.specs.declared.phase.Phase.TheVariants as name
use Rattle.cluster_model.specs.declared.layout_state.LayoutState.{LayoutState}
use Rattle.cluster_model.specs.declared.layout_state.LayoutPhase.{LayoutPhase}
use Rattle.cluster_model.specs.declared.layout_state.LayoutPhase.TheVariants.{Making, Free, Held, Fencing, Settling, Copying}
use Rattle.cluster_model.specs.Nodes.{is_node}
use Rattle.cluster_model.specs.Phases.{phase_of, held_by, recalled}
use Rattle.layout_state.specs.declared.grant.Grant.{Grant}
use Rattle.layout_state.specs.declared.grant.GrantFault.{GrantFault}
use Rattle.layout_state.specs.declared.grant.GrantFault.TheVariants.{Later, Recalling, Spent}

-- ---- a grant

-- Why a file is not granted. The holder gets its grant again, unless it is recalled.
abbrev pub grant_fault_by : LayoutPhase → NodeId → ℕ → Option GrantFault
grant_fault_by Making node uids_left = Some (Later name.Making)
grant_fault_by Free node uids_left = if nat_lt uids_left SPARE_UIDS then Some Spent else None
grant_fault_by (Held holder is_recalled) node uids_left = if is_node holder node then (if is_recalled then Some Recalling else None) else Some (Later name.Held)
grant_fault_by (Fencing next end) node uids_left = Some (Later name.Fencing)
grant_fault_by (Settling copies) node uids_left = Some (Later name.Settling)
grant_fault_by (Copying copier copies) node uids_left = Some (Later name.Copying)

abbrev pub grant_fault : LayoutState → NodeId → ℕ → Option GrantFault
grant_fault s node uids_left = grant_fault_by s.phase node uids_left

-- the file was granted before
abbrev pub is_held : LayoutPhase → Bool
is_held Making = false
is_held Free = false
is_held (Held holder is_recalled) = true
is_held (Fencing next end) = false
is_held (Settling copies) = false
is_held (Copying copier copies) = false

abbrev pub grant_of : LayoutState → Grant
grant_of s = record { cred = s.cred; mirrors = s.live; again = is_held s.phase }

abbrev pub after_grant : LayoutState → NodeId → LayoutState
after_grant s node = if is_held s.phase then s else held_by s node

abbrev pub Grants : LayoutState → NodeId → ℕ → Result Grant GrantFault → LayoutState → Type 0
Grants old node uids_left (Ok grant) new = (grant_fault old node uids_left ≡ None) × (grant ≡ grant_of old) × (new ≡ after_grant old node)
Grants old node uids_left (Err fault) new = (grant_fault old node uids_left ≡ Some fault) × (new ≡ old)

-- ---- a recall

-- of a client's layout, where none is under way
abbrev pub recalled_holder : NodeId → Bool → Option NodeId
recalled_holder Mds is_recalled = None
recalled_holder (Server n) is_recalled = None
recalled_holder (Client n) is_recalled = if is_recalled then None else Some (Client n)

abbrev pub holder_to_recall : LayoutPhase → Option NodeId
holder_to_recall Making = None
holder_to_recall Free = None
holder_to_recall (Held holder is_recalled) = recalled_holder holder is_recalled
holder_to_recall (Fencing next end) = None
holder_to_recall (Settling copies) = None
holder_to_recall (Copying copier copies) = None

abbrev pub Recalls : LayoutState → Bool → LayoutState → Option NodeId → Type 0
Recalls old result new None = (result ≡ false) × (new ≡ old)
Recalls old result new (Some holder) = (result ≡ true) × (new ≡ recalled old holder)
