-- How a period ends, and how mirrors leave behind it (RFC 8881, section 18.44; RFC 8435, sections 2.2 and 9).
use Rattle.std.specs.Prelude.{◌≡◌, Bool, true, false, ◌==◌, ◌&&◌, List, Option, Some, None, Result, Ok, Err, if◌then◌else◌}
use Rattle.cluster_model.specs.declared.ids.NodeId.{NodeId}
use Rattle.cluster_model.specs.declared.ids.NodeId.TheVariants.{Mds, Server, Client}
use Rattle.cluster_model.specs.declared.ids.Cred.{Cred}
use Rattle.cluster_model.specs.declared.ids.Mirror.{Mirror}
use Rattle.cluster_model.specs.declared.phase.Phase.{Phase}
use Rattle.cluster_model.specs.declared.phase.Phase.TheVariants as name
use Rattle.cluster_model.specs.declared.phase.EndCause.{EndCause}
use Rattle.cluster_model.specs.declared.phase.EndCause.TheVariants as cause
use Rattle.cluster_model.specs.declared.layout_state.LayoutState.{LayoutState}
use Rattle.cluster_model.specs.declared.layout_state.LayoutPhase.{LayoutPhase}
use Rattle.cluster_model.specs.declared.layout_state.LayoutPhase.TheVariants.{Making, Free, Held, Fencing, Settling, Copying}
use Rattle.cluster_model.specs.Nodes.{is_node}
use Rattle.cluster_model.specs.Phases.{unreported, end_cause, after_return}
use Rattle.layout_state.specs.declared.grant.ReturnFault.{ReturnFault}
use Rattle.layout_state.specs.declared.grant.ReturnFault.TheVariants.{Unknown, Other}

-- Why a return is not taken: the file is not held, or another node or under another uid.
abbrev pub return_fault_by : LayoutPhase → Cred → NodeId → Cred → Option ReturnFault
return_fault_by Making current node claimed = Some Unknown
return_fault_by Free current node claimed = Some Unknown
return_fault_by (Held holder is_recalled) current node claimed = if is_node holder node && (current.0 == claimed.0) then None else Some (Other current)
return_fault_by (Fencing next end) current node claimed = Some Unknown
return_fault_by (Settling copies) current node claimed = Some Unknown
return_fault_by (Copying copier copies) current node claimed = Some Unknown

abbrev pub return_fault : LayoutState → NodeId → Cred → Option ReturnFault
return_fault s node claimed = return_fault_by s.phase s.cred node claimed

abbrev pub Returns : LayoutState → NodeId → Cred → List Bool → Cred → Result EndCause ReturnFault → LayoutState → Type 0
Returns old node claimed places next (Ok end) new = (return_fault old node claimed ≡ None) × (end ≡ end_cause cause.Returned (unreported places old.live)) × (new ≡ after_return old places next)
Returns old node claimed places next (Err fault) new = (return_fault old node claimed ≡ Some fault) × (new ≡ old)

-- ---- what a call is for

-- mirrors may leave by themselves
abbrev pub may_lose : Phase → Bool
may_lose name.Making = false
may_lose name.Free = false
may_lose name.Held = false
may_lose name.Fencing = true
may_lose name.Settling = true
may_lose name.Copying = true
