-- A file while a copy of it is made, and why no mirrors are added to it (RFC 8435, section 8.3).
use Rattle.std.specs.Prelude.{◌≡◌, ⊤, ℕ, Bool, true, false, not, List, length, Option, Some, None, Result, Ok, Err, nat_lt, if◌then◌else◌}
use Rattle.cluster_model.specs.declared.limits.TheConstants.{SPARE_UIDS}
use Rattle.cluster_model.specs.declared.ids.FileId.{FileId}
use Rattle.cluster_model.specs.declared.ids.Cred.{Cred}
use Rattle.cluster_model.specs.declared.phase.Phase.TheVariants as name
use Rattle.cluster_model.specs.declared.layout_state.LayoutState.{LayoutState}
use Rattle.cluster_model.specs.declared.layout_state.LayoutPhase.{LayoutPhase}
use Rattle.cluster_model.specs.declared.layout_state.LayoutPhase.TheVariants.{Making, Free, Held, Fencing, Settling, Copying}
use Rattle.cluster_model.specs.declared.targets.SwappedIn.{SwappedIn}
use Rattle.cluster_model.specs.Phases.{settled_row, copied, resilvered}
use Rattle.layout_state.specs.declared.grant.AddMirrorFault.{AddMirrorFault}
use Rattle.layout_state.specs.declared.grant.AddMirrorFault.TheVariants.{Later, Whole, Spent}

-- the file behind the row of Settling, whichever number it has
abbrev pub Settles : LayoutState → LayoutPhase → Cred → LayoutState → Type 0
Settles old (Settling copies) next new = (file : FileId) → new ≡ (settled_row file old copies next).file
Settles old Making next new = new ≡ old
Settles old Free next new = new ≡ old
Settles old (Held holder is_recalled) next new = new ≡ old
Settles old (Fencing fresh end) next new = new ≡ old
Settles old (Copying copier copies) next new = new ≡ old

-- the file behind the row of Copying
abbrev pub SwapsIn : LayoutState → LayoutPhase → List SwappedIn → Cred → LayoutState → Type 0
SwapsIn old (Copying copier copies) targets next new = (file : FileId) → new ≡ (copied file old copier targets next).file
SwapsIn old Making targets next new = new ≡ old
SwapsIn old Free targets next new = new ≡ old
SwapsIn old (Held holder is_recalled) targets next new = new ≡ old
SwapsIn old (Fencing fresh end) targets next new = new ≡ old
SwapsIn old (Settling copies) targets next new = new ≡ old

-- ---- resilvering

-- Why no mirrors are added: it is not free; as many are live as are wanted; too few uids are left.
abbrev pub add_fault_by : LayoutPhase → Bool → ℕ → Option AddMirrorFault
add_fault_by Free is_missing uids_left = if is_missing then (if nat_lt uids_left SPARE_UIDS then Some Spent else None) else Some Whole
add_fault_by Making is_missing uids_left = Some (Later name.Making)
add_fault_by (Held holder is_recalled) is_missing uids_left = Some (Later name.Held)
add_fault_by (Fencing fresh end) is_missing uids_left = Some (Later name.Fencing)
add_fault_by (Settling copies) is_missing uids_left = Some (Later name.Settling)
add_fault_by (Copying copier copies) is_missing uids_left = Some (Later name.Copying)

abbrev pub add_fault : LayoutState → ℕ → Option AddMirrorFault
add_fault s uids_left = add_fault_by s.phase (nat_lt (length s.live) s.wanted) uids_left

abbrev pub AddsMirrors : LayoutState → ℕ → Result (Unit {0}) AddMirrorFault → LayoutState → Type 0
AddsMirrors old uids_left (Ok done) new = (add_fault old uids_left ≡ None) × (new ≡ resilvered old)
AddsMirrors old uids_left (Err fault) new = (add_fault old uids_left ≡ Some fault) × (new ≡ old)
