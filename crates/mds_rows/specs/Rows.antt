-- What the rows of a file do, as the code has them.
use Rattle.std.specs.Prelude.{◌≡◌, ℕ, Bool, true, false, List, [], ◌∷◌, ◌++◌, Some, None, if◌then◌else◌}
use Rattle.cluster_model.specs.declared.ids.NodeId.{NodeId}
use Rattle.cluster_model.specs.declared.ids.NodeId.TheVariants.{Client}
use Rattle.cluster_model.specs.declared.ids.FileId.{FileId}
use Rattle.cluster_model.specs.declared.ids.Cred.{Cred}
use Rattle.cluster_model.specs.declared.ids.MirrorId.{MirrorId}
use Rattle.cluster_model.specs.declared.entry.Entry.{Entry}
use Rattle.cluster_model.specs.declared.entry.Entry.TheVariants as entry
use Rattle.cluster_model.specs.declared.phase.EndCause.{EndCause}
use Rattle.cluster_model.specs.declared.phase.EndCause.TheVariants.{Returned, Own, AllReported, Recalled, Lease, NoLayout, ClientGone, ReturnedAll}
use Rattle.cluster_model.specs.declared.phase.LeftCause.{LeftCause}
use Rattle.cluster_model.specs.declared.layout_state.LayoutState.{LayoutState}
use Rattle.cluster_model.specs.declared.layout_state.LayoutPhase.{LayoutPhase}
use Rattle.cluster_model.specs.declared.layout_state.LayoutPhase.TheVariants.{Making, Free, Held, Fencing, Settling, Copying}
use Rattle.cluster_model.specs.declared.ids.Mirror.{Mirror}
use Rattle.cluster_model.specs.declared.phase.Phase.{Phase}
use Rattle.cluster_model.specs.declared.phase.Phase.TheVariants as name
use Rattle.cluster_model.specs.Phases.{PhaseStep, ids_of, granted, is_last_live, mirror_left, returned}
use Rattle.layout_state.specs.Grants.{grant_fault}
use Rattle.layout_state.specs.Returns.{return_fault}

-- the file behind a row, and its entries
pub record HasRow (s : PhaseStep) (old : List Entry) (layout : LayoutState) (new : List Entry) : Type 0 where
  pub file : layout ≡ s.file
  pub entries : new ≡ old ++ s.entries

-- nothing came of it
pub record ChangesNothing (old : LayoutState) (entries : List Entry) (layout : LayoutState) (new : List Entry) : Type 0 where
  pub same : layout ≡ old
  pub entries_same : new ≡ entries

-- a grant is for a file that is free
abbrev pub is_free : LayoutPhase → Bool
is_free Making = false
is_free Free = true
is_free (Held holder is_recalled) = false
is_free (Fencing next end) = false
is_free (Settling copies) = false
is_free (Copying copier copies) = false

abbrev pub AsksForGrant : FileId → NodeId → ℕ → LayoutState → List Entry → Bool → LayoutState → List Entry → Type 0
AsksForGrant file holder uids_left old entries true new entries' = (is_free old.phase ≡ true) × (grant_fault old holder uids_left ≡ None) × HasRow (granted file old holder) entries new entries'
AsksForGrant file holder uids_left old entries false new entries' = ((is_free old.phase ≡ true) → (fault : _) × (grant_fault old holder uids_left ≡ Some fault)) × ChangesNothing old entries new entries'

abbrev pub is_all_reported : EndCause → Bool
is_all_reported Returned = false
is_all_reported Own = false
is_all_reported AllReported = true
is_all_reported Recalled = false
is_all_reported Lease = false
is_all_reported NoLayout = false
is_all_reported ClientGone = false
is_all_reported ReturnedAll = false

-- the entries of an end, behind those of the mirrors that leave
abbrev pub ends_with : FileId → Cred → List Entry → EndCause → List Entry
ends_with file cred left cause = (if is_all_reported cause then [] else left) ++ entry.Ended file cred cause ∷ []

abbrev pub TakesBack : FileId → ℕ → Cred → List Bool → Cred → LayoutState → List Entry → Bool → LayoutState → List Entry → Type 0
TakesBack file client claimed places next old entries true new entries' = (return_fault old (Client client) claimed ≡ None) × HasRow (returned file old places next) entries new entries'
TakesBack file client claimed places next old entries false new entries' = ((fault : _) × (return_fault old (Client client) claimed ≡ Some fault)) × ChangesNothing old entries new entries'

abbrev pub LosesMirror : FileId → MirrorId → LeftCause → LayoutState → List Entry → Bool → LayoutState → List Entry → Type 0
LosesMirror file id cause old entries true new entries' = (is_last_live old.live ≡ false) × HasRow (mirror_left file old id cause) entries new entries'
LosesMirror file id cause old entries false new entries' = (is_last_live old.live ≡ true) × ChangesNothing old entries new entries'

-- the entry of a file that is free
abbrev pub free_entry : FileId → List Mirror → Phase → List Entry
free_entry file live name.Making = []
free_entry file live name.Free = entry.Free file (ids_of live) ∷ []
free_entry file live name.Held = []
free_entry file live name.Fencing = []
free_entry file live name.Settling = []
free_entry file live name.Copying = []
