-- What a file has under way, as the code has it.
use Rattle.std.specs.Prelude.{◌≡◌, ◌≤◌, Bool, true, false, List, [], ◌∷◌, ◌++◌, length, Option, Some, None}
use Rattle.cluster_model.specs.declared.ids.Cred.{Cred}
use Rattle.cluster_model.specs.declared.phase.Phase.TheVariants as name
use Rattle.cluster_model.specs.declared.layout_state.LayoutState.{LayoutState}
use Rattle.cluster_model.specs.declared.layout_state.LayoutPhase.{LayoutPhase}
use Rattle.cluster_model.specs.declared.layout_state.LayoutPhase.TheVariants.{Making, Free, Held, Fencing, Settling, Copying}
use Rattle.cluster_model.specs.declared.layout_state.CopyKind.{CopyKind}
use Rattle.cluster_model.specs.declared.ids.MirrorId.{MirrorId}
use Rattle.cluster_model.specs.declared.entry.Entry.{Entry}
use Rattle.cluster_model.specs.declared.ds_call.Shown.{Shown}
use Rattle.cluster_model.specs.Fences.{odd_status}
use Rattle.cluster_model.specs.Phases.{phase_of, seen_at, with_live}
use Rattle.copy_rule.specs.Copies.{CopyState}
use Rattle.mds_activity.specs.Targets.{CanAllComeIn}
use Rattle.cluster_model.specs.declared.ids.FileId.{FileId}
use Rattle.cluster_model.specs.declared.ids.Mirror.{Mirror}
use Rattle.cluster_model.specs.declared.phase.LeftCause.{LeftCause}
use Rattle.cluster_model.specs.declared.phase.LeftCause.TheVariants.{Error}
use Rattle.cluster_model.specs.DsCalls.{DsReplyValue, Created, Set, Written, Committed, Bytes, NotSync, Failed}
use Rattle.file_rule.specs.declared.fresh.Fresh.{Fresh}
use Rattle.mds_rows.specs.Rows.{LosesMirror}
use Rattle.mds_rows.specs.Draws.{drawn}
use Rattle.file_rule.specs.MdsFiles.{Creations, Activity, Idle, Makes, Fences, Settles, Copies, MdsFile, FileStep}
use Rattle.mds_activity.specs.declared.activity.Activity.{Activity as CodeActivity}
use Rattle.mds_activity.specs.declared.activity.Activity.TheVariants as given

abbrev pub plain_activity : CodeActivity → Activity
plain_activity given.Idle = Idle
plain_activity (given.Makes all) = Makes all
plain_activity (given.Fences fence) = Fences fence
plain_activity (given.Settles copies stage) = Settles stage
plain_activity (given.Copies copier copies copy) = Copies copy

-- nothing is under way
abbrev pub is_resting : LayoutPhase → Bool
is_resting Making = false
is_resting Free = true
is_resting (Held holder is_recalled) = true
is_resting (Fencing next end) = false
is_resting (Settling copies) = false
is_resting (Copying copier copies) = false

pub record IsMaking (s : LayoutState) (all : Creations) : Type 0 where
  pub making : s.phase ≡ Making
  pub wants : length all.items ≤ s.wanted

pub record IsCopying (s : LayoutState) (copier : Cred) (copies : CopyKind) (c : CopyState) : Type 0 where
  pub copying : s.phase ≡ Copying copier copies
  pub owner : c.copier ≡ copier.0
  pub all_fit : CanAllComeIn s.live c.targets

-- what is under way is what the phase says
abbrev pub FitsPhase : LayoutState → CodeActivity → Type 0
FitsPhase s given.Idle = is_resting s.phase ≡ true
FitsPhase s (given.Makes all) = IsMaking s all
FitsPhase s (given.Fences fence) = phase_of s.phase ≡ name.Fencing
FitsPhase s (given.Settles copies stage) = s.phase ≡ Settling copies
FitsPhase s (given.Copies copier copies copy) = IsCopying s copier copies copy

pub record IsMdsFile (s : LayoutState) (activity : CodeActivity) : Type 0 where
  pub few : s.wanted ≤ 4
  pub fits : FitsPhase s activity

abbrev pub is_making : Activity → Bool
is_making Idle = false
is_making (Makes all) = true
is_making (Fences fence) = false
is_making (Settles stage) = false
is_making (Copies copy) = false

abbrev pub is_fencing : Activity → Bool
is_fencing Idle = false
is_fencing (Makes all) = false
is_fencing (Fences fence) = true
is_fencing (Settles stage) = false
is_fencing (Copies copy) = false

abbrev pub seen_at_id : LayoutState → Option MirrorId → Option Shown → LayoutState
seen_at_id layout None shown = layout
seen_at_id layout (Some id) None = layout
seen_at_id layout (Some id) (Some shown) = with_live layout (seen_at id shown.seen layout.live)

-- a file's state, what it has under way and its entries behind a step that draws nothing
pub record Took (s : FileStep) (entries : List Entry) (layout : LayoutState) (activity : CodeActivity) (entries' : List Entry) : Type 0 where
  pub file : ◌≡◌ {A = MdsFile} (record { layout = layout; activity = plain_activity activity }) s.file
  pub more : entries' ≡ entries ++ s.entries
  pub uids : s.uids ≡ 0
  pub names : s.names ≡ 0

abbrev pub is_copying : Activity → Bool
is_copying Idle = false
is_copying (Makes all) = false
is_copying (Fences fence) = false
is_copying (Settles stage) = false
is_copying (Copies copy) = true

abbrev pub is_settling : Activity → Bool
is_settling Idle = false
is_settling (Makes all) = false
is_settling (Fences fence) = false
is_settling (Settles stage) = true
is_settling (Copies copy) = false

-- the first live mirror leaves, unless it is the last one
abbrev pub loses_first : FileId → LayoutState → List Mirror → LeftCause → List Entry → Bool → LayoutState → List Entry → Type 0
loses_first file old [] cause entries result new entries' = (result ≡ false) × (new ≡ old) × (entries' ≡ entries)
loses_first file old (m ∷ live) cause entries result new entries' = LosesMirror file m.id cause old entries result new entries'

abbrev pub LosesSource : FileId → LayoutState → LeftCause → List Entry → Bool → LayoutState → List Entry → Type 0
LosesSource file old cause entries result new entries' = loses_first file old old.live cause entries result new entries'

-- why an answer to a COMMIT is a failure
abbrev pub commit_failed : DsReplyValue → Option LeftCause
commit_failed (Created fileid shown) = Some (Error odd_status)
commit_failed (Set shown) = Some (Error odd_status)
commit_failed (Written shown verifier) = Some (Error odd_status)
commit_failed (Committed shown verifier) = None
commit_failed (Bytes shown eof bytes) = Some (Error odd_status)
commit_failed (NotSync shown) = Some (Error odd_status)
commit_failed (Failed status shown) = Some (Error status)

-- a file's state, what it has under way, what is drawn next and its entries behind a step
pub record TookDrawing (s : FileStep) (fresh : Fresh) (entries : List Entry) (layout : LayoutState) (activity : CodeActivity) (fresh' : Fresh) (entries' : List Entry) : Type 0 where
  pub file : ◌≡◌ {A = MdsFile} (record { layout = layout; activity = plain_activity activity }) s.file
  pub draws : fresh' ≡ drawn fresh s
  pub more : entries' ≡ entries ++ s.entries
