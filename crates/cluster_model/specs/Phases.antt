-- The phases of a file at the metadata server, row by row (RFC 8435, section 2.2; RFC 8881, sections 12.5 and 18.44).
use Rattle.std.specs.Prelude.{ℕ, Bool, true, false, ◌==◌, ◌&&◌, not, List, [], ◌∷◌, ◌++◌, length, map, filter, Option, Some, None, is_some, nat_lt, if◌then◌else◌}
use Rattle.std.specs.List.{list_any}
use Rattle.cluster_model.specs.declared.tick.Tick.{Tick}
use Rattle.cluster_model.specs.declared.ids.NodeId.{NodeId}
use Rattle.cluster_model.specs.declared.ids.FileId.{FileId}
use Rattle.cluster_model.specs.declared.ids.Cred.{Cred}
use Rattle.cluster_model.specs.declared.ids.MirrorId.{MirrorId}
use Rattle.cluster_model.specs.declared.ids.Mirror.{Mirror}
use Rattle.cluster_model.specs.declared.phase.Phase.{Phase}
use Rattle.cluster_model.specs.declared.phase.Phase.TheVariants as name
use Rattle.cluster_model.specs.declared.phase.EndCause.{EndCause}
use Rattle.cluster_model.specs.declared.phase.EndCause.TheVariants.{Returned, Own, AllReported, Recalled, Lease, NoLayout, ClientGone, ReturnedAll}
use Rattle.cluster_model.specs.declared.phase.LeftCause.{LeftCause}
use Rattle.cluster_model.specs.declared.phase.LeftCause.TheVariants.{Reported as WasReported}
use Rattle.cluster_model.specs.declared.layout_state.LayoutState.{LayoutState}
use Rattle.cluster_model.specs.declared.layout_state.LayoutPhase.{LayoutPhase}
use Rattle.cluster_model.specs.declared.layout_state.LayoutPhase.TheVariants.{Making, Free, Held, Fencing, Settling, Copying}
use Rattle.cluster_model.specs.declared.layout_state.FenceEnd.{FenceEnd}
use Rattle.cluster_model.specs.declared.layout_state.FenceEnd.TheVariants.{Clean, Dirty, Copied}
use Rattle.cluster_model.specs.declared.layout_state.CopyKind.{CopyKind}
use Rattle.cluster_model.specs.declared.layout_state.CopyKind.TheVariants.{Replacing, Adding}
use Rattle.cluster_model.specs.declared.entry.Entry.{Entry}
use Rattle.cluster_model.specs.declared.entry.Entry.TheVariants as entry
use Rattle.cluster_model.specs.declared.targets.SwappedIn.{SwappedIn}
use Rattle.cluster_model.specs.Journal.{is_mirror}
use Rattle.cluster_model.specs.Mirrors.{can_add}

-- ---- the live list

abbrev pub ids_of : List Mirror → List MirrorId
ids_of mirrors = map (λ m. m.id) mirrors

-- but for those whose places are named
abbrev pub unreported : List Bool → List Mirror → List Mirror
unreported places [] = []
unreported [] (m ∷ mirrors) = m ∷ mirrors
unreported (gone ∷ places) (m ∷ mirrors) = if gone then unreported places mirrors else m ∷ unreported places mirrors

-- but for one
abbrev pub but_for : MirrorId → List Mirror → List Mirror
but_for id mirrors = filter (λ m. not (is_mirror m.id id)) mirrors

-- the ctime last seen at a mirror
abbrev pub seen_if : MirrorId → Tick → Mirror → Mirror
seen_if id tick m = if is_mirror m.id id then record { id = m.id; seen = tick } else m

abbrev pub seen_at : MirrorId → Tick → List Mirror → List Mirror
seen_at id tick mirrors = map (seen_if id tick) mirrors

-- the mirror is the only one
abbrev pub is_last_live : List Mirror → Bool
is_last_live mirrors = nat_lt (length mirrors) 2

-- the entries of mirrors that leave, by what each of them is said to have
abbrev pub left_entries : FileId → List (Option LeftCause) → List Mirror → List Entry
left_entries file causes [] = []
left_entries file [] (m ∷ mirrors) = []
left_entries file (None ∷ causes) (m ∷ mirrors) = left_entries file causes mirrors
left_entries file (Some cause ∷ causes) (m ∷ mirrors) = entry.Left file m.id cause ∷ left_entries file causes mirrors

-- ---- a phase

abbrev pub phase_of : LayoutPhase → Phase
phase_of Making = name.Making
phase_of Free = name.Free
phase_of (Held holder recalled) = name.Held
phase_of (Fencing next end) = name.Fencing
phase_of (Settling copies) = name.Settling
phase_of (Copying copier copies) = name.Copying

abbrev pub holder_of : LayoutPhase → Option NodeId
holder_of Making = None
holder_of Free = None
holder_of (Held holder recalled) = Some holder
holder_of (Fencing next end) = None
holder_of (Settling copies) = None
holder_of (Copying copier copies) = None

abbrev pub is_clean : EndCause → Bool
is_clean Returned = true
is_clean Own = true
is_clean AllReported = false
is_clean Recalled = false
is_clean Lease = false
is_clean NoLayout = false
is_clean ClientGone = false
is_clean ReturnedAll = false

abbrev pub with_phase : LayoutState → LayoutPhase → LayoutState
with_phase s phase = record { wanted = s.wanted; cred = s.cred; live = s.live; phase = phase }

abbrev pub with_live : LayoutState → List Mirror → LayoutState
with_live s live = record { wanted = s.wanted; cred = s.cred; live = live; phase = s.phase }

-- ---- the rows: a file after one, and its entries

pub record PhaseStep : Type 0 where
  pub file : LayoutState
  pub entries : List Entry

-- the phase Free is entered with its entry
abbrev pub freed : FileId → LayoutState → PhaseStep
freed file s = record { file = with_phase s Free; entries = entry.Free file (ids_of s.live) ∷ [] }

-- OPEN creates the file, and a uid is drawn for it
abbrev pub begun : Cred → ℕ → LayoutState
begun first wanted = record { wanted = wanted; cred = first; live = []; phase = Making }

-- Making: each CREATE was answered or given up
abbrev pub free_with : LayoutState → List Mirror → LayoutState
free_with s live = with_phase (with_live s live) Free

abbrev pub made : FileId → LayoutState → List Mirror → PhaseStep
made file s live = record { file = free_with s live; entries = entry.Free file (ids_of live) ∷ [] }

-- Free: a layout for writing is granted to a client, or the file to the metadata server's own write
abbrev pub held_by : LayoutState → NodeId → LayoutState
held_by s holder = with_phase s (Held holder false)

abbrev pub granted : FileId → LayoutState → NodeId → PhaseStep
granted file s holder = record { file = held_by s holder; entries = entry.Granted file s.cred holder ∷ [] }

-- Held by a client: its layout is recalled
abbrev pub recalled : LayoutState → NodeId → LayoutState
recalled s holder = with_phase s (Held holder true)

-- Held: the period ends with these mirrors left, and their fence to a fresh uid begins. With none left all stay, and may differ.
abbrev pub fencing : LayoutState → List Mirror → FenceEnd → Cred → LayoutState
fencing s live end next = with_phase (with_live s live) (Fencing next end)

abbrev pub left_with : LayoutState → Cred → List Mirror → LayoutState
left_with s next [] = fencing s s.live Dirty next
left_with s next (m ∷ live) = fencing s (m ∷ live) Clean next

-- the cause of the end, and its entries behind those of the mirrors that leave
abbrev pub end_cause : EndCause → List Mirror → EndCause
end_cause cause [] = AllReported
end_cause cause (m ∷ live) = cause

abbrev pub end_entries : FileId → Cred → List Entry → EndCause → List Mirror → List Entry
end_entries file cred left cause [] = entry.Ended file cred AllReported ∷ []
end_entries file cred left cause (m ∷ live) = left ++ entry.Ended file cred cause ∷ []

-- Held by a client: LAYOUTRETURN of this grant, which reports the mirrors at some places
abbrev pub after_return : LayoutState → List Bool → Cred → LayoutState
after_return s places next = left_with s next (unreported places s.live)

abbrev pub reported_cause : Bool → Option LeftCause
reported_cause gone = if gone then Some WasReported else None

abbrev pub returned : FileId → LayoutState → List Bool → Cred → PhaseStep
returned file s places next = record {
  file = after_return s places next;
  entries = end_entries file s.cred (left_entries file (map reported_cause places) s.live) Returned (unreported places s.live);
}

-- Held by a client: the recall expired, the lease is over, the client knows of no such layout, is gone, or returned all that it had
abbrev pub after_revocation : LayoutState → Cred → LayoutState
after_revocation s next = fencing s s.live Dirty next

abbrev pub revoked : FileId → LayoutState → EndCause → Cred → PhaseStep
revoked file s cause next = record { file = after_revocation s next; entries = entry.Ended file s.cred cause ∷ [] }

-- Held by the metadata server: its write is committed or has failed at each mirror
abbrev pub own_done : FileId → LayoutState → List (Option LeftCause) → Entry → Cred → PhaseStep
own_done file s causes told next = record {
  file = after_return s (map is_some causes) next;
  entries = end_entries file s.cred (left_entries file causes s.live ++ told ∷ []) Own (unreported (map is_some causes) s.live);
}

-- Fencing, Settling, Copying: a mirror leaves that is not the last; where it was the source of a copy, the next one is
abbrev pub is_source : MirrorId → List Mirror → Bool
is_source id [] = false
is_source id (m ∷ mirrors) = is_mirror m.id id

abbrev pub phase_without : LayoutPhase → Bool → LayoutPhase
phase_without Making source = Making
phase_without Free source = Free
phase_without (Held holder recalled) source = Held holder recalled
phase_without (Fencing next end) source = Fencing next end
phase_without (Settling copies) source = Settling copies
phase_without (Copying copier copies) source = if source then Settling copies else Copying copier copies

abbrev pub after_loss : LayoutState → MirrorId → LayoutState
after_loss s id = with_phase (with_live s (but_for id s.live)) (phase_without s.phase (is_source id s.live))

abbrev pub mirror_left : FileId → LayoutState → MirrorId → LeftCause → PhaseStep
mirror_left file s id cause = record { file = after_loss s id; entries = entry.Left file id cause ∷ [] }

-- Fencing: each mirror acknowledged or left. Behind a dirty end the first live mirror is to be committed.
abbrev pub phase_fenced : FenceEnd → LayoutPhase
phase_fenced Clean = Free
phase_fenced Dirty = Settling Replacing
phase_fenced Copied = Free

abbrev pub fenced_to : LayoutState → LayoutPhase → LayoutState
fenced_to s Making = s
fenced_to s Free = s
fenced_to s (Held holder recalled) = s
fenced_to s (Fencing next end) = record { wanted = s.wanted; cred = next; live = s.live; phase = phase_fenced end }
fenced_to s (Settling copies) = s
fenced_to s (Copying copier copies) = s

abbrev pub after_fence : LayoutState → LayoutState
after_fence s = fenced_to s s.phase

abbrev pub free_entries : FileId → FenceEnd → List Mirror → List Entry
free_entries file Clean live = entry.Free file (ids_of live) ∷ []
free_entries file Dirty live = []
free_entries file Copied live = entry.Free file (ids_of live) ∷ []

abbrev pub fence_entries : FileId → LayoutState → LayoutPhase → List Entry
fence_entries file s Making = []
fence_entries file s Free = []
fence_entries file s (Held holder recalled) = []
fence_entries file s (Fencing next end) = entry.Fenced file s.cred next (ids_of s.live) ∷ free_entries file end s.live
fence_entries file s (Settling copies) = []
fence_entries file s (Copying copier copies) = []

abbrev pub fence_done : FileId → LayoutState → PhaseStep
fence_done file s = record { file = after_fence s; entries = fence_entries file s s.phase }

-- Settling: the source is committed. Where there is something to copy, a uid is drawn for it.
abbrev pub has_targets : CopyKind → ℕ → ℕ → Bool
has_targets Replacing count wanted = nat_lt 1 count
has_targets Adding count wanted = nat_lt count wanted

abbrev pub settled_row : FileId → LayoutState → CopyKind → Cred → PhaseStep
settled_row file s copies copier =
    if has_targets copies (length s.live) s.wanted
    then record { file = with_phase s (Copying copier copies); entries = [] }
    else freed file s

-- Copying: all targets that are left hold the source's bytes. Each comes into the place of the mirror that it replaces, or to the end.
abbrev pub put_if : MirrorId → Mirror → Mirror → Mirror
put_if old new m = if is_mirror m.id old then new else m

abbrev pub in_place : SwappedIn → Option MirrorId → List Mirror → List Mirror
in_place t None live = live ++ t.new ∷ []
in_place t (Some old) live = map (put_if old t.new) live

abbrev pub with_targets : List SwappedIn → List Mirror → List Mirror
with_targets [] live = live
with_targets (t ∷ targets) live = with_targets targets (in_place t t.old live)

-- A fresh mirror may come into the place of a live one on its server that is not the source, or to the end where none is on its server.
abbrev pub is_one_of : MirrorId → List Mirror → Bool
is_one_of id mirrors = list_any (λ m. is_mirror m.id id) mirrors

abbrev pub can_swap : SwappedIn → Option MirrorId → List Mirror → Bool
can_swap t None live = can_add live t.new
can_swap t (Some old) live = (t.new.id.server == old.server) && (not (is_source old live) && is_one_of old live)

abbrev pub can_swap_all : List SwappedIn → List Mirror → Bool
can_swap_all [] live = true
can_swap_all (t ∷ targets) live = can_swap t t.old live && can_swap_all targets (in_place t t.old live)

abbrev pub swapped_entries : FileId → List SwappedIn → List Entry
swapped_entries file targets = map (λ t. entry.Swapped file t.old t.new.id) targets

abbrev pub copied : FileId → LayoutState → Cred → List SwappedIn → Cred → PhaseStep
copied file s copier [] next = freed file s
copied file s copier (t ∷ targets) next = record {
  file = record { wanted = s.wanted; cred = copier; live = with_targets (t ∷ targets) s.live; phase = Fencing next Copied };
  entries = swapped_entries file (t ∷ targets);
}

-- Free, and fewer mirrors are live than are wanted
abbrev pub resilvered : LayoutState → LayoutState
resilvered s = with_phase s (Settling Adding)
