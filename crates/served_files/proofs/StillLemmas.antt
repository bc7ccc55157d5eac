-- A file that has nothing under way behind an input is left by a tick as it is.
use Rattle.std.proofs.Common.{◌≡◌, ℕ, ◌+◌, ◌%◌, ◌^◌, Bool, true, false, cond, List, [], ◌∷◌, Option, Some, None, length, refl, ap, ◌∙◌}
use Rattle.std.specs.Prelude.{filter}
use Rattle.std.proofs.Math.Nat.{mod-mod}
use Rattle.cluster_model.specs.declared.ids.NodeId.{NodeId}
use Rattle.cluster_model.specs.declared.ids.Mirror.{Mirror}
use Rattle.cluster_model.specs.declared.ids.MirrorId.{MirrorId}
use Rattle.cluster_model.specs.declared.entry.Entry.{Entry}
use Rattle.cluster_model.specs.declared.layout_state.LayoutState.{LayoutState}
use Rattle.cluster_model.specs.declared.layout_state.LayoutPhase.{LayoutPhase}
use Rattle.cluster_model.specs.declared.layout_state.LayoutPhase.TheVariants.{Making, Free, Held, Fencing, Settling, Copying}
use Rattle.cluster_model.specs.Phases.{holder_of}
use Rattle.file_rule.specs.MdsFiles.{Activity, Idle, Makes, Fences, Settles, Copies}
use Rattle.file_rule.specs.FilePhases.{ticked}
use Rattle.mds_activity.specs.FileCalls.{kept_by}
use Rattle.mds_file.specs.Inputs.{is_idle}
use Rattle.mds_rule.specs.MdsStates.{ServedFile}
use Rattle.mds_rule.specs.ServedFiles.{is_of_period, is_live_size, kept_holder, sizes_in}
use Rattle.served_files.specs.FileSteps.{heard}
use Rattle.served_files.specs.Quiet.{IsFileStill}

idle_kept : (live : List Mirror) (a : Activity) → is_idle a ≡ true → kept_by live a ≡ None
idle_kept live Idle idle = refl
idle_kept live (Makes all) idle = absurd (cc)
idle_kept live (Fences fence) idle = absurd (cc)
idle_kept live (Settles stage) idle = absurd (cc)
idle_kept live (Copies copy) idle = absurd (cc)

idle_ticked : (a : Activity) → is_idle a ≡ true → ticked a ≡ a
idle_ticked Idle idle = refl
idle_ticked (Makes all) idle = absurd (cc)
idle_ticked (Fences fence) idle = absurd (cc)
idle_ticked (Settles stage) idle = absurd (cc)
idle_ticked (Copies copy) idle = absurd (cc)

filter_twice : (test : MirrorId × ℕ → Bool) (list : List (MirrorId × ℕ)) → filter test (filter test list) ≡ filter test list
filter_twice test [] = refl
filter_twice test (x ∷ list) = by_test (test x) refl (filter_twice test list)
  where
    by_test : (b : Bool) → test x ≡ b → filter test (filter test list) ≡ filter test list → filter test (cond b (x ∷ filter test list) (filter test list)) ≡ cond b (x ∷ filter test list) (filter test list)
    by_test true is rest = ap (λ (c : Bool). cond c (x ∷ filter test (filter test list)) (filter test (filter test list))) is ∙ ap (λ (l : List (MirrorId × ℕ)). x ∷ l) rest
    by_test false is rest = rest

sizes_twice : (layout : LayoutState) (phase : LayoutPhase) (sizes : List (MirrorId × ℕ)) → sizes_in layout phase (sizes_in layout phase sizes) ≡ sizes_in layout phase sizes
sizes_twice layout Making sizes = refl
sizes_twice layout Free sizes = filter_twice (is_live_size layout.live) sizes
sizes_twice layout (Held holder is_recalled) sizes = refl
sizes_twice layout (Fencing next end) sizes = refl
sizes_twice layout (Settling copies) sizes = refl
sizes_twice layout (Copying copier copies) sizes = refl

holder_twice : (node : Option NodeId) (holder : Option ℕ) → kept_holder node (kept_holder node holder) ≡ kept_holder node holder
holder_twice None holder = refl
holder_twice (Some node) holder = refl

pub heard_still : (s : ServedFile) (entries : List Entry) → is_idle s.file.activity ≡ true → IsFileStill (heard s entries)
heard_still s entries idle = record {
  kept = idle_kept s.file.layout.live s.file.activity idle;
  activity = idle_ticked s.file.activity idle;
  sizes = sizes_twice s.file.layout s.file.layout.phase s.sizes;
  periods = mod-mod (s.periods + length (filter is_of_period entries)) (2 ^ 64);
  holder = holder_twice (holder_of s.file.layout.phase) s.holder;
}
