-- That what is under way fits a file of which another ctime was seen.
use Rattle.std.proofs.Common.{◌≡◌, sym, subst}
use Rattle.cluster_model.specs.declared.tick.Tick.{Tick}
use Rattle.cluster_model.specs.declared.ids.MirrorId.{MirrorId}
use Rattle.cluster_model.specs.declared.layout_state.LayoutState.{LayoutState}
use Rattle.cluster_model.specs.Phases.{seen_at, with_live}
use Rattle.mds_activity.specs.declared.activity.Activity.{Activity}
use Rattle.mds_activity.specs.declared.activity.Activity.TheVariants.{Idle, Makes, Fences, Settles, Copies}
use Rattle.mds_activity.specs.Activities.{FitsPhase, IsMdsFile}
use Rattle.mds_activity.proofs.Swaps.{seen_fit}

seen_phase : (s : LayoutState) (id : MirrorId) (tick : Tick) (activity : Activity) → FitsPhase s activity → FitsPhase (with_live s (seen_at id tick s.live)) activity
seen_phase s id tick Idle h = h
seen_phase s id tick (Makes all) h = record { making = h.making; wants = h.wants }
seen_phase s id tick (Fences fence) h = h
seen_phase s id tick (Settles copies stage) h = h
seen_phase s id tick (Copies copier copies copy) h = record { copying = h.copying; owner = h.owner; all_fit = seen_fit id tick s.live copy.targets h.all_fit }

pub seen_file : (s s' : LayoutState) (id : MirrorId) (tick : Tick) (activity : Activity) → s' ≡ with_live s (seen_at id tick s.live) → IsMdsFile s activity → IsMdsFile s' activity
seen_file s s' id tick activity is h = subst (λ (k : LayoutState). IsMdsFile k activity) (sym is) (record { few = h.few; fits = seen_phase s id tick activity h.fits })
