-- What an event, or a delivery of a flow, comes to before the events behind it.
use Rattle.std.proofs.Common.{◌≡◌, ℕ, Bool, true, false, List, [], ◌∷◌, ◌++◌, Option, Some, None, refl, sym, ap, subst, if◌then◌else◌}
use Rattle.std.proofs.lemmas.List.{append-nil}
use Rattle.cluster_model.specs.declared.entry.Entry.{Entry}
use Rattle.cluster_model.specs.Event.{EventValue, DeliverPacket, Flow}
use Rattle.packet_table.specs.Packets.{next_waiting}
use Rattle.cluster_script.specs.declared.sizes.ClusterSizes.{ClusterSizes}
use Rattle.ff_world.specs.World.{WorldState, WorldStep, effect_of, step_by_effect, world_step, Run, run_of}
use Rattle.ff_world.specs.World as bare
use Rattle.world_rule.specs.ClusterWorlds.{ClusterState, packets, behind, within_limits}
use Rattle.world_rule.specs.ClusterRuns.{ClusterRun, entries_added, with_step, flow_by, flow_then, event_then, cluster_run}
use Rattle.ff_replay.specs.Script.{ScriptWorld, BareWorld, ClusterWorld, setup_of_world, journal_in, bare_run, run_in, run_behind}
use Rattle.ff_replay.specs.Player.{LinePlayed, Outside, Limited, Goes, bare_goes, cluster_goes, flows_by, flowed, is_flow, cluster_played, event_played}
use Rattle.ff_replay.proofs.WorldGrows.{Grows, grows, journaled}
use Rattle.ff_replay.proofs.Flows.{let_in, flows_on}

-- these entries before a run's
abbrev pub adds : List Entry → Run → Run
adds entries run = record { entries = entries ++ run.entries; over = run.over }

-- The run of it and of the events behind it: it ends at a limit, or goes on from another world of the same setup.
abbrev pub GoesOn : ScriptWorld → LinePlayed → List EventValue → Run → Type 0
GoesOn w Outside events run = ⊥
GoesOn w Limited events run = run ≡ record { entries = []; over = true }
GoesOn w (Goes None flows entries) events run = ⊥
GoesOn w (Goes (Some next) flows entries) events run = (setup_of_world next ≡ setup_of_world w) × (run ≡ adds entries (run_behind flows next events)) × (journal_in next ≡ journal_in w ++ entries)

-- ---- of one data server

let_through : (test : Bool) (effect step : WorldStep) → (if test then Some effect else None) ≡ Some step → step ≡ effect
let_through true effect step is = cc
let_through false effect step is = absurd (cc)

-- what an event leaves, where it happens
stepped : (w : WorldState) (event : EventValue) (step : WorldStep) → world_step w event ≡ Some step → step ≡ step_by_effect w (effect_of w event)
stepped w event step is = let_through _ (step_by_effect w (effect_of w event)) step is

-- the entries stand behind those of the journal
bare_journaled : (w : WorldState) (event : EventValue) (step : WorldStep) → step ≡ step_by_effect w (effect_of w event) → step.world.journal ≡ w.journal ++ step.entries
bare_journaled w event step is = rw is refl

bare_by : (w : WorldState) (event : EventValue) (events : List EventValue) (o : Option WorldStep) → world_step w event ≡ o → GoesOn (BareWorld w) (bare_goes o) events (bare.with_step o (λ next. run_of next events))
bare_by w event events None is = refl
bare_by w event events (Some step) is = (refl, refl, bare_journaled w event step (stepped w event step is))

-- ---- of a cluster

cluster_by : (sizes : ClusterSizes) (w left : ClusterState) (flows : Bool) (more : ClusterState → ClusterRun) (events : List EventValue) (o : Option ClusterState) → Grows w left → within_limits left ≡ o
    → ((next : ClusterState) → bare_run (more next) ≡ run_behind flows (ClusterWorld sizes next) events)
    → GoesOn (ClusterWorld sizes w) (cluster_goes sizes flows w o) events (bare_run (with_step w o more))
cluster_by sizes w left flows more events None grown is same = refl
cluster_by sizes w left flows more events (Some next) grown is same =
    let happened : next ≡ left = (let_in left next is).0 in
    let journal : next.journal ≡ w.journal ++ entries_added w next = subst (λ (n : ClusterState). n.journal ≡ w.journal ++ entries_added w n) (sym happened) (journaled w left grown) in
    (refl, ap (adds (entries_added w next)) (same next), journal)

-- an event that is no flow
acts_on : (sizes : ClusterSizes) (w : ClusterState) (event : EventValue) (events : List EventValue)
    → GoesOn (ClusterWorld sizes w) (cluster_goes sizes false w (within_limits (behind event w))) events (bare_run (with_step w (within_limits (behind event w)) (λ next. cluster_run next events)))
acts_on sizes w event events = cluster_by sizes w (behind event w) false (λ next. cluster_run next events) events (within_limits (behind event w)) (grows event w) refl (λ next. refl)

flow_by_next : (sizes : ClusterSizes) (w : ClusterState) (events : List EventValue) (o : Option ℕ)
    → GoesOn (ClusterWorld sizes w) (flows_by sizes w o) events (bare_run (flow_by (flow_then (λ next. cluster_run next events)) (λ next. cluster_run next events) w o))
flow_by_next sizes w events None = (refl, refl, sym (append-nil w.journal))
flow_by_next sizes w events (Some number) =
    cluster_by sizes w (behind (DeliverPacket number) w) true (flow_then (λ next. cluster_run next events)) events (within_limits (behind (DeliverPacket number) w)) (grows (DeliverPacket number) w) refl (λ next. refl)

-- a delivery of a flow, or that none waits
flow_on : (sizes : ClusterSizes) (w : ClusterState) (events : List EventValue) → GoesOn (ClusterWorld sizes w) (flowed sizes w) events (bare_run (flow_then (λ next. cluster_run next events) w))
flow_on sizes w events =
    subst (λ r. GoesOn (ClusterWorld sizes w) (flowed sizes w) events (bare_run r)) (sym (flows_on (λ next. cluster_run next events) w)) (flow_by_next sizes w events (next_waiting (packets w)))

event_on : (sizes : ClusterSizes) (w : ClusterState) (event : EventValue) (events : List EventValue) → GoesOn (ClusterWorld sizes w) (cluster_played (is_flow event) sizes w event) events (bare_run (event_then w event (λ next. cluster_run next events)))
event_on sizes w Flow events = flow_on sizes w events
event_on sizes w event events = acts_on sizes w event events

-- ---- of either

pub world_on : (w : ScriptWorld) (event : EventValue) (events : List EventValue) → GoesOn w (event_played w event) events (run_in w (event ∷ events))
world_on (BareWorld w) event events = bare_by w event events (world_step w event) refl
world_on (ClusterWorld sizes w) event events = event_on sizes w event events

-- within a flow of a cluster
pub within_on : (sizes : ClusterSizes) (w : ClusterState) (events : List EventValue) → GoesOn (ClusterWorld sizes w) (flowed sizes w) events (run_behind true (ClusterWorld sizes w) events)
within_on sizes w events = flow_on sizes w events
