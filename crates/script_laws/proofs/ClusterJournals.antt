-- What events enter in a world whose journal is that of a run is behind it the journal of a run, and so is the world that they leave.
use Rattle.std.proofs.Common.{◌≡◌, ℕ, zero, suc, ◌+◌, true, List, [], ◌∷◌, ◌++◌, Option, Some, None, refl, sym, ap, subst, ◌∙◌}
use Rattle.std.proofs.lemmas.List.{append_assoc, append-nil}
use Rattle.cluster_model.specs.declared.entry.Entry.{Entry}
use Rattle.cluster_model.specs.Event.{EventValue, DeliverPacket, Flow}
use Rattle.world_journal.specs.Journal.{is_within, max_entries}
use Rattle.packet_table.specs.Packets.{next_waiting}
use Rattle.world_rule.specs.ClusterWorlds.{ClusterState, packets, behind, cluster_step}
use Rattle.world_rule.specs.ClusterRuns.{ClusterRun, entries_added, with_step, flow_by, flow_for, event_then, cluster_run}
use Rattle.ff_replay.proofs.WorldGrows.{Grows, grows, journaled}
use Rattle.ff_replay.proofs.Flows.{let_in}
use Rattle.node_histories.specs.NodeHistories.{IsEventInRange}
use Rattle.script_laws.proofs.EventRanges.{AreInRange}
use Rattle.script_laws.specs.ScriptLaws.{end_by_step, end_by_flow, end_of_flow, end_by_event, cluster_end}

module _ (IsRun : ClusterState → Type 0) (goes_on : (event : EventValue) (w : ClusterState) → IsEventInRange event → is_within (behind event w).journal ≡ true → IsRun w → IsRun (behind event w)) where
  -- the world is a run, and has this journal
  pub record IsEnd (journal : List Entry) (end : ClusterState) : Type 0 where
    pub is : IsRun end
    pub journal_is : end.journal ≡ journal

  abbrev EndsAs : ClusterState → ClusterRun → ClusterState → Type 0
  EndsAs w r end = IsEnd (w.journal ++ r.entries) end

  abbrev AlwaysEnds : (ClusterState → ClusterRun) → (ClusterState → ClusterState) → Type 0
  AlwaysEnds rest end = (w : ClusterState) → IsRun w → EndsAs w (rest w) (end w)

  stops : (w : ClusterState) → IsRun w → IsEnd (w.journal ++ []) w
  stops w is = record { is = is; journal_is = sym (append-nil w.journal) }

  stepped : (w : ClusterState) (event : EventValue) → IsEventInRange event → (o : Option ClusterState) → cluster_step w event ≡ o → IsRun w → (rest : ClusterState → ClusterRun) (end : ClusterState → ClusterState) → AlwaysEnds rest end
      → EndsAs w (with_step w o rest) (end_by_step w o end)
  stepped w event fits None is run rest end all = stops w run
  stepped w event fits (Some next) is run rest end all =
      let same : next ≡ behind event w = (let_in (behind event w) next is).0 in
      let more : Grows w next = subst (Grows w) (sym same) (grows event w) in
      let last = all next (subst IsRun (sym same) (goes_on event w fits (let_in (behind event w) next is).1 run)) in
      record {
        is = last.is;
        journal_is = last.journal_is ∙ (ap (λ (j : List Entry). j ++ (rest next).entries) (journaled w next more) ∙ append_assoc w.journal (entries_added w next) (rest next).entries);
      }

  flow_step : (w : ClusterState) → IsRun w → (more rest : ClusterState → ClusterRun) (deep end : ClusterState → ClusterState) → AlwaysEnds more deep → AlwaysEnds rest end → (o : Option ℕ)
      → EndsAs w (flow_by more rest w o) (end_by_flow deep end w o)
  flow_step w run more rest deep end deeper all None = all w run
  flow_step w run more rest deep end deeper all (Some number) = stepped w (DeliverPacket number) tt (cluster_step w (DeliverPacket number)) refl run more deep deeper

  flows : (n : ℕ) (rest : ClusterState → ClusterRun) (end : ClusterState → ClusterState) → AlwaysEnds rest end → AlwaysEnds (flow_for n rest) (end_of_flow n end)
  flows zero rest end all w run = all w run
  flows (suc n) rest end all w run = flow_step w run (flow_for n rest) rest (end_of_flow n end) end (flows n rest end all) all (next_waiting (packets w))

  event_goes : (event : EventValue) → IsEventInRange event → (rest : ClusterState → ClusterRun) (end : ClusterState → ClusterState) → AlwaysEnds rest end → (w : ClusterState) → IsRun w → EndsAs w (event_then w event rest) (end_by_event w event end)
  event_goes Flow fits rest end all w run = flows (max_entries + 1) rest end all w run
  event_goes event fits rest end all w run = stepped w event fits (cluster_step w event) refl run rest end all

  pub events_go : (events : List EventValue) → AreInRange events → AlwaysEnds (λ w. cluster_run w events) (λ w. cluster_end w events)
  events_go [] fits w run = stops w run
  events_go (event ∷ events) fits w run = event_goes event fits.0 (λ next. cluster_run next events) (λ next. cluster_end next events) (events_go events fits.1) w run
