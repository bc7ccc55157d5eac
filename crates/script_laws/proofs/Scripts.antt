-- The journal of a script is that of a bare world, or of a run.
use Rattle.std.proofs.Common.{◌≡◌, ℕ, ◌≤◌, Bool, true, false, List, [], Option, Some, None, refl, sym, subst}
use Rattle.cluster_model.specs.declared.entry.Entry.{Entry}
use Rattle.cluster_model.specs.Event.{EventValue, DeliverPacket}
use Rattle.packet_table.specs.Packets.{next_waiting}
use Rattle.cluster_script.specs.declared.sizes.ClusterSizes.{ClusterSizes}
use Rattle.world_rule.specs.ClusterWorlds.{ClusterState, packets, new_cluster, behind, cluster_step}
use Rattle.world_rule.specs.ClusterRuns.{cluster_run}
use Rattle.world_journal.specs.Journal.{is_within, IsJournalInRange}
use Rattle.ff_world.specs.World.{WorldState, WorldStep, preset_world, world_step}
use Rattle.ff_replay.specs.declared.setup.Setup.{Setup}
use Rattle.ff_replay.specs.declared.setup.Setup.TheVariants.{Bare, Cluster}
use Rattle.ff_replay.specs.Script.{ScriptLine, SaysNothing, SetsUp, Happens, ScriptWorld, BareWorld, ClusterWorld, script_of, world_of, world_in, run_in, setup_of, line_in, journal_so_far}
use Rattle.ff_replay.specs.Player.{LinePlayed, Outside, Limited, Goes, bare_goes, cluster_goes, flows_by, flowing, is_flow, cluster_played, played_by, LinesLeadTo, AtStart, ByLine, ByFlow}
use Rattle.ff_replay.proofs.Flows.{let_in}
use Rattle.world_moves.specs.WorldMoves.{TellsTruth}
use Rattle.script_laws.specs.ScriptLaws.{ObeysLaws, EndsTrue, EveryScriptObeys, EveryReachedObeys, LawsOfScripts, cluster_end, end_in}
use Rattle.script_laws.proofs.PlainJournals.{ArePlain, JournalObeys, plain_obeys}
use Rattle.script_laws.proofs.BareJournals.{run_plain, step_plain_journal}
use Rattle.script_laws.proofs.Setups.{AreSizes, IsSetup, script_setup, line_sets}
use Rattle.node_histories.specs.NodeHistories.{IsEventInRange}
use Rattle.script_laws.proofs.EventRanges.{AreInRange, InRange, line_so, script_ranged}
use Rattle.script_laws.proofs.ClusterJournals.{events_go}

module _ (IsRun : ℕ → ClusterState → Type 0) (starts : (servers mirrors clients : ℕ) → servers ≤ 16 → 1 ≤ mirrors → mirrors ≤ 4 → mirrors ≤ servers → clients ≤ 256 → IsRun servers (new_cluster servers mirrors clients))
    (goes_on : (servers : ℕ) (event : EventValue) (w : ClusterState) → IsEventInRange event → is_within (behind event w).journal ≡ true → IsRun servers w → IsRun servers (behind event w))
    (obeys : (servers : ℕ) (w : ClusterState) → IsRun servers w → JournalObeys w.journal)
    (truth : (servers : ℕ) (w : ClusterState) → IsRun servers w → TellsTruth w) where
  -- what is said of a script, by its setup and its events
  record Obeys (setup : Option Setup) (events : List EventValue) : Type 0 where
    laws : JournalObeys (run_in (world_in None setup) events).entries
    ends : (w : ClusterState) → end_in setup events ≡ Some w → EndsTrue (run_in (world_in None setup) events).entries w

  bare_obeys : (events : List EventValue) → JournalObeys (run_in (world_in None (Some Bare)) events).entries
  bare_obeys events = plain_obeys _ (run_plain events preset_world)

  cluster_obeys : (sizes : ClusterSizes) (events : List EventValue) → AreInRange events → AreSizes sizes → Obeys (Some (Cluster sizes)) events
  cluster_obeys sizes events fits are =
      let w = new_cluster sizes.servers sizes.mirrors sizes.clients in
      let end = events_go (IsRun sizes.servers) (goes_on sizes.servers) events fits w (starts sizes.servers sizes.mirrors sizes.clients are.servers are.some are.few are.there are.clients) in
      record {
        laws = subst JournalObeys end.journal_is (obeys sizes.servers (cluster_end w events) end.is);
        ends = λ last is.
            let same : cluster_end w events ≡ last = cc is in
            subst (EndsTrue (cluster_run w events).entries) same (record { journal_is = end.journal_is; truth = truth sizes.servers (cluster_end w events) end.is });
      }

  setup_obeys : (setup : Option Setup) (events : List EventValue) → AreInRange events → IsSetup setup → Obeys setup events
  setup_obeys None events fits is = record { laws = bare_obeys events; ends = λ w none. absurd cc }
  setup_obeys (Some Bare) events fits is = record { laws = bare_obeys events; ends = λ w none. absurd cc }
  setup_obeys (Some (Cluster sizes)) events fits is = cluster_obeys sizes events fits is

  scripts_obey : EveryScriptObeys
  scripts_obey lines =
      let all = setup_obeys (script_of 1 None lines).setup (script_of 1 None lines).events (script_ranged lines 1 None) (script_setup lines 1 None) in
      record { periods = all.laws.0; laws = all.laws.1; ends = all.ends }

  -- ---- a world that lines lead to

  -- one data server by itself has a plain journal, and a cluster is a run
  abbrev IsStage : Option ScriptWorld → Type 0
  IsStage None = Unit {0}
  IsStage (Some (BareWorld w)) = ArePlain w.journal
  IsStage (Some (ClusterWorld sizes w)) = IsRun sizes.servers w

  abbrev LeadsToStage : LinePlayed → Type 0
  LeadsToStage Outside = Unit {0}
  LeadsToStage Limited = Unit {0}
  LeadsToStage (Goes next flows entries) = IsStage next

  bare_leads : (w : WorldState) (event : EventValue) → ArePlain w.journal → (o : Option WorldStep) → world_step w event ≡ o → LeadsToStage (bare_goes o)
  bare_leads w event plain None is = tt
  bare_leads w event plain (Some step) is = step_plain_journal w event step is plain

  cluster_leads : (sizes : ClusterSizes) (flows : Bool) (w : ClusterState) (event : EventValue) → IsEventInRange event → IsRun sizes.servers w → (o : Option ClusterState) → cluster_step w event ≡ o → LeadsToStage (cluster_goes sizes flows w o)
  cluster_leads sizes flows w event fits run None is = tt
  cluster_leads sizes flows w event fits run (Some next) is =
      let in_limits = let_in (behind event w) next is in
      subst (IsRun sizes.servers) (sym in_limits.0) (goes_on sizes.servers event w fits in_limits.1 run)

  flow_leads : (sizes : ClusterSizes) (w : ClusterState) → IsRun sizes.servers w → (o : Option ℕ) → LeadsToStage (flows_by sizes w o)
  flow_leads sizes w run None = run
  flow_leads sizes w run (Some number) = cluster_leads sizes true w (DeliverPacket number) tt run (cluster_step w (DeliverPacket number)) refl

  event_leads : (sizes : ClusterSizes) (w : ClusterState) (event : EventValue) → IsEventInRange event → IsRun sizes.servers w → (b : Bool) → LeadsToStage (cluster_played b sizes w event)
  event_leads sizes w event fits run true = flow_leads sizes w run (next_waiting (packets w))
  event_leads sizes w event fits run false = cluster_leads sizes false w event fits run (cluster_step w event) refl

  setup_leads : (chosen : Setup) → IsSetup (Some chosen) → IsStage (Some (world_of chosen))
  setup_leads Bare is = tt
  setup_leads (Cluster sizes) are = starts sizes.servers sizes.mirrors sizes.clients are.servers are.some are.few are.there are.clients

  said_leads : (before : Option ScriptWorld) → IsStage before → (o : Option ScriptLine) → InRange o → ((chosen : Setup) → o ≡ Some (SetsUp chosen) → IsSetup (Some chosen)) → LeadsToStage (played_by before o)
  said_leads before is None fits sets = tt
  said_leads before is (Some SaysNothing) fits sets = is
  said_leads before is (Some (SetsUp chosen)) fits sets = setup_leads chosen (sets chosen refl)
  said_leads None is (Some (Happens event)) fits sets = tt
  said_leads (Some (BareWorld w)) is (Some (Happens event)) fits sets = bare_leads w event is (world_step w event) refl
  said_leads (Some (ClusterWorld sizes w)) is (Some (Happens event)) fits sets = event_leads sizes w event (fits event refl) is (is_flow event)

  flowing_leads : (before : Option ScriptWorld) → IsStage before → LeadsToStage (flowing before)
  flowing_leads None is = tt
  flowing_leads (Some (BareWorld w)) is = is
  flowing_leads (Some (ClusterWorld sizes w)) is = flow_leads sizes w is (next_waiting (packets w))

  reached_is : (stage : Option ScriptWorld) → LinesLeadTo stage → IsStage stage
  reached_is stage AtStart = tt
  reached_is stage (ByLine before next line flows entries reached is) =
      subst LeadsToStage is (said_leads before (reached_is before reached) (line_in (setup_of before) line) (line_so (setup_of before) line) (λ chosen sets. line_sets (setup_of before) line chosen sets))
  reached_is stage (ByFlow before next flows entries reached is) = subst LeadsToStage is (flowing_leads before (reached_is before reached))

  stage_obeys : (stage : Option ScriptWorld) → IsStage stage → JournalObeys (journal_so_far stage)
  stage_obeys None is = plain_obeys [] tt
  stage_obeys (Some (BareWorld w)) plain = plain_obeys w.journal plain
  stage_obeys (Some (ClusterWorld sizes w)) run = obeys sizes.servers w run

  reached_obey : EveryReachedObeys
  reached_obey journal reached range = subst (λ (j : List Entry). IsJournalInRange j → ObeysLaws j) (sym reached.is) (stage_obeys reached.stage (reached_is reached.stage reached.reached)).1 range

  pub laws_of_scripts : LawsOfScripts
  laws_of_scripts = record { scripts = scripts_obey; reached = reached_obey }
