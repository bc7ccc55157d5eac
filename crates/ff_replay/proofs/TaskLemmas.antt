-- What a player did is what a step of a task does.
use Rattle.std.proofs.Common.{◌≡◌, ℕ, ◌+◌, Bool, true, false, List, [], ◌++◌, Option, Some, None, Result, Ok, Err, refl, sym, ap, subst, ◌∙◌}
use Rattle.std.specs.Prelude.{⊤}
use Rattle.std.specs.Result.{IfOk}
use Rattle.std.proofs.lemmas.List.{append-nil, append_assoc}
use Rattle.ff_xdr.specs.declared.error.NoMemory.{NoMemory}
use Rattle.line_runs.specs.declared.end.LineStep.{LineStep}
use Rattle.line_runs.specs.declared.end.LineStep.TheVariants as step
use Rattle.line_runs.specs.Writing.{IsBeginningOf}
use Rattle.line_runs.specs.Runs.{after_text}
use Rattle.line_runs.specs.Leads.{LeadsOn, GotPart, task_closing}
use Rattle.cluster_model.specs.declared.entry.Entry.{Entry}
use Rattle.world_journal.specs.Journal.{IsJournalInRange}
use Rattle.line_runs.specs.Tasks.{Goes as TaskGoes, BeginsLine, StepsFrom, Rests, ahead_of, on_line}
use Rattle.cluster_script.specs.declared.sizes.ClusterSizes.{ClusterSizes}
use Rattle.cluster_model.specs.Event.{EventValue, DeliverPacket}
use Rattle.packet_table.specs.Packets.{next_waiting}
use Rattle.ff_world.specs.World.{WorldStep, world_step}
use Rattle.world_rule.specs.ClusterWorlds.{ClusterState, packets, cluster_step}
use Rattle.world_journal.specs.declared.fault.WorldFault.{WorldFault}
use Rattle.journal_print.specs.declared.mode.Mode.{Mode}
use Rattle.ff_replay.specs.Script.{ScriptLine, SaysNothing, SetsUp, Happens, ScriptWorld, BareWorld, ClusterWorld, setup_of, journal_so_far, line_in, trace_of, closing_of, meaning_from, journal_behind, script_task}
use Rattle.ff_replay.specs.Player.{LinePlayed, Outside, Limited, Goes, bare_goes, cluster_goes, flows_by, is_flow, cluster_played, played_by, played, flowed, flowing, PlayerValue, PlayerState, with_trace, GoesFrom, PlayerPlays, is_unfinished, IsOfCluster, IsWithinFlow, IsBetween, LinesLeadTo, AtStart, ByLine, ByFlow, LeadToJournal, LeadsPlayer, PrintsJournal, HasPrinted}
use Rattle.ff_replay.specs.Ending.{no_trace}
use Rattle.ff_replay.proofs.PlayLemmas.{trace_append}
use Rattle.ff_replay.proofs.ScriptLemmas.{line_grows, flow_grows, goes_first, outside_first, limited_first, text_first, goes_within, limited_within, flow_not_outside, text_within, journal_first, journal_outside, journal_limited, journal_within, journal_stops}

begins_first : (part text more all : List ℕ) → IsBeginningOf part text → all ≡ text ++ more → IsBeginningOf part all
begins_first part text more all begins is = record {
  rest = begins.rest ++ more;
  whole = sym (append_assoc part begins.rest more) ∙ ap (λ t. t ++ more) begins.whole ∙ sym is;
}

abbrev pub state : Option ScriptWorld → Option WorldFault → List ℕ → PlayerState
state stage spent trace = record { stage = stage; spent = spent; trace = trace }

-- ---- the first step of a line

goes_line : (mode : Mode) (number : ℕ) (flows : Bool) (old new : PlayerState) (line : List ℕ) → GoesFrom mode old (played old.stage line) flows new
    → TaskGoes (on_line line (ahead_of number (script_task mode false old.stage))) old.trace (ahead_of (number + 1) (script_task mode flows new.stage)) new.trace
goes_line mode number flows old new line goes =
    let stage : new.stage ≡ goes.next = ap (λ (p : PlayerState). p.stage) goes.now in record {
      more = trace_of mode goes.entries;
      now = ap (λ (p : PlayerState). p.trace) goes.now;
      same = λ lines. goes_first mode number old.stage goes.next flows line lines goes.entries goes.is
          ∙ ap (λ s. after_text (trace_of mode goes.entries) (meaning_from mode flows s (number + 1) lines)) (sym stage);
      after = λ lines. journal_first old.stage goes.next flows line lines goes.entries goes.is ∙ ap (λ (k : Option ScriptWorld). journal_behind flows k lines) (sym stage);
    }

begins_line : (mode : Mode) (number : ℕ) (flows : Bool) (old new : PlayerState) (line : List ℕ) (r : Result LineStep NoMemory) → PlayerPlays mode old (played old.stage line) r new → IfOk r (λ done. flows ≡ is_unfinished done)
    → BeginsLine number (on_line line (ahead_of number (script_task mode false old.stage))) old.trace r (script_task mode flows new.stage) new.trace
begins_line mode number flows old new line (Ok step.Done) goes is =
    subst (λ f. TaskGoes (on_line line (ahead_of number (script_task mode false old.stage))) old.trace (ahead_of (number + 1) (script_task mode f new.stage)) new.trace) (sym is) (goes_line mode number false old new line goes)
begins_line mode number flows old new line (Ok step.More) goes is =
    subst (λ f. TaskGoes (on_line line (ahead_of number (script_task mode false old.stage))) old.trace (ahead_of (number + 1) (script_task mode f new.stage)) new.trace) (sym is) (goes_line mode number true old new line goes)
begins_line mode number flows old new line (Ok step.Outside) refuses is = record {
  more = [];
  now = ap (λ (p : PlayerState). p.trace) refuses.1 ∙ sym (append-nil old.trace);
  why = λ lines. let first = outside_first mode number old.stage line lines refuses.0 in (first.bad, first.past, first.text);
  adds = λ lines. (outside_first mode number old.stage line lines refuses.0).text;
  closing = λ lines. (outside_first mode number old.stage line lines refuses.0).closing ∙ ap (λ (p : PlayerState). closing_of mode (journal_so_far p.stage)) (sym refuses.1);
  after = λ lines. journal_outside old.stage line lines refuses.0 ∙ ap (λ (p : PlayerState). journal_so_far p.stage) (sym refuses.1);
}
begins_line mode number flows old new line (Ok (step.Limited count)) limited is =
    let first = λ (lines : List (List ℕ)). limited_first mode number old.stage line lines limited.is in record {
      more = [];
      now = limited.trace ∙ sym (append-nil old.trace);
      why = λ lines. ((first lines).past, limited.count_is ∙ (first lines).count);
      adds = λ lines. (first lines).text;
      closing = λ lines. (first lines).closing ∙ ap (closing_of mode) (sym limited.journal);
      after = λ lines. journal_limited old.stage line lines limited.is ∙ sym limited.journal;
    }
begins_line mode number flows old new line (Err e) begun is = record {
  part = begun.part;
  now = begun.trace;
  begins = λ lines.
      let first = text_first mode number old.stage line lines (played old.stage line) refl in
      begins_first begun.part _ first.0 _ begun.begins first.1;
}

-- What a player did with a line.
pub does_line : (old new : PlayerValue) (text text' line : List ℕ) (r : Result LineStep NoMemory) (number : ℕ) → old.flows ≡ false → new.mode ≡ old.mode → IfOk r (λ done. new.flows ≡ is_unfinished done)
    → PlayerPlays old.mode (with_trace old text) (played old.stage line) r (with_trace new text')
    → BeginsLine number (on_line line (ahead_of number (script_task old.mode old.flows old.stage))) text r (script_task new.mode new.flows new.stage) text'
does_line old new text text' line r number still mode flows plays =
    subst (λ f. BeginsLine number (on_line line (ahead_of number (script_task old.mode f old.stage))) text r (script_task new.mode new.flows new.stage) text') (sym still)
    (subst (λ m. BeginsLine number (on_line line (ahead_of number (script_task old.mode false old.stage))) text r (script_task m new.flows new.stage) text') (sym mode)
    (begins_line old.mode number new.flows (with_trace old text) (with_trace new text') line r plays flows))

-- ---- a step within a flow

goes_flow : (mode : Mode) (number : ℕ) (flows : Bool) (sizes : ClusterSizes) (w : ClusterState) (spent : Option WorldFault) (text : List ℕ) (new : PlayerState) → GoesFrom mode (state (Some (ClusterWorld sizes w)) spent text) (flowed sizes w) flows new
    → TaskGoes (ahead_of number (script_task mode true (Some (ClusterWorld sizes w)))) text (ahead_of number (script_task mode flows new.stage)) new.trace
goes_flow mode number flows sizes w spent text new goes =
    let stage : new.stage ≡ goes.next = ap (λ (p : PlayerState). p.stage) goes.now in record {
      more = trace_of mode goes.entries;
      now = ap (λ (p : PlayerState). p.trace) goes.now;
      same = λ lines. goes_within mode number sizes w goes.next flows goes.entries lines goes.is
          ∙ ap (λ s. after_text (trace_of mode goes.entries) (meaning_from mode flows s number lines)) (sym stage);
      after = λ lines. journal_within sizes w goes.next flows goes.entries lines goes.is ∙ ap (λ (k : Option ScriptWorld). journal_behind flows k lines) (sym stage);
    }

steps_flow : (mode : Mode) (number : ℕ) (flows : Bool) (sizes : ClusterSizes) (w : ClusterState) (spent : Option WorldFault) (text : List ℕ) (new : PlayerState) (r : Result LineStep NoMemory)
    → PlayerPlays mode (state (Some (ClusterWorld sizes w)) spent text) (flowed sizes w) r new → IfOk r (λ done. flows ≡ is_unfinished done)
    → StepsFrom number (ahead_of number (script_task mode true (Some (ClusterWorld sizes w)))) text r (script_task mode flows new.stage) new.trace
steps_flow mode number flows sizes w spent text new (Ok step.Done) goes is =
    subst (λ f. TaskGoes (ahead_of number (script_task mode true (Some (ClusterWorld sizes w)))) text (ahead_of number (script_task mode f new.stage)) new.trace) (sym is) (goes_flow mode number false sizes w spent text new goes)
steps_flow mode number flows sizes w spent text new (Ok step.More) goes is =
    subst (λ f. TaskGoes (ahead_of number (script_task mode true (Some (ClusterWorld sizes w)))) text (ahead_of number (script_task mode f new.stage)) new.trace) (sym is) (goes_flow mode number true sizes w spent text new goes)
steps_flow mode number flows sizes w spent text new (Ok step.Outside) refuses is = absurd (flow_not_outside sizes w refuses.0)
steps_flow mode number flows sizes w spent text new (Ok (step.Limited count)) limited is =
    let first = λ (lines : List (List ℕ)). limited_within mode number sizes w lines limited.is in record {
      more = [];
      now = limited.trace ∙ sym (append-nil text);
      why = λ lines. ((first lines).past, limited.count_is ∙ (first lines).count);
      adds = λ lines. (first lines).text;
      closing = λ lines. (first lines).closing ∙ ap (closing_of mode) (sym limited.journal);
      after = λ lines. journal_stops sizes w lines limited.is ∙ sym limited.journal;
    }
steps_flow mode number flows sizes w spent text new (Err e) begun is = record {
  part = begun.part;
  now = begun.trace;
  begins = λ lines.
      let first = text_within mode number sizes w lines (flowed sizes w) refl in
      begins_first begun.part _ first.0 _ begun.begins first.1;
}

by_stage : (mode : Mode) (number : ℕ) (flows : Bool) (stage : Option ScriptWorld) (spent : Option WorldFault) (text : List ℕ) (new : PlayerState) (r : Result LineStep NoMemory) → IsOfCluster stage
    → PlayerPlays mode (state stage spent text) (flowing stage) r new → IfOk r (λ done. flows ≡ is_unfinished done)
    → StepsFrom number (ahead_of number (script_task mode true stage)) text r (script_task mode flows new.stage) new.trace
by_stage mode number flows None spent text new r cluster plays is = absurd cluster
by_stage mode number flows (Some (BareWorld w)) spent text new r cluster plays is = absurd cluster
by_stage mode number flows (Some (ClusterWorld sizes w)) spent text new r cluster plays is = steps_flow mode number flows sizes w spent text new r plays is

-- What a player did within a flow.
pub does_flow : (old new : PlayerValue) (text text' : List ℕ) (r : Result LineStep NoMemory) (number : ℕ) → old.flows ≡ true → IsOfCluster old.stage → new.mode ≡ old.mode → IfOk r (λ done. new.flows ≡ is_unfinished done)
    → PlayerPlays old.mode (with_trace old text) (flowing old.stage) r (with_trace new text')
    → StepsFrom number (ahead_of number (script_task old.mode old.flows old.stage)) text r (script_task new.mode new.flows new.stage) text'
does_flow old new text text' r number under_way cluster mode flows plays =
    subst (λ f. StepsFrom number (ahead_of number (script_task old.mode f old.stage)) text r (script_task new.mode new.flows new.stage) text') (sym under_way)
    (subst (λ m. StepsFrom number (ahead_of number (script_task old.mode true old.stage)) text r (script_task m new.flows new.stage) text') (sym mode)
    (by_stage old.mode number new.flows old.stage old.spent text (with_trace new text') r cluster plays flows))

-- ---- where a step leaves a player

-- a flow is under way in a cluster alone
abbrev pub FlowsInCluster : LinePlayed → Type 0
FlowsInCluster Outside = ⊤
FlowsInCluster Limited = ⊤
FlowsInCluster (Goes next true entries) = IsOfCluster next
FlowsInCluster (Goes next false entries) = ⊤

in_bare : (o : Option WorldStep) → FlowsInCluster (bare_goes o)
in_bare None = tt
in_bare (Some step) = tt

in_step : (sizes : ClusterSizes) (flows : Bool) (w : ClusterState) (o : Option ClusterState) → FlowsInCluster (cluster_goes sizes flows w o)
in_step sizes flows w None = tt
in_step sizes true w (Some next) = tt
in_step sizes false w (Some next) = tt

in_delivery : (sizes : ClusterSizes) (w : ClusterState) (o : Option ℕ) → FlowsInCluster (flows_by sizes w o)
in_delivery sizes w None = tt
in_delivery sizes w (Some number) = in_step sizes true w (cluster_step w (DeliverPacket number))

in_flow : (sizes : ClusterSizes) (w : ClusterState) → FlowsInCluster (flowed sizes w)
in_flow sizes w = in_delivery sizes w (next_waiting (packets w))

in_played : (flow : Bool) (sizes : ClusterSizes) (w : ClusterState) (event : EventValue) → FlowsInCluster (cluster_played flow sizes w event)
in_played true sizes w event = in_flow sizes w
in_played false sizes w event = in_step sizes false w (cluster_step w event)

in_said : (stage : Option ScriptWorld) (v : Option ScriptLine) → FlowsInCluster (played_by stage v)
in_said stage None = tt
in_said stage (Some SaysNothing) = tt
in_said stage (Some (SetsUp chosen)) = tt
in_said None (Some (Happens event)) = tt
in_said (Some (BareWorld w)) (Some (Happens event)) = in_bare (world_step w event)
in_said (Some (ClusterWorld sizes w)) (Some (Happens event)) = in_played (is_flow event) sizes w event

in_line : (stage : Option ScriptWorld) (line : List ℕ) → FlowsInCluster (played stage line)
in_line stage line = in_said stage (line_in (setup_of stage) line)

in_flowing : (stage : Option ScriptWorld) → FlowsInCluster (flowing stage)
in_flowing None = tt
in_flowing (Some (BareWorld w)) = tt
in_flowing (Some (ClusterWorld sizes w)) = in_flow sizes w

-- what is done leads to a world that is reached, whose journal goes on with the entries
abbrev pub LeadsFrom : Option ScriptWorld → LinePlayed → Type 0
LeadsFrom before does = (next : Option ScriptWorld) (flows : Bool) (entries : List Entry) → does ≡ Goes next flows entries → LinesLeadTo next × (journal_so_far next ≡ journal_so_far before ++ entries)

line_leads : (before : Option ScriptWorld) (line : List ℕ) → LinesLeadTo before → LeadsFrom before (played before line)
line_leads before line reached next flows entries is = (ByLine before next line flows entries reached is, line_grows before next flows line entries is)

flow_leads : (before : Option ScriptWorld) → LinesLeadTo before → LeadsFrom before (flowing before)
flow_leads before reached next flows entries is = (ByFlow before next flows entries reached is, flow_grows before next flows entries is)

rests_by : (mode : Mode) (before : PlayerState) (new : PlayerValue) (text' : List ℕ) (does : LinePlayed) (r : Result LineStep NoMemory) → FlowsInCluster does → LeadsFrom before.stage does → PlayerPlays mode before does r (with_trace new text')
    → IfOk r (λ done. new.flows ≡ is_unfinished done) → Rests r (IsBetween new) (IsWithinFlow new)
rests_by mode before new text' does (Ok step.Done) cluster leads goes is =
    let stage : new.stage ≡ goes.next = ap (λ (p : PlayerState). p.stage) goes.now in
    (ap (λ (p : PlayerState). p.spent) goes.now, is, subst LinesLeadTo (sym stage) (leads goes.next false goes.entries goes.is).0)
rests_by mode before new text' does (Ok step.More) cluster leads goes is =
    let there : IsOfCluster goes.next = subst FlowsInCluster goes.is cluster in
    let stage : new.stage ≡ goes.next = ap (λ (p : PlayerState). p.stage) goes.now in
    (ap (λ (p : PlayerState). p.spent) goes.now, is, subst IsOfCluster (sym stage) there, subst LinesLeadTo (sym stage) (leads goes.next true goes.entries goes.is).0)
rests_by mode before new text' does (Ok step.Outside) cluster leads refuses is = tt
rests_by mode before new text' does (Ok (step.Limited count)) cluster leads limited is = tt
rests_by mode before new text' does (Err e) cluster leads begun is = tt

pub rests_line : (old new : PlayerValue) (text text' line : List ℕ) (r : Result LineStep NoMemory) → LinesLeadTo old.stage → PlayerPlays old.mode (with_trace old text) (played old.stage line) r (with_trace new text') → IfOk r (λ done. new.flows ≡ is_unfinished done)
    → Rests r (IsBetween new) (IsWithinFlow new)
rests_line old new text text' line r reached plays is = rests_by old.mode (with_trace old text) new text' (played old.stage line) r (in_line old.stage line) (line_leads old.stage line reached) plays is

pub rests_flow : (old new : PlayerValue) (text text' : List ℕ) (r : Result LineStep NoMemory) → LinesLeadTo old.stage → PlayerPlays old.mode (with_trace old text) (flowing old.stage) r (with_trace new text') → IfOk r (λ done. new.flows ≡ is_unfinished done)
    → Rests r (IsBetween new) (IsWithinFlow new)
rests_flow old new text text' r reached plays is = rests_by old.mode (with_trace old text) new text' (flowing old.stage) r (in_flowing old.stage) (flow_leads old.stage reached) plays is

-- ---- where a step leads a player

-- the journal that lines lead to goes on with the entries, and their text is behind what was printed
goes_leads : (start old new : PlayerValue) (text text' front : List ℕ) (does : LinePlayed) (flows : Bool) → LeadsFrom old.stage does → new.mode ≡ old.mode → IsJournalInRange (journal_so_far new.stage) → GoesFrom old.mode (with_trace old text) does flows (with_trace new text')
    → LeadsPlayer start old (front ++ text) → LeadsPlayer start new (front ++ text')
goes_leads start old new text text' front does flows leads mode range goes led =
    let stage : new.stage ≡ goes.next = ap (λ (p : PlayerState). p.stage) goes.now in
    let there = leads goes.next flows goes.entries goes.is in
    let journal : journal_so_far new.stage ≡ journal_so_far old.stage ++ goes.entries = ap journal_so_far stage ∙ there.1 in record {
      mode = mode ∙ led.mode;
      text_is = ap (λ (t : List ℕ). front ++ t) (ap (λ (p : PlayerState). p.trace) goes.now) ∙ sym (append_assoc front text (trace_of old.mode goes.entries))
          ∙ ap (λ (t : List ℕ). t ++ trace_of old.mode goes.entries) led.text_is ∙ ap (λ (m : Mode). trace_of start.mode (journal_so_far old.stage) ++ trace_of m goes.entries) led.mode
          ∙ sym (trace_append start.mode (journal_so_far old.stage) goes.entries) ∙ ap (trace_of start.mode) (sym journal);
      range = range;
      reached = record { stage = goes.next; reached = there.0; is = ap journal_so_far stage };
    }

-- it stays where it is
stays_leads : (start old new : PlayerValue) (text text' front : List ℕ) → new.mode ≡ old.mode → text' ≡ text → journal_so_far new.stage ≡ journal_so_far old.stage → IsJournalInRange (journal_so_far new.stage) → LeadsPlayer start old (front ++ text) → LeadsPlayer start new (front ++ text')
stays_leads start old new text text' front mode text_is journal range led = record {
  mode = mode ∙ led.mode;
  text_is = ap (λ (t : List ℕ). front ++ t) text_is ∙ led.text_is ∙ ap (trace_of start.mode) (sym journal);
  range = range;
  reached = subst LeadToJournal (sym journal) led.reached;
}

leads_by : (start old new : PlayerValue) (text text' : List ℕ) (does : LinePlayed) (r : Result LineStep NoMemory) → LeadsFrom old.stage does → new.mode ≡ old.mode → IsJournalInRange (journal_so_far new.stage) → PlayerPlays old.mode (with_trace old text) does r (with_trace new text')
    → LeadsOn (LeadsPlayer start) old text r new text'
leads_by start old new text text' does (Ok step.Done) leads mode range goes front went is led = goes_leads start old new text text' front does false leads mode range goes led
leads_by start old new text text' does (Ok step.More) leads mode range goes front went is led = goes_leads start old new text text' front does true leads mode range goes led
leads_by start old new text text' does (Ok step.Outside) leads mode range refuses front went is led =
    stays_leads start old new text text' front mode (ap (λ (p : PlayerState). p.trace) refuses.1) (ap (λ (p : PlayerState). journal_so_far p.stage) refuses.1) range led
leads_by start old new text text' does (Ok (step.Limited count)) leads mode range limited front went is led = stays_leads start old new text text' front mode limited.trace limited.journal range led
leads_by start old new text text' does (Err e) leads mode range begun front went is led = absurd (cc)

pub leads_line : (start old new : PlayerValue) (text text' line : List ℕ) (r : Result LineStep NoMemory) → LinesLeadTo old.stage → new.mode ≡ old.mode → IsJournalInRange (journal_so_far new.stage)
    → PlayerPlays old.mode (with_trace old text) (played old.stage line) r (with_trace new text') → LeadsOn (LeadsPlayer start) old text r new text'
leads_line start old new text text' line r reached mode range plays = leads_by start old new text text' (played old.stage line) r (line_leads old.stage line reached) mode range plays

pub leads_flow : (start old new : PlayerValue) (text text' : List ℕ) (r : Result LineStep NoMemory) → LinesLeadTo old.stage → new.mode ≡ old.mode → IsJournalInRange (journal_so_far new.stage)
    → PlayerPlays old.mode (with_trace old text) (flowing old.stage) r (with_trace new text') → LeadsOn (LeadsPlayer start) old text r new text'
leads_flow start old new text text' r reached mode range plays = leads_by start old new text text' (flowing old.stage) r (flow_leads old.stage reached) mode range plays

-- ---- what was printed

-- before the first line
abbrev pub new_player : Mode → PlayerValue
new_player mode = record { mode = mode; stage = None; spent = None; flows = false }

pub leads_new : (mode : Mode) → LeadsPlayer (new_player mode) (new_player mode) []
leads_new mode = record { mode = refl; text_is = sym (no_trace mode); range = tt; reached = record { stage = None; reached = AtStart; is = refl } }

-- a run that a new player began
pub prints_journal : (start : PlayerValue) (base : List ℕ) (held : Option (List ℕ)) → GotPart (LeadsPlayer start) (task_closing (λ (p : PlayerValue). script_task p.mode p.flows p.stage)) base held → PrintsJournal start.mode base held
prints_journal start base held got = record {
  journal = journal_so_far got.task.stage;
  range = got.led.range;
  reached = got.led.reached;
  part = got.part;
  begins = subst (λ (t : List ℕ). IsBeginningOf got.part t)
      ((λ i. got.led.text_is i ++ closing_of got.task.mode (journal_so_far got.task.stage)) ∙ ap (λ (m : Mode). trace_of start.mode (journal_so_far got.task.stage) ++ closing_of m (journal_so_far got.task.stage)) got.led.mode) got.begins;
  got = got.got;
}

pub has_printed : (mode : Mode) (held held' : Option (List ℕ)) → ((base : List ℕ) → held ≡ Some base → PrintsJournal mode base held') → HasPrinted mode held held'
has_printed mode None held' prints = tt
has_printed mode (Some base) held' prints = prints base refl
