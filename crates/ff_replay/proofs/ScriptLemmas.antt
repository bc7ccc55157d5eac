-- What the first line of a script does to what the script says, and a delivery of a flow to what is to come.
use Rattle.std.proofs.Common.{◌≡◌, ℕ, ◌+◌, Bool, true, false, List, [], ◌∷◌, ◌++◌, length, Option, Some, None, refl, sym, ap, subst, ◌∙◌, arith, ◌==◌, if◌then◌else◌}
use Rattle.std.specs.Option.{option_map}
use Rattle.std.proofs.lemmas.List.{append-nil, append_assoc, length-append}
use Rattle.cluster_model.specs.declared.entry.Entry.{Entry}
use Rattle.cluster_model.specs.Event.{EventValue}
use Rattle.line_runs.specs.Runs.{RunEffect, after_text}
use Rattle.cluster_script.specs.declared.sizes.ClusterSizes.{ClusterSizes}
use Rattle.cluster_script.specs.ClusterLines as cluster
use Rattle.ff_script.specs.Line.{event_at}
use Rattle.ff_world.specs.World.{Run}
use Rattle.world_rule.specs.ClusterWorlds.{ClusterState}
use Rattle.journal_print.specs.declared.mode.Mode.{Mode}
use Rattle.ff_replay.specs.declared.setup.Setup.{Setup}
use Rattle.ff_replay.specs.declared.setup.Setup.TheVariants.{Bare, Cluster}
use Rattle.ff_replay.specs.Script.{ScriptLine, SaysNothing, SetsUp, Happens, setup_in, words_in, line_in, Script, by_line, with_event, script_of, ScriptWorld, BareWorld, ClusterWorld, setup_of_world, setup_of, journal_so_far, count_of, world_in, run_in, run_behind, script_from, run_from, trace_of, closing_of, meaning_from, journal_behind}
use Rattle.ff_replay.specs.Player.{LinePlayed, Outside, Limited, Goes, event_played, played_by, played, flowed, entries_by, flowing}
use Rattle.ff_replay.specs.Ending.{no_trace}
use Rattle.ff_replay.proofs.PlayLemmas.{trace_append}
use Rattle.ff_replay.proofs.Happenings.{adds, GoesOn, world_on, within_on}

-- ---- where a line may stand

-- a setup's line stands only before a setup, and an event's only behind one
abbrev pub Meets : Option Setup → Option ScriptLine → Type 0
Meets setup None = Unit {0}
Meets setup (Some SaysNothing) = Unit {0}
Meets None (Some (SetsUp chosen)) = Unit {0}
Meets (Some old) (Some (SetsUp chosen)) = ⊥
Meets None (Some (Happens event)) = ⊥
Meets (Some old) (Some (Happens event)) = Unit {0}

meets_setup : (said : Option Setup) → Meets None (option_map SetsUp said)
meets_setup None = tt
meets_setup (Some chosen) = tt

meets_event : (setup : Setup) (said : Option EventValue) → Meets (Some setup) (option_map Happens said)
meets_event setup None = tt
meets_event setup (Some event) = tt

meets_words : (setup : Option Setup) (text : List ℕ) → Meets setup (words_in setup text)
meets_words None text = meets_setup (setup_in text)
meets_words (Some Bare) text = meets_event Bare (event_at text)
meets_words (Some (Cluster sizes)) text = meets_event (Cluster sizes) (cluster.event_at sizes text)

meets_either : (setup : Option Setup) (comment : Bool) (text : List ℕ) → Meets setup (if comment then Some SaysNothing else words_in setup text)
meets_either setup true text = tt
meets_either setup false text = meets_words setup text

meets : (setup : Option Setup) (text : List ℕ) → Meets setup (line_in setup text)
meets setup [] = tt
meets setup (c ∷ rest) = meets_either setup (c == 35) (c ∷ rest)

-- ---- what a line comes to, before the lines behind it: what the script says, and the run of it

-- what a script does behind the lines that made this world
abbrev pub run_by : Bool → Option ScriptWorld → Script → Run
run_by flows stage script = run_behind flows (world_in stage script.setup) script.events

abbrev pub Splits : ℕ → Option ScriptWorld → LinePlayed → (Option Setup → Script) → Script → Run → Type 0
Splits number stage Outside rest s run = (s.bad ≡ Some number) × (run ≡ record { entries = []; over = false })
Splits number stage Limited rest s run = run ≡ record { entries = []; over = true }
Splits number stage (Goes next flows entries) rest s run =
    (s.bad ≡ (rest (setup_of next)).bad) × (run ≡ adds entries (run_by flows next (rest (setup_of next)))) × (journal_so_far next ≡ journal_so_far stage ++ entries)

by_happening : (number : ℕ) (w : ScriptWorld) (event : EventValue) (does : LinePlayed) (rest : Option Setup → Script) (run : Run) → GoesOn w does (rest (Some (setup_of_world w))).events run
    → Splits number (Some w) does rest (with_event event (rest (Some (setup_of_world w)))) run
by_happening number w event Outside rest run on = absurd on
by_happening number w event Limited rest run on = on
by_happening number w event (Goes None flows entries) rest run on = absurd on
by_happening number w event (Goes (Some next) flows entries) rest run on = (
  ap (λ c. (rest (Some c)).bad) (sym on.0),
  on.1 ∙ ap (λ c. adds entries (run_behind flows next (rest (Some c)).events)) (sym on.0),
  on.2,
)

no_events : (number : ℕ) (stage : Option ScriptWorld) → run_by false stage (record { setup = None; events = []; bad = Some number }) ≡ record { entries = []; over = false }
no_events number None = refl
no_events number (Some (BareWorld w)) = refl
no_events number (Some (ClusterWorld sizes w)) = refl

by_value : (number : ℕ) (stage : Option ScriptWorld) (v : Option ScriptLine) (rest : Option Setup → Script) → Meets (setup_of stage) v
    → Splits number stage (played_by stage v) rest (by_line number (setup_of stage) v rest) (run_by false stage (by_line number (setup_of stage) v rest))
by_value number stage None rest met = (refl, no_events number stage)
by_value number stage (Some SaysNothing) rest met = (refl, refl, sym (append-nil (journal_so_far stage)))
by_value number None (Some (SetsUp Bare)) rest met = (refl, refl, refl)
by_value number None (Some (SetsUp (Cluster sizes))) rest met = (refl, refl, refl)
by_value number (Some w) (Some (SetsUp chosen)) rest met = absurd met
by_value number None (Some (Happens event)) rest met = absurd met
by_value number (Some w) (Some (Happens event)) rest met =
    by_happening number w event (event_played w event) rest (run_in w (event ∷ (rest (Some (setup_of_world w))).events)) (world_on w event (rest (Some (setup_of_world w))).events)

line_on : (number : ℕ) (stage : Option ScriptWorld) (line : List ℕ) (lines : List (List ℕ)) (p : LinePlayed) → played stage line ≡ p
    → Splits number stage p (λ chosen. script_of (number + 1) chosen lines) (script_from stage number (line ∷ lines)) (run_from false stage number (line ∷ lines))
line_on number stage line lines p is =
    subst (λ q. Splits number stage q (λ chosen. script_of (number + 1) chosen lines) (script_from stage number (line ∷ lines)) (run_from false stage number (line ∷ lines))) is
    (by_value number stage (line_in (setup_of stage) line) (λ chosen. script_of (number + 1) chosen lines) (meets (setup_of stage) line))

-- ---- the effect of it

-- how many entries there are, by the journal
count_is : (stage : Option ScriptWorld) → count_of stage ≡ length (journal_so_far stage)
count_is None = refl
count_is (Some (BareWorld w)) = refl
count_is (Some (ClusterWorld sizes w)) = refl

-- what a run of a script comes to behind this world
abbrev pub effect : Mode → Option ScriptWorld → Option ℕ → Run → RunEffect
effect mode stage bad run = record {
  text = trace_of mode run.entries;
  bad = bad;
  past = run.over;
  count = count_of stage + length run.entries;
  closing = closing_of mode (journal_so_far stage ++ run.entries);
}

goes_effect : (mode : Mode) (stage : Option ScriptWorld) (number : ℕ) (next : Option ScriptWorld) (flows : Bool) (entries : List Entry) (lines : List (List ℕ)) (bad : Option ℕ) (run : Run)
    → bad ≡ (script_from next number lines).bad → run ≡ adds entries (run_from flows next number lines) → journal_so_far next ≡ journal_so_far stage ++ entries
    → effect mode stage bad run ≡ after_text (trace_of mode entries) (meaning_from mode flows next number lines)
goes_effect mode stage number next flows entries lines bad run bad_is run_is journal_is =
    let after : Run = run_from flows next number lines in
    let all : count_of stage + length (entries ++ after.entries) ≡ count_of next + length after.entries =
    omega (arith, count_is stage, count_is next, ap length journal_is, length-append (journal_so_far stage) entries, length-append entries after.entries) in
    let whole : journal_so_far stage ++ (entries ++ after.entries) ≡ journal_so_far next ++ after.entries =
    sym (append_assoc (journal_so_far stage) entries after.entries) ∙ ap (λ j. j ++ after.entries) (sym journal_is) in
    let make : List ℕ → ℕ → List Entry → RunEffect = λ t n j. record { text = t; bad = (script_from next number lines).bad; past = after.over; count = n; closing = closing_of mode j } in
    (λ i. effect mode stage (bad_is i) (run_is i)) ∙ (λ i. make (trace_append mode entries after.entries i) (all i) (whole i))

-- of a run with no entries the closing text is that of the journal so far
no_more : (mode : Mode) (stage : Option ScriptWorld) (bad : Option ℕ) (run : Run) → run.entries ≡ [] → ((effect mode stage bad run).text ≡ []) × ((effect mode stage bad run).closing ≡ closing_of mode (journal_so_far stage))
no_more mode stage bad run none = (ap (trace_of mode) none ∙ no_trace mode, ap (λ entries. closing_of mode (journal_so_far stage ++ entries)) none ∙ ap (closing_of mode) (append-nil (journal_so_far stage)))

-- a limit would be passed by the next event
pub record EndsAtLimit (mode : Mode) (stage : Option ScriptWorld) (said : RunEffect) : Type 0 where
  pub past : said.past ≡ true
  pub count : count_of stage ≡ said.count
  pub text : said.text ≡ []
  pub closing : said.closing ≡ closing_of mode (journal_so_far stage)

limited_effect : (mode : Mode) (stage : Option ScriptWorld) (bad : Option ℕ) (run : Run) → run ≡ record { entries = []; over = true } → EndsAtLimit mode stage (effect mode stage bad run)
limited_effect mode stage bad run is =
    let none : run.entries ≡ [] = ap (λ (r : Run). r.entries) is in record {
      past = ap (λ (r : Run). r.over) is;
      count = (let few : length run.entries ≡ 0 = ap length none in omega (arith, few));
      text = (no_more mode stage bad run none).0;
      closing = (no_more mode stage bad run none).1;
    }

-- ---- the journal behind lines

-- a script is the same from whichever number on, but for the number of its bad line
record SameScript (s t : Script) : Type 0 where
  pub setup : s.setup ≡ t.setup
  pub events : s.events ≡ t.events

same_line : (n m : ℕ) (setup : Option Setup) (v : Option ScriptLine) (rest other : Option Setup → Script) → ((chosen : Option Setup) → SameScript (rest chosen) (other chosen)) → SameScript (by_line n setup v rest) (by_line m setup v other)
same_line n m setup None rest other same = record { setup = refl; events = refl }
same_line n m setup (Some SaysNothing) rest other same = same setup
same_line n m setup (Some (SetsUp chosen)) rest other same = record { setup = refl; events = (same (Some chosen)).events }
same_line n m setup (Some (Happens event)) rest other same = record { setup = (same setup).setup; events = ap (λ (es : List EventValue). event ∷ es) (same setup).events }

same_script : (n m : ℕ) (setup : Option Setup) (lines : List (List ℕ)) → SameScript (script_of n setup lines) (script_of m setup lines)
same_script n m setup [] = record { setup = refl; events = refl }
same_script n m setup (line ∷ lines) =
    same_line n m setup (line_in setup line) (λ chosen. script_of (n + 1) chosen lines) (λ chosen. script_of (m + 1) chosen lines) (λ chosen. same_script (n + 1) (m + 1) chosen lines)

same_run : (flows : Bool) (stage : Option ScriptWorld) (n m : ℕ) (lines : List (List ℕ)) → run_from flows stage n lines ≡ run_from flows stage m lines
same_run flows stage n m lines =
    let s : SameScript (script_from stage n lines) (script_from stage m lines) = same_script n m (setup_of stage) lines in
    ap (λ (c : Option Setup). run_behind flows (world_in stage c) (script_from stage n lines).events) s.setup ∙ ap (λ (es : List EventValue). run_behind flows (world_in stage (script_from stage m lines).setup) es) s.events

joined : (stage next : Option ScriptWorld) (flows : Bool) (number : ℕ) (entries : List Entry) (lines : List (List ℕ)) (run : Run) → run ≡ adds entries (run_from flows next number lines) → journal_so_far next ≡ journal_so_far stage ++ entries
    → journal_so_far stage ++ run.entries ≡ journal_behind flows next lines
joined stage next flows number entries lines run is journal_is =
    let rest : List Entry = (run_from flows next number lines).entries in
    ap (λ (r : Run). journal_so_far stage ++ r.entries) is ∙ sym (append_assoc (journal_so_far stage) entries rest) ∙ ap (λ (j : List Entry). j ++ rest) (sym journal_is)
    ∙ ap (λ (r : Run). journal_so_far next ++ r.entries) (same_run flows next number 1 lines)

pub journal_first : (stage next : Option ScriptWorld) (flows : Bool) (line : List ℕ) (lines : List (List ℕ)) (entries : List Entry) → played stage line ≡ Goes next flows entries → journal_behind false stage (line ∷ lines) ≡ journal_behind flows next lines
journal_first stage next flows line lines entries is =
    let split = line_on 1 stage line lines (Goes next flows entries) is in joined stage next flows 2 entries lines (run_from false stage 1 (line ∷ lines)) split.1 split.2

-- a line that is played adds its entries to the journal
pub line_grows : (stage next : Option ScriptWorld) (flows : Bool) (line : List ℕ) (entries : List Entry) → played stage line ≡ Goes next flows entries → journal_so_far next ≡ journal_so_far stage ++ entries
line_grows stage next flows line entries is = (line_on 1 stage line [] (Goes next flows entries) is).2

none_behind : (stage : Option ScriptWorld) (run : Run) → run.entries ≡ [] → journal_so_far stage ++ run.entries ≡ journal_so_far stage
none_behind stage run none = ap (λ (es : List Entry). journal_so_far stage ++ es) none ∙ append-nil (journal_so_far stage)

pub journal_outside : (stage : Option ScriptWorld) (line : List ℕ) (lines : List (List ℕ)) → played stage line ≡ Outside → journal_behind false stage (line ∷ lines) ≡ journal_so_far stage
journal_outside stage line lines is = none_behind stage (run_from false stage 1 (line ∷ lines)) (ap (λ (r : Run). r.entries) (line_on 1 stage line lines Outside is).1)

pub journal_limited : (stage : Option ScriptWorld) (line : List ℕ) (lines : List (List ℕ)) → played stage line ≡ Limited → journal_behind false stage (line ∷ lines) ≡ journal_so_far stage
journal_limited stage line lines is = none_behind stage (run_from false stage 1 (line ∷ lines)) (ap (λ (r : Run). r.entries) (line_on 1 stage line lines Limited is))

-- ---- the first line, and what is to come

-- it is played
pub goes_first : (mode : Mode) (number : ℕ) (stage next : Option ScriptWorld) (flows : Bool) (line : List ℕ) (lines : List (List ℕ)) (entries : List Entry) → played stage line ≡ Goes next flows entries
    → meaning_from mode false stage number (line ∷ lines) ≡ after_text (trace_of mode entries) (meaning_from mode flows next (number + 1) lines)
goes_first mode number stage next flows line lines entries is =
    let split = line_on number stage line lines (Goes next flows entries) is in
    goes_effect mode stage (number + 1) next flows entries lines _ _ split.0 split.1 split.2

-- the line with this number is outside the grammar
pub record EndsOutside (mode : Mode) (number : ℕ) (stage : Option ScriptWorld) (said : RunEffect) : Type 0 where
  pub bad : said.bad ≡ Some number
  pub past : said.past ≡ false
  pub text : said.text ≡ []
  pub closing : said.closing ≡ closing_of mode (journal_so_far stage)

-- it is outside the grammar
pub outside_first : (mode : Mode) (number : ℕ) (stage : Option ScriptWorld) (line : List ℕ) (lines : List (List ℕ)) → played stage line ≡ Outside
    → EndsOutside mode number stage (meaning_from mode false stage number (line ∷ lines))
outside_first mode number stage line lines is =
    let split = line_on number stage line lines Outside is in
    let none = no_more mode stage (script_from stage number (line ∷ lines)).bad (run_from false stage number (line ∷ lines)) (ap (λ (r : Run). r.entries) split.1) in record {
      bad = split.0;
      past = ap (λ (r : Run). r.over) split.1;
      text = none.0;
      closing = none.1;
    }

-- its event would pass a limit
pub limited_first : (mode : Mode) (number : ℕ) (stage : Option ScriptWorld) (line : List ℕ) (lines : List (List ℕ)) → played stage line ≡ Limited
    → EndsAtLimit mode stage (meaning_from mode false stage number (line ∷ lines))
limited_first mode number stage line lines is = limited_effect mode stage (script_from stage number (line ∷ lines)).bad _ (line_on number stage line lines Limited is)

-- the text of the first line begins the text of all
pub text_first : (mode : Mode) (number : ℕ) (stage : Option ScriptWorld) (line : List ℕ) (lines : List (List ℕ)) (p : LinePlayed) → played stage line ≡ p
    → (more : List ℕ) × ((meaning_from mode false stage number (line ∷ lines)).text ≡ trace_of mode (entries_by p) ++ more)
text_first mode number stage line lines Outside is = ([], (outside_first mode number stage line lines is).text ∙ sym (append-nil _ ∙ no_trace mode))
text_first mode number stage line lines Limited is = ([], (limited_first mode number stage line lines is).text ∙ sym (append-nil _ ∙ no_trace mode))
text_first mode number stage line lines (Goes next flows entries) is =
    (trace_of mode (run_from flows next (number + 1) lines).entries, ap (λ (c : RunEffect). c.text) (goes_first mode number stage next flows line lines entries is))

-- ---- a flow that is under way, and what is to come

flow_now : (sizes : ClusterSizes) (w : ClusterState) (number : ℕ) (lines : List (List ℕ)) (p : LinePlayed) → flowed sizes w ≡ p
    → GoesOn (ClusterWorld sizes w) p (script_of number (Some (Cluster sizes)) lines).events (run_from true (Some (ClusterWorld sizes w)) number lines)
flow_now sizes w number lines p is =
    subst (λ q. GoesOn (ClusterWorld sizes w) q (script_of number (Some (Cluster sizes)) lines).events (run_from true (Some (ClusterWorld sizes w)) number lines)) is
    (within_on sizes w (script_of number (Some (Cluster sizes)) lines).events)

-- the next packet came, or none waits
pub goes_within : (mode : Mode) (number : ℕ) (sizes : ClusterSizes) (w : ClusterState) (next : Option ScriptWorld) (flows : Bool) (entries : List Entry) (lines : List (List ℕ)) → flowed sizes w ≡ Goes next flows entries
    → meaning_from mode true (Some (ClusterWorld sizes w)) number lines ≡ after_text (trace_of mode entries) (meaning_from mode flows next number lines)
goes_within mode number sizes w None flows entries lines is = absurd (flow_now sizes w number lines (Goes None flows entries) is)
goes_within mode number sizes w (Some next) flows entries lines is =
    let on = flow_now sizes w number lines (Goes (Some next) flows entries) is in
    goes_effect mode (Some (ClusterWorld sizes w)) number (Some next) flows entries lines _ _
    (ap (λ c. (script_of number (Some c) lines).bad) (sym on.0))
    (on.1 ∙ ap (λ c. adds entries (run_behind flows next (script_of number (Some c) lines).events)) (sym on.0))
    on.2

-- it would pass a limit
pub limited_within : (mode : Mode) (number : ℕ) (sizes : ClusterSizes) (w : ClusterState) (lines : List (List ℕ)) → flowed sizes w ≡ Limited
    → EndsAtLimit mode (Some (ClusterWorld sizes w)) (meaning_from mode true (Some (ClusterWorld sizes w)) number lines)
limited_within mode number sizes w lines is = limited_effect mode (Some (ClusterWorld sizes w)) (script_of number (Some (Cluster sizes)) lines).bad _ (flow_now sizes w number lines Limited is)

pub journal_within : (sizes : ClusterSizes) (w : ClusterState) (next : Option ScriptWorld) (flows : Bool) (entries : List Entry) (lines : List (List ℕ)) → flowed sizes w ≡ Goes next flows entries
    → journal_behind true (Some (ClusterWorld sizes w)) lines ≡ journal_behind flows next lines
journal_within sizes w None flows entries lines is = absurd (flow_now sizes w 1 lines (Goes None flows entries) is)
journal_within sizes w (Some next) flows entries lines is =
    let on = flow_now sizes w 1 lines (Goes (Some next) flows entries) is in
    joined (Some (ClusterWorld sizes w)) (Some next) flows 1 entries lines (run_from true (Some (ClusterWorld sizes w)) 1 lines) (on.1 ∙ ap (λ c. adds entries (run_behind flows next (script_of 1 (Some c) lines).events)) (sym on.0)) on.2

pub journal_stops : (sizes : ClusterSizes) (w : ClusterState) (lines : List (List ℕ)) → flowed sizes w ≡ Limited → journal_behind true (Some (ClusterWorld sizes w)) lines ≡ w.journal
journal_stops sizes w lines is = none_behind (Some (ClusterWorld sizes w)) (run_from true (Some (ClusterWorld sizes w)) 1 lines) (ap (λ (r : Run). r.entries) (flow_now sizes w 1 lines Limited is))

-- a flow is within the grammar
pub flow_not_outside : (sizes : ClusterSizes) (w : ClusterState) → flowed sizes w ≡ Outside → ⊥
flow_not_outside sizes w is = flow_now sizes w 1 [] Outside is

-- the text of the delivery begins the text of all
pub text_within : (mode : Mode) (number : ℕ) (sizes : ClusterSizes) (w : ClusterState) (lines : List (List ℕ)) (p : LinePlayed) → flowed sizes w ≡ p
    → (more : List ℕ) × ((meaning_from mode true (Some (ClusterWorld sizes w)) number lines).text ≡ trace_of mode (entries_by p) ++ more)
text_within mode number sizes w lines Outside is = absurd (flow_not_outside sizes w is)
text_within mode number sizes w lines Limited is = ([], (limited_within mode number sizes w lines is).text ∙ sym (append-nil _ ∙ no_trace mode))
text_within mode number sizes w lines (Goes next flows entries) is =
    (trace_of mode (run_from flows next number lines).entries, ap (λ (c : RunEffect). c.text) (goes_within mode number sizes w next flows entries lines is))

-- ---- a step of a flow adds its entries to the journal

flow_grows_in : (sizes : ClusterSizes) (w : ClusterState) (next : Option ScriptWorld) (flows : Bool) (entries : List Entry) → flowed sizes w ≡ Goes next flows entries → journal_so_far next ≡ w.journal ++ entries
flow_grows_in sizes w None flows entries is = absurd (flow_now sizes w 1 [] (Goes None flows entries) is)
flow_grows_in sizes w (Some next) flows entries is = (flow_now sizes w 1 [] (Goes (Some next) flows entries) is).2

no_flow : (stage next : Option ScriptWorld) (flows : Bool) (entries : List Entry) → Goes stage false [] ≡ Goes next flows entries → journal_so_far next ≡ journal_so_far stage ++ entries
no_flow stage next flows entries is =
    let same : stage ≡ next = cc is in
    let none : [] ≡ entries = cc is in
    ap journal_so_far (sym same) ∙ sym (append-nil (journal_so_far stage)) ∙ ap (λ (es : List Entry). journal_so_far stage ++ es) none

pub flow_grows : (stage next : Option ScriptWorld) (flows : Bool) (entries : List Entry) → flowing stage ≡ Goes next flows entries → journal_so_far next ≡ journal_so_far stage ++ entries
flow_grows None next flows entries is = no_flow None next flows entries is
flow_grows (Some (BareWorld w)) next flows entries is = no_flow (Some (BareWorld w)) next flows entries is
flow_grows (Some (ClusterWorld sizes w)) next flows entries is = flow_grows_in sizes w next flows entries is
