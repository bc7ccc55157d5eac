-- The lines of a generated script, from the last to the first.
use Rattle.std.proofs.Common.{◌≡◌, ℕ, zero, suc, ◌+◌, ◌-◌, ◌≤◌, List, [], ◌∷◌, ◌++◌, length, codes, Some, refl, sym, ap, subst, ◌∙◌, arith}
use Rattle.std.specs.Fmt.{digits}
use Rattle.std.proofs.lemmas.List.{append_assoc}
use Rattle.cluster_model.specs.Event.{Open, Flow, Tick, Audit}
use Rattle.journal_print.proofs.Reading.{Above}
use Rattle.line_runs.specs.Lines.{script_lines}
use Rattle.line_runs.proofs.LineLemmas.{cut_nil, script_end}
use Rattle.ff_script.specs.Pieces.{parts, decimal_at}
use Rattle.cluster_script.specs.ClusterLines.{cluster_at, event_at}
use Rattle.script_gen.specs.Generated.{DrawnLine, states_on, draws_of, drawn_line, line_text, drawn_text, opening_lines, closing_lines, generated}
use Rattle.script_gen.specs.ScriptLaw.{generated_sizes, SaysEvent, AllSayEvents, IsScriptOfEvents}
use Rattle.script_gen.proofs.DrawLemmas.{no_text, text_more}
use Rattle.script_gen.proofs.LineWords.{line_first}
use Rattle.script_gen.proofs.EventLines.{IsDrawn, begins_line, is_drawn}

-- a text has so many lines, and all say events, within any budget that has room for it
abbrev AreEvents : ℕ → List ℕ → Type 0
AreEvents k text = (n : ℕ) → length text ≤ n → AllSayEvents (script_lines n text) × (length (script_lines n text) ≡ k)

no_lines : AreEvents 0 []
no_lines n room =
    let none : script_lines n [] ≡ [] = (script_end n [] (cut_nil n)).1 in
    (subst AllSayEvents (sym none) tt, ap length none)

line_more : (k : ℕ) (line rest : List ℕ) → Above 10 line → SaysEvent line → AreEvents k rest → AreEvents (suc k) (line ++ 10 ∷ rest)
line_more k line rest above says events n room =
    let first = line_first line rest n above room in
    let others = events (n - (length line + 1)) first.1 in
    (subst AllSayEvents (sym first.0) (says, others.0), ap length first.0 ∙ ap suc others.1)

-- ---- the lines that end it

says_tick : event_at generated_sizes (codes "tick 91") ≡ Some (Tick 91)
unfolding parts decimal_at digits
says_tick = refl

says_flow : event_at generated_sizes (codes "flow") ≡ Some Flow
unfolding parts
says_flow = refl

says_audit : event_at generated_sizes (codes "audit 1") ≡ Some (Audit 1)
unfolding parts decimal_at digits
says_audit = refl

says_audit_too : event_at generated_sizes (codes "audit 2") ≡ Some (Audit 2)
unfolding parts decimal_at digits
says_audit_too = refl

closing_events : AreEvents 4 closing_lines
closing_events =
    line_more 3 (codes "tick 91") (codes "flow\naudit 1\naudit 2\n") refl (Tick 91, says_tick)
    (line_more 2 (codes "flow") (codes "audit 1\naudit 2\n") refl (Flow, says_flow)
    (line_more 1 (codes "audit 1") (codes "audit 2\n") refl (Audit 1, says_audit)
    (line_more 0 (codes "audit 2") [] refl (Audit 2, says_audit_too) no_lines)))

-- ---- the lines that are drawn

begins_more : (k : ℕ) (line : DrawnLine) (rest : List ℕ) → IsDrawn line → AreEvents k rest → AreEvents (suc k) (line_text line ++ rest)
begins_more k line rest drawn events n room =
    let first = begins_line line drawn rest n room in
    let others = events first.budget first.room in
    (subst AllSayEvents (sym first.is) (first.event, others.0), ap length first.is ∙ ap suc others.1)

drawn_events : (k j x : ℕ) (rest : List ℕ) → AreEvents j rest → AreEvents (k + j) (drawn_text k x ++ rest)
drawn_events zero j x rest events =
    let all : 0 + j ≡ j = omega arith in
    subst (λ m. AreEvents m (drawn_text zero x ++ rest)) (sym all) (subst (AreEvents j) (ap (λ t. t ++ rest) (sym (no_text x))) events)
drawn_events (suc k) j x rest events =
    let line : List ℕ = line_text (drawn_line x) in
    let behind : List ℕ = drawn_text k (states_on (draws_of (drawn_line x)) x) ++ rest in
    let text : line ++ behind ≡ drawn_text (suc k) x ++ rest = sym (append_assoc line (drawn_text k (states_on (draws_of (drawn_line x)) x)) rest) ∙ ap (λ t. t ++ rest) (sym (text_more k x)) in
    let more = drawn_events k j (states_on (draws_of (drawn_line x)) x) rest events in
    let all : suc (k + j) ≡ suc k + j = omega arith in
    subst (λ m. AreEvents m (drawn_text (suc k) x ++ rest)) all (subst (AreEvents (suc (k + j))) text (begins_more (k + j) (drawn_line x) behind (is_drawn x) more))

-- ---- the lines that open it

says_open : event_at generated_sizes (codes "open c1 a") ≡ Some (Open 1 (codes "a"))
unfolding parts decimal_at digits
says_open = refl

says_open_2 : event_at generated_sizes (codes "open c2 a") ≡ Some (Open 2 (codes "a"))
unfolding parts decimal_at digits
says_open_2 = refl

says_open_3 : event_at generated_sizes (codes "open c3 b") ≡ Some (Open 3 (codes "b"))
unfolding parts decimal_at digits
says_open_3 = refl

says_open_4 : event_at generated_sizes (codes "open c4 b") ≡ Some (Open 4 (codes "b"))
unfolding parts decimal_at digits
says_open_4 = refl

says_cluster : cluster_at (codes "cluster 4 3 4") ≡ Some generated_sizes
unfolding parts decimal_at digits
says_cluster = refl

opening_events : (k : ℕ) (rest : List ℕ) → AreEvents k rest → AreEvents (suc (suc (suc (suc (suc k))))) (codes "open c1 a\nopen c2 a\nopen c3 b\nopen c4 b\nflow\n" ++ rest)
opening_events k rest events =
    line_more (suc (suc (suc (suc k)))) (codes "open c1 a") (codes "open c2 a\nopen c3 b\nopen c4 b\nflow\n" ++ rest) refl (Open 1 (codes "a"), says_open)
    (line_more (suc (suc (suc k))) (codes "open c2 a") (codes "open c3 b\nopen c4 b\nflow\n" ++ rest) refl (Open 2 (codes "a"), says_open_2)
    (line_more (suc (suc k)) (codes "open c3 b") (codes "open c4 b\nflow\n" ++ rest) refl (Open 3 (codes "b"), says_open_3)
    (line_more (suc k) (codes "open c4 b") (codes "flow\n" ++ rest) refl (Open 4 (codes "b"), says_open_4)
    (line_more k (codes "flow") rest refl (Flow, says_flow) events))))

pub script_of_events : (seed budget : ℕ) → length (generated seed) ≤ budget → IsScriptOfEvents (script_lines budget (generated seed)) × (length (script_lines budget (generated seed)) ≡ 2010)
unfolding generated
script_of_events seed budget room =
    let behind : List ℕ = codes "open c1 a\nopen c2 a\nopen c3 b\nopen c4 b\nflow\n" ++ (drawn_text 2000 seed ++ closing_lines) in
    let text : generated seed ≡ codes "cluster 4 3 4" ++ 10 ∷ behind = append_assoc opening_lines (drawn_text 2000 seed) closing_lines in
    let first = line_first (codes "cluster 4 3 4") behind budget refl (omega (arith, ap length text, room)) in
    let others = opening_events 2004 (drawn_text 2000 seed ++ closing_lines) (drawn_events 2000 4 seed closing_lines closing_events) (budget - (length (codes "cluster 4 3 4") + 1)) first.1 in
    let all = ap (script_lines budget) text ∙ first.0 in
    (subst IsScriptOfEvents (sym all) (says_cluster, others.0), ap length all ∙ ap suc others.1)
