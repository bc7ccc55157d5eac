-- How a journal's text is printed, and what becomes of a world that is spent.
use Rattle.std.proofs.Common.{◌≡◌, ℕ, false, List, [], ◌∷◌, ◌++◌, take, drop, Option, Some, None, Result, Ok, Err, refl, sym, ap, subst, ◌∙◌}
use Rattle.std.proofs.lemmas.List.{append_assoc, append-nil, take-append-drop}
use Rattle.ff_xdr.specs.declared.error.NoMemory.{NoMemory}
use Rattle.cluster_model.specs.declared.entry.Entry.{Entry}
use Rattle.cluster_model.specs.Print.{print, line_of}
use Rattle.line_runs.specs.declared.end.RunEnd.{RunEnd}
use Rattle.line_runs.specs.declared.end.RunEnd.TheVariants as ends
use Rattle.line_runs.specs.Runs.{HasBecome}
use Rattle.world_journal.specs.Journal.{IsJournalInRange}
use Rattle.ff_replay.specs.Script.{journal_behind, script_budget, EndsInRange}
use Rattle.journal_print.specs.Brief.{brief, brief_line}
use Rattle.line_runs.specs.Writing.{IsBeginningOf, PrintsText}
use Rattle.journal_print.specs.declared.mode.Mode.{Mode}
use Rattle.journal_print.specs.declared.mode.Mode.TheVariants.{Full, Brief, Count}
use Rattle.ff_replay.specs.Script.{trace_of}
use Rattle.ff_replay.specs.Ending.{no_trace}

print_append : (xs ys : List Entry) → print (xs ++ ys) ≡ print xs ++ print ys
print_append [] ys = refl
print_append (x ∷ xs) ys = ap (λ t. line_of x ++ t) (print_append xs ys) ∙ sym (append_assoc (line_of x) (print xs) (print ys))

brief_append : (xs ys : List Entry) → brief (xs ++ ys) ≡ brief xs ++ brief ys
brief_append [] ys = refl
brief_append (x ∷ xs) ys = ap (λ t. brief_line x ++ t) (brief_append xs ys) ∙ sym (append_assoc (brief_line x) (brief xs) (brief ys))

-- the text of joined entries
pub trace_append : (mode : Mode) (xs ys : List Entry) → trace_of mode (xs ++ ys) ≡ trace_of mode xs ++ trace_of mode ys
trace_append Full xs ys = print_append xs ys
trace_append Brief xs ys = brief_append xs ys
trace_append Count xs ys = refl

-- the text of the first entries begins the text of all
begins_take : (mode : Mode) (i : ℕ) (xs : List Entry) → IsBeginningOf (trace_of mode (take i xs)) (trace_of mode xs)
begins_take mode i xs = record {
  rest = trace_of mode (drop i xs);
  whole = sym (trace_append mode (take i xs) (drop i xs)) ∙ ap (trace_of mode) (take-append-drop i xs);
}

-- printing that ended at an entry
pub prints_in_part : (mode : Mode) (old new : List ℕ) (i : ℕ) (xs : List Entry) (r : Result (Unit {0}) NoMemory) (e : NoMemory) → r ≡ Err e
    → new ≡ old ++ trace_of mode (take i xs) → PrintsText old (trace_of mode xs) r new
prints_in_part mode old new i xs (Ok x) e is at = absurd (cc)
prints_in_part mode old new i xs (Err y) e is at = (trace_of mode (take i xs), begins_take mode i xs, at)

-- nothing is printed of no entries
pub prints_none : (mode : Mode) (text : List ℕ) (xs : List Entry) → xs ≡ [] → text ≡ text ++ trace_of mode xs
prints_none mode text xs none = sym (append-nil text) ∙ ap (λ t. text ++ t) (sym (no_trace mode)) ∙ ap (λ l. text ++ trace_of mode l) (sym none)

-- where lines ended the run, what the player is then has the journal of the lines
pub ends_in_range : (source : Option (List ℕ)) (end : RunEnd) (state : List Entry) → HasBecome script_budget (journal_behind false None) source end state → IsJournalInRange state → EndsInRange source end
ends_in_range None end state became range = tt
ends_in_range (Some bytes) ends.Done state became range = subst IsJournalInRange became range
ends_in_range (Some bytes) (ends.BadLine n) state became range = subst IsJournalInRange became range
ends_in_range (Some bytes) (ends.Limit count) state became range = subst IsJournalInRange became range
ends_in_range (Some bytes) ends.ReadFault state became range = tt
ends_in_range (Some bytes) ends.WriteFault state became range = tt
ends_in_range (Some bytes) ends.NoMemory state became range = tt
