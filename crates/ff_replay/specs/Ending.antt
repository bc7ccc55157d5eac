-- Where lines end, nothing more comes of them.
use Rattle.std.proofs.Common.{◌≡◌, ℕ, ◌+◌, Bool, false, List, [], ◌++◌, Option, Some, None, refl, sym, ap, subst, arith}
use Rattle.std.proofs.lemmas.List.{append-nil}
use Rattle.cluster_model.specs.declared.entry.Entry.{Entry}
use Rattle.line_runs.specs.Tasks.{IsAtEnd, ahead_of}
use Rattle.journal_print.specs.declared.mode.Mode.{Mode}
use Rattle.journal_print.specs.declared.mode.Mode.TheVariants.{Full, Brief, Count}
use Rattle.ff_replay.specs.Script.{ScriptWorld, BareWorld, ClusterWorld, trace_of, closing_of, count_of, script_task}

-- no entries have no text
pub no_trace : (mode : Mode) → trace_of mode [] ≡ []
no_trace Full = refl
no_trace Brief = refl
no_trace Count = refl

-- with no entries more the whole journal is as it was
same_closing : (mode : Mode) (journal : List Entry) → closing_of mode (journal ++ []) ≡ closing_of mode journal
same_closing mode journal = ap (closing_of mode) (append-nil journal)

ends_between : (mode : Mode) (stage : Option ScriptWorld) (number : ℕ) → IsAtEnd (script_task mode false stage) (ahead_of number (script_task mode false stage))
ends_between mode None number = record { effect = (λ i. record { text = no_trace mode i; bad = None; past = false; count = 0; closing = same_closing mode [] i }); same = refl }
ends_between mode (Some (BareWorld w)) number =
    let count : count_of (Some (BareWorld w)) + 0 ≡ count_of (Some (BareWorld w)) = omega arith in
    record { effect = (λ i. record { text = no_trace mode i; bad = None; past = false; count = count i; closing = same_closing mode w.journal i }); same = append-nil w.journal }
ends_between mode (Some (ClusterWorld sizes w)) number =
    let count : count_of (Some (ClusterWorld sizes w)) + 0 ≡ count_of (Some (ClusterWorld sizes w)) = omega arith in
    record { effect = (λ i. record { text = no_trace mode i; bad = None; past = false; count = count i; closing = same_closing mode w.journal i }); same = append-nil w.journal }

-- between two lines there is no flow under way
pub at_end_of : (mode : Mode) (flows : Bool) (stage : Option ScriptWorld) (number : ℕ) → flows ≡ false → IsAtEnd (script_task mode flows stage) (ahead_of number (script_task mode flows stage))
at_end_of mode flows stage number still = subst (λ f. IsAtEnd (script_task mode f stage) (ahead_of number (script_task mode f stage))) (sym still) (ends_between mode stage number)
