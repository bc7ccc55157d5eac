-- Where lines ended the run of a source, its journal is in range, and so obeys all laws; and so does the journal whose text was printed, whatever ended the run.
use Rattle.std.proofs.Common.{ℕ, List, Option, Some, None}
use Rattle.journal_print.specs.declared.mode.Mode.{Mode}
use Rattle.line_runs.specs.declared.end.RunEnd.{RunEnd}
use Rattle.line_runs.specs.declared.end.RunEnd.TheVariants as ends
use Rattle.line_runs.specs.Lines.{script_lines}
use Rattle.ff_replay.specs.Script.{script_budget, EndsInRange}
use Rattle.ff_replay.specs.Player.{HasPrinted}
use Rattle.script_laws.specs.ScriptLaws.{PlaysLawfully, PrintsLawfully, EveryScriptObeys, EveryReachedObeys}

pub plays_lawfully : EveryScriptObeys → (source : Option (List ℕ)) (end : RunEnd) → EndsInRange source end → PlaysLawfully source end
plays_lawfully obeys None end range = tt
plays_lawfully obeys (Some bytes) ends.Done range = (obeys (script_lines script_budget bytes)).laws range
plays_lawfully obeys (Some bytes) (ends.BadLine n) range = (obeys (script_lines script_budget bytes)).laws range
plays_lawfully obeys (Some bytes) (ends.Limit count) range = (obeys (script_lines script_budget bytes)).laws range
plays_lawfully obeys (Some bytes) ends.ReadFault range = tt
plays_lawfully obeys (Some bytes) ends.WriteFault range = tt
plays_lawfully obeys (Some bytes) ends.NoMemory range = tt

pub prints_lawfully : EveryReachedObeys → (mode : Mode) (held held' : Option (List ℕ)) → HasPrinted mode held held' → PrintsLawfully mode held held'
prints_lawfully obeys mode None held' printed = tt
prints_lawfully obeys mode (Some base) held' printed = record {
  journal = printed.journal;
  reached = printed.reached;
  obeys = obeys printed.journal printed.reached printed.range;
  part = printed.part;
  begins = printed.begins;
  got = printed.got;
}
