use Rattle.data_file.specs.Kept.{IsKeptOf}
use Rattle.part_nodes.proofs.stored_file.restart.Given as goal

-- what was kept is of the file
abbrev pub invariant-loop-piece : goal.invariant-loop-piece
invariant-loop-piece l = IsKeptOf l.file l.kept
