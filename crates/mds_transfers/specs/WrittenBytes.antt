-- A WRITE that is permitted, by its bytes: one without bytes is done, another begins a period of the metadata server's own.
use Rattle.std.specs.Prelude.{ℕ, List, [], ◌∷◌}
use Rattle.cluster_model.specs.declared.ids.FileId.{FileId}
use Rattle.file_rule.specs.FilePhases.{OwnWrite}
use Rattle.mds_rule.specs.MdsStates.{CompoundRun, MdsValue}
use Rattle.mds_rule.specs.OpSteps.{OpStep, gives}
use Rattle.mds_rule.specs.ServedFiles.{takes_input}
use Rattle.mds_rule.specs.FileOps.{write_result, begins_write}

abbrev pub writes_bytes : MdsValue → CompoundRun → FileId → ℕ → List ℕ → OpStep
writes_bytes m c file at [] = gives m c (write_result 0)
writes_bytes m c file at (b ∷ bytes) = begins_write (takes_input m file (OwnWrite at (b ∷ bytes))) c file at (b ∷ bytes)
