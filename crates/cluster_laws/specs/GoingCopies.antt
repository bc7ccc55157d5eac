-- A copy that a file of a run has under way has no outcome yet: behind its outcome it would have no call to wait for.
use Rattle.std.specs.Prelude.{◌≡◌, ℕ, List, Some, None}
use Rattle.copy_rule.specs.Copies.{CopyState, outcome}
use Rattle.file_rule.specs.MdsFiles.{MdsFile, Copies}
use Rattle.cluster_laws.specs.Machine.{Move, numbered_at}
use Rattle.cluster_laws.specs.RunBounds.{machine_of_run}

abbrev pub CopiesGoOn : List ℕ → List Move → Type 0
CopiesGoOn boots moves = (n : ℕ) (f : MdsFile) (c : CopyState) → numbered_at (machine_of_run boots moves).files n ≡ Some f → f.activity ≡ Copies c → outcome c ≡ None
