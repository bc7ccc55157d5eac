-- How much a file of a run draws at a time, and how many uids a run draws.
use Rattle.std.specs.Prelude.{◌≡◌, ℕ, ◌≤◌, List, Some}
use Rattle.file_rule.specs.MdsFiles.{MdsFile, FileStep}
use Rattle.file_rule.specs.FilePhases.{FileInput, end_of_uids, phase}
use Rattle.cluster_laws.specs.Machine.{Machine, Move, new_machine, numbered_at, fresh_of, file_id, machine_after}
use Rattle.cluster_laws.specs.FenceLaw.{new_servers}

-- a step of a file draws one uid at most, and the numbers of four names
pub record DrawsFew (s : FileStep) : Type 0 where
  pub uids : s.uids ≤ 1
  pub names : s.names ≤ 4

-- the machine behind these moves, from data servers that begin in these boots
abbrev pub machine_of_run : List ℕ → List Move → Machine
machine_of_run boots moves = machine_after (new_machine (new_servers 1 boots)) moves

-- whatever comes to a file behind a run, it draws few
abbrev pub StepsDrawFew : List ℕ → List Move → Type 0
StepsDrawFew boots moves =
    (n : ℕ) (f : MdsFile) (input : FileInput) → numbered_at (machine_of_run boots moves).files n ≡ Some f → DrawsFew (phase (file_id n) f input (fresh_of (machine_of_run boots moves)))

-- the next uid is at most the end of the uids
abbrev pub UidsEnd : List ℕ → List Move → Type 0
UidsEnd boots moves = (machine_of_run boots moves).next_uid ≤ end_of_uids
