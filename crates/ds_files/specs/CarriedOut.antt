-- What is done of a plan.
use Rattle.std.specs.Prelude.{◌≡◌, ℕ, ◌+◌, ◌-◌, List, [], ◌∷◌}
use Rattle.cluster_model.specs.declared.tick.Tick.{Tick}
use Rattle.cluster_model.specs.Ticks.{next_tick}
use Rattle.cluster_model.specs.File.{StoredFile}
use Rattle.cluster_model.specs.Server.{Effect, server_after}
use Rattle.ds_procedures.specs.declared.server_base.ServerBase.{ServerBase}
use Rattle.ds_procedures.specs.ServerBases.{IsServer, server_of}

-- what was to be done is done, and the server is one
pub record IsCarriedOut (h : ServerBase) (files : List StoredFile) (effect : Effect) (h' : ServerBase) (files' : List StoredFile) : Type 0 where
  pub state : server_of h' files' ≡ server_after (server_of h files) effect
  pub keeps : IsServer h' files'

-- the numbers after a WRITE, by the file's size before it and after it
abbrev pub clock_by : Tick → List ℕ → Tick
clock_by clock [] = clock
clock_by clock (b ∷ bytes) = next_tick clock

abbrev pub head_after : ServerBase → ℕ → ℕ → List ℕ → ServerBase
head_after h before after bytes = record h { clock = clock_by h.clock bytes; total = h.total - before + after }
