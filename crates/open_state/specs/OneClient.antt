-- What a call of one client leaves of the opens of all.
use Rattle.std.specs.Prelude.{◌≡◌, ℕ, false, ◌==◌, List, [], filter}
use Rattle.cluster_model.specs.declared.ids.FileId.{FileId}
use Rattle.open_state.specs.declared.open.Open.{Open}
use Rattle.open_state.specs.Opens.{OpensValue, opens_of, open_of, is_other, given, opens_with, opened, closed, ended}

-- one client's opens have become these; no other's have changed
pub record HasOpens (old : OpensValue) (client : ℕ) (opens : List Open) (new : OpensValue) : Type 0 where
  pub its : opens_of new client ≡ opens
  pub others : (other : ℕ) → (other == client) ≡ false → opens_of new other ≡ opens_of old other

pub record OneClientLaw : Type 0 where
  pub opens : (s : OpensValue) (client : ℕ) (file : FileId)
      → HasOpens s client (opens_with (open_of s client file) (given (open_of s client file) file s.last) (opens_of s client)) (opened s client file)
  pub closes : (s : OpensValue) (client : ℕ) (file : FileId) → HasOpens s client (filter (is_other file) (opens_of s client)) (closed s client file)
  pub ends : (s : OpensValue) (client : ℕ) → HasOpens s client [] (ended s client)
