-- The data servers of a cluster.
use Rattle.std.specs.Prelude.{ℕ, List}
use Rattle.device_addr.specs.Universal.{AddressValue}

-- their addresses, by their numbers from 1, and how many mirrors a new file is to have
pub record ServersValue : Type 0 where
  pub addresses : List AddressValue
  pub mirrors : ℕ
