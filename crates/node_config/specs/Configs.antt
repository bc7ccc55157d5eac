-- The configuration of a node, and its ranges.
use Rattle.std.specs.Prelude.{ℕ, ◌^◌, ◌<◌, ◌≤◌, List, length, map}
use Rattle.std.specs.List.{All}
use Rattle.device_addr.specs.Universal.{AddressValue, IsAddress, address_value}
use Rattle.node_config.specs.declared.config.TheConstants.{MAX_MIRRORS, MAX_NUMBER, MAX_SERVERS}
use Rattle.node_config.specs.declared.config.Config.{Config}

pub record ConfigValue : Type 0 where
  pub servers : List AddressValue
  pub mds : AddressValue
  pub mirrors : ℕ
  pub own : ℕ
  pub turns : ℕ

-- the ranges: 1 to 16 servers; 1 to 4 mirrors, no more than the servers; 1 to 256; 1 to 4,294,967,295
pub record IsInRange (c : ConfigValue) : Type 0 where
  pub addresses : All IsAddress c.servers
  pub mds_address : IsAddress c.mds
  pub some : 1 ≤ length c.servers
  pub few : length c.servers ≤ MAX_SERVERS
  pub mirrored : 1 ≤ c.mirrors
  pub mirrors_few : c.mirrors ≤ MAX_MIRRORS
  pub mirrors_within : c.mirrors ≤ length c.servers
  pub own_some : 1 ≤ c.own
  pub own_few : c.own ≤ MAX_NUMBER
  pub turns_some : 1 ≤ c.turns
  pub turns_few : c.turns < 2 ^ 32

-- the value of a configuration of the code
abbrev pub config_value : Config → ConfigValue
config_value c = record { servers = map address_value c.servers.items; mds = address_value c.mds; mirrors = c.mirrors; own = c.own; turns = c.turns }
