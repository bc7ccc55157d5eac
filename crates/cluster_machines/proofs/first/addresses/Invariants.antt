use Rattle.std.proofs.Common.{◌≡◌, length, map}
use Rattle.std.specs.List.{range_with_len}
use Rattle.device_addr.specs.Universal.{address_value}
use Rattle.world_rule.specs.Machines.{address_of}
use Rattle.cluster_machines.proofs.first.addresses.Given as goal

abbrev pub invariant-loop-index : goal.invariant-loop-index
invariant-loop-index l = record {
  values : map address_value l.servers.items ≡ map address_of (range_with_len 1 l.index);
  count : length l.servers.items ≡ l.index;
}
