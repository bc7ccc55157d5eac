use Rattle.std.proofs.Common.{◌≡◌, ◌+◌, map, drop}
use Rattle.device_addr.specs.Universal.{address_value}
use Rattle.mds_rule.specs.LayoutOps.{device_from}
use Rattle.mds_state.proofs.servers.address_of.Given as goal

abbrev pub invariant-loop-place : goal.invariant-loop-place
invariant-loop-place l = device_from 1 (map address_value l.addresses) l.device.0 ≡ device_from (l.place + 1) (map address_value (drop l.place l.addresses)) l.device.0
