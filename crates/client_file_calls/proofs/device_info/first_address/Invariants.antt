use Rattle.std.proofs.Common.{◌≡◌}
use Rattle.ff_xdr.specs.Items.{contents}
use Rattle.nfs4_types.specs.Texts.{netaddr4}
use Rattle.device_addr.specs.NetText.{netaddr4_value}
use Rattle.client_file_calls.specs.MdsDevices.{first_address}
use Rattle.client_file_calls.proofs.device_info.first_address.Given as goal

-- the first of all addresses is the first of those that are left
abbrev pub invariant-loop-address : goal.invariant-loop-address
invariant-loop-address l =
    (goal.iterator-loop-address).can_next l.address-iterator
    × (goal.iterator-loop-address).is_finite l.address-iterator
    × (first_address (contents netaddr4 netaddr4_value l.address-iterator.rest) ≡ first_address (contents netaddr4 netaddr4_value l.fn.addresses.place))
