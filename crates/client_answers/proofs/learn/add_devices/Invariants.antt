use Rattle.std.proofs.Common.{◌≡◌, ◌≤◌, drop}
use Rattle.std.specs.List.{flat_map}
use Rattle.std.specs.Option.{option_to_list}
use Rattle.client_answers.specs.ClientAnswers.{with_addresses}
use Rattle.client_answers.proofs.learn.add_devices.Given as goal

abbrev pub invariant-loop-address : goal.invariant-loop-address
invariant-loop-address l =
    (with_addresses l.devices (drop l.place l.servers) (flat_map option_to_list (drop l.address-index l.addresses)) ≡ with_addresses l.fn.devices l.servers (flat_map option_to_list l.addresses))
    × (l.place ≤ l.address-index)
