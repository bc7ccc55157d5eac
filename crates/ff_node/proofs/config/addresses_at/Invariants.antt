use Rattle.std.proofs.Common.{◌≡◌, map, take}
use Rattle.std.specs.List.{All}
use Rattle.serde_json.specs.View.{items_view}
use Rattle.device_addr.specs.Universal.{IsAddress, address_value}
use Rattle.ff_node.specs.Config.{address_items}
use Rattle.ff_node.proofs.config.addresses_at.Given as goal

abbrev pub invariant-loop-item : goal.invariant-loop-item
invariant-loop-item l =
    All IsAddress (map address_value l.addresses.items) × (items_view (take l.item-index l.items) ≡ address_items (map address_value l.addresses.items))
