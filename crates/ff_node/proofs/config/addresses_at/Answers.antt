use Rattle.std.proofs.Common.{◌≡◌, ◌+◌, map, sym, subst, arith, List}
use Rattle.std.specs.List.{All}
use Rattle.serde_json.specs.View.{items_view}
use Rattle.std.proofs.Math.ListN.{take}
use Rattle.device_addr.specs.declared.net_addr.NetAddr.{NetAddr}
use Rattle.device_addr.specs.Universal.{IsAddress, address_value}
use Rattle.ff_node.specs.Config.{address_items}
use Rattle.ff_node.proofs.ConfigLemmas.{item_is, more_items, pushed}
use Rattle.ff_node.proofs.config.addresses_at.Goals as goal

pub returns-in_default : goal.returns-in_default
returns-in_default c = λ addresses all is.
    let one = item_is c.args.items.now addresses c.loop-item.item-index c.item-item.result (omega arith) c.item-item.is all is in
    c.in_default.ensures one.0 one.1 one.2

pub loop-item-preserved : goal.loop-item-preserved
loop-item-preserved c =
    let h = c.push.ensures.items in let k = c.is_err.ensures.value in
    let grown = pushed c.push.result c.loop-item.addresses.items c.push.new.self.items c.in-Some.address c.is_err.result c.push.ensures.items c.is_err.ensures.value c.if-is_err.false in
    let more = more_items c.args.items.now c.loop-item.addresses.items c.loop-item.item-index c.item-item.result c.in-Some.address (omega arith) c.item-item.is c.in-Some.ensures.0 c.in-Some.ensures.1 c.loop-item.invariant in
    subst (λ (ys : List NetAddr). All IsAddress (map address_value ys) × (items_view (take (c.loop-item.item-index + 1) c.args.items.now) ≡ address_items (map address_value ys))) (sym grown) more
