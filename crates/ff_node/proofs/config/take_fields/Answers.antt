use Rattle.device_addr.proofs.AddressLemmas.{when_none}
use Rattle.ff_node.proofs.ConfigLemmas.{no_fourth, no_fifth, all_five}
use Rattle.ff_node.proofs.config.take_fields.Goals as goal

pub returns-in_err-take_member-4 : goal.returns-in_err-take_member-4
returns-in_err-take_member-4 c =
    when_none _ _ c.from_residual-in_err-take_member-4.result c.from_residual-in_err-take_member-4.ensures
    (no_fourth _ _ _ _ _ _ _ c.in_ok-take_member.ensures c.in_ok-take_member-2.ensures c.in_ok-take_member-3.ensures c.in_err-take_member-4.ensures)

pub returns-in_err-take_member-5 : goal.returns-in_err-take_member-5
returns-in_err-take_member-5 c =
    when_none _ _ c.from_residual-in_err-take_member-5.result c.from_residual-in_err-take_member-5.ensures
    (no_fifth _ _ _ _ _ _ _ _ _ c.in_ok-take_member.ensures c.in_ok-take_member-2.ensures c.in_ok-take_member-3.ensures c.in_ok-take_member-4.ensures c.in_err-take_member-5.ensures)

pub returns : goal.returns
returns c =
    all_five _ _ _ _ _ _ _ _ _ _ _ c.in_ok-take_member.ensures c.in_ok-take_member-2.ensures c.in_ok-take_member-3.ensures c.in_ok-take_member-4.ensures c.in_ok-take_member-5.ensures
