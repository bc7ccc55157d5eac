use Rattle.std.proofs.Common.{◌≡◌, ◌<◌, [], ◌∷◌, ◌++◌, length, None, refl, sym, ◌∙◌, arith}
use Rattle.indexmap.proofs.CallerLemmas.{insert_entry-new}
use Rattle.device_addr.specs.Table.{device_at, IsDeviceTable}
use Rattle.device_addr.proofs.TableLemmas.{found, there, not_there, when_ok, table_push}
use Rattle.device_addr.proofs.table.DeviceTable.add.Goals.{Else-is_err}
use Rattle.device_addr.proofs.table.DeviceTable.add.Goals as goal

pub returns-then-contains_key-clause-adds : goal.returns-then-contains_key-clause-adds
returns-then-contains_key-clause-adds c =
    rw (← c.self.view_is) (there c.self.inside.devices.entries c.args.id c.contains_key.result c.contains_key.ensures c.if-contains_key.true, refl)

pub returns-then-len-ge-MAX_DEVICES-clause-adds : goal.returns-then-len-ge-MAX_DEVICES-clause-adds
returns-then-len-ge-MAX_DEVICES-clause-adds c =
    let full : length c.self.inside.devices.entries ≡ 16 = omega (arith, c.if-len-ge-MAX_DEVICES.true, c.len.ensures.len, c.self.invariant.few) in
    rw (← c.self.view_is) (not_there c.self.inside.devices.entries c.args.id c.contains_key.result c.contains_key.ensures c.if-contains_key.false, full, refl)

pub returns-then-is_err-clause-wanted : goal.returns-then-is_err-clause-wanted
returns-then-is_err-clause-wanted c = λ wanted.
    let room : length c.self.inside.devices.entries < 16 = omega (arith, c.if-len-ge-MAX_DEVICES.false, c.len.ensures.len) in
    rw (← c.self.view_is) (not_there c.self.inside.devices.entries c.args.id c.contains_key.result c.contains_key.ensures c.if-contains_key.false, room)

-- where the device was added, it was not there
absent : (c : Else-is_err) → device_at c.self.inside.devices.entries c.args.id ≡ None
absent c = not_there c.self.inside.devices.entries c.args.id c.contains_key.result c.contains_key.ensures c.if-contains_key.false

-- there was room
room : (c : Else-is_err) → length c.self.inside.devices.entries < 16
room c = omega (arith, c.if-len-ge-MAX_DEVICES.false, c.len.ensures.len)

-- and it is the last now
last : (c : Else-is_err) → c.insert.new.self.entries ≡ c.self.inside.devices.entries ++ (c.args.id, c.args.address) ∷ []
last c =
    when_ok c.insert.result _ (sym c.is_err.ensures.value ∙ c.if-is_err.false) c.insert.ensures.entries
    ∙ insert_entry-new _ c.self.inside.devices c.args.id c.args.address (found c.self.inside.devices.entries c.args.id ∙ absent c)

proper : (c : Else-is_err) → IsDeviceTable c.insert.new.self.entries
proper c = table_push c.self.inside.devices.entries c.insert.new.self.entries c.args.id c.args.address c.self.invariant (absent c) (room c) (last c)

pub invariant_of-self-2 : goal.invariant_of-self-2
invariant_of-self-2 = proper

pub returns-clause-adds : goal.returns-clause-adds
returns-clause-adds c = rw (← c.self.view_is) (absent c, room c, last c)

pub returns-clause-proper : goal.returns-clause-proper
returns-clause-proper = proper
