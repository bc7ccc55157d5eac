use Rattle.client_mds_calls.proofs.record.put_args.Goals as goal

pub returns-in-OnSlot : goal.returns-in-OnSlot
returns-in-OnSlot c = rw (c.in-OnSlot.is) c.put_on_slot.ensures
