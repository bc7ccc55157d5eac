use Rattle.std.proofs.Common.{◌≡◌, replicate}
use Rattle.nfs4_session.specs.Slots.{new_slot}
use Rattle.nfs4_session.proofs.session.new_slots.Given as goal

abbrev pub invariant-loop : goal.invariant-loop
invariant-loop l = l.slots.items ≡ replicate l.counter new_slot
