use Rattle.std.proofs.Common.{◌≡◌, ◌+◌, ◌≤◌, length, drop}
use Rattle.client_state.specs.ClientQueue.{unknown_in}
use Rattle.client_state.proofs.devices.count_unknown.Given as goal

abbrev pub invariant-loop-place : goal.invariant-loop-place
invariant-loop-place l = (l.count + length (unknown_in l.devices (drop l.place l.mirrors)) ≡ length (unknown_in l.devices l.mirrors)) × (l.count ≤ l.place)
