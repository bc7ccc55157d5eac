use Rattle.std.proofs.Common.{◌≡◌, ◌≤◌, ◌++◌, length, drop}
use Rattle.client_state.specs.ClientQueue.{unknown_in}
use Rattle.client_state.proofs.devices.unknown_in.Given as goal

abbrev pub invariant-loop-place : goal.invariant-loop-place
invariant-loop-place l = (l.servers.items ++ unknown_in l.devices (drop l.place l.mirrors) ≡ unknown_in l.devices l.mirrors) × (length l.servers.items ≤ l.place)
