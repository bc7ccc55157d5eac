use Rattle.std.proofs.Common.{◌≡◌, ◌≤◌, ◌++◌, length, drop}
use Rattle.client_calls.specs.ClientCalls.{failed_mirrors}
use Rattle.client_calls.proofs.compounds.failed_mirrors.Given as goal

abbrev pub invariant-loop-place : goal.invariant-loop-place
invariant-loop-place l =
    (l.failed.items ++ failed_mirrors (drop l.place l.layout.mirrors) (drop l.place l.layout.statuses) ≡ failed_mirrors l.layout.mirrors l.layout.statuses)
    × (length l.failed.items ≤ l.place)
