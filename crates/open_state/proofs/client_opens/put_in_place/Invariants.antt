use Rattle.std.proofs.Common.{◌≡◌, ◌++◌, map, take, drop}
use Rattle.open_state.specs.Opens.{in_place}
use Rattle.open_state.proofs.client_opens.put_in_place.Given as goal

abbrev pub invariant-loop-other : goal.invariant-loop-other
invariant-loop-other l = l.other-items ≡ map (in_place l.given) (take l.other-index l.fn.opens) ++ drop l.other-index l.fn.opens
