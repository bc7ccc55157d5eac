use Rattle.std.proofs.Common.{◌≡◌, drop}
use Rattle.std.specs.Prelude.{find}
use Rattle.open_state.specs.Opens.{is_of}
use Rattle.open_state.proofs.client_opens.found.Given as goal

abbrev pub invariant-loop-open : goal.invariant-loop-open
invariant-loop-open l = find (is_of l.file) l.opens ≡ find (is_of l.file) (drop l.open-index l.opens)
