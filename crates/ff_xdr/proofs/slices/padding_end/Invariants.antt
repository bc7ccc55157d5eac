use Rattle.std.proofs.Common.{◌≡◌, ◌-◌, ◌≤◌, length}
use Rattle.ff_xdr.specs.Reading.{padding_at}
use Rattle.ff_xdr.proofs.slices.padding_end.Given as goal

abbrev pub invariant-loop : goal.invariant-loop
invariant-loop l = (l.place ≤ length l.bytes) × (padding_at (l.count - l.counter) l.bytes l.place ≡ padding_at l.count l.bytes l.at)
