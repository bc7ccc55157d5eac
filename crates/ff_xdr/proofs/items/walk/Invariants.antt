use Rattle.std.proofs.Common.{◌≡◌, ◌-◌, List}
use Rattle.ff_xdr.specs.Form.{Value}
use Rattle.ff_xdr.specs.Reading.{many_at, reading}
use Rattle.ff_xdr.proofs.Lists.{with_front}
use Rattle.ff_xdr.proofs.items.walk.Given as goal

abbrev pub invariant-loop : goal.invariant-loop
invariant-loop g l =
    (l.cursor.bytes ≡ l.initial.cursor.bytes) × ((front : List (Value g.T.Message.form))
    × (with_front front (many_at (λ place. reading g.T.Message.form l.initial.cursor.bytes place) (l.count - l.counter) l.cursor.at)
    ≡ many_at (λ place. reading g.T.Message.form l.initial.cursor.bytes place) l.count l.initial.cursor.at))
