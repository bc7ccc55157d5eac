use Rattle.std.specs.Prelude.{◌↔◌}
use Rattle.std.specs.List.{AllByRecursion}
use Rattle.ff_xdr.specs.Form.{Fits}
use Rattle.ff_xdr.specs.Items.{contents}
use Rattle.ff_xdr.proofs.items.Items.fits.Given as goal

-- all values fit exactly where those that are left do
abbrev pub invariant-loop-value : goal.invariant-loop-value
invariant-loop-value g l =
    let form = g.T.Message.form in
    (goal.iterator-loop-value g).can_next l.value-iterator
    × (goal.iterator-loop-value g).is_finite l.value-iterator
    × (AllByRecursion (Fits form) (contents form g.T.Message.meaning l.value-iterator.rest) ↔ AllByRecursion (Fits form) (contents form g.T.Message.meaning l.self.place))
