use Rattle.std.proofs.Common.{◌≡◌, ℕ, List, ◌++◌}
use Rattle.std.specs.List.{AllByRecursion, flat_map}
use Rattle.ff_xdr.specs.Form.{Array, Fits, spelling}
use Rattle.ff_xdr.specs.Items.{contents}
use Rattle.ff_xdr.proofs.items.Items.put.Given as goal

-- what is written so far and what is left make the list's spelling
abbrev pub invariant-loop-value : goal.invariant-loop-value
invariant-loop-value g l =
    let form = g.T.Message.form in
    let rest = contents form g.T.Message.meaning l.value-iterator.rest in
    (goal.iterator-loop-value g).can_next l.value-iterator
    × (goal.iterator-loop-value g).is_finite l.value-iterator
    × AllByRecursion (Fits form) rest
    × ((text : List ℕ) × (l.out ≡ l.fn.out ++ text) × (text ++ flat_map (λ v. spelling form v) rest ≡ spelling (Array 0 form) (contents form g.T.Message.meaning l.self.place)))
