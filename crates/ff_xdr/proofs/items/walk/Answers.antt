use Rattle.std.proofs.Common.{◌≡◌, ◌∙◌, ◌++◌, ◌∷◌, [], Ok, arith}
use Rattle.ff_xdr.specs.Reading.{reading}
use Rattle.ff_xdr.proofs.Lists.{goes_on}
use Rattle.ff_xdr.proofs.items.walk.Goals as goal

pub loop-preserved : goal.loop-preserved
loop-preserved g c =
    let each = λ (place : _). reading g.T.Message.form c.args.cursor.now.bytes place in
    let v = g.T.Message.meaning c.in_ok-read.field-0 in
    let e : reading g.T.Message.form c.args.cursor.now.bytes c.loop.cursor.at ≡ Ok (v, c.read.new.cursor.at) = rw c.loop.invariant.0 at c.in_ok-read.ensures.0 in
    (c.in_ok-read.ensures.1 ∙ c.loop.invariant.0, (c.loop.invariant.1.0 ++ v ∷ [], goes_on each c.loop.invariant.1.0 _ _ _ v _ _ (omega arith) e c.loop.invariant.1.1))
