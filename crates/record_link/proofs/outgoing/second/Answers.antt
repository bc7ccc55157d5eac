use Rattle.std.proofs.Common.{◌<◌, length, arith, refl}
use Rattle.record_link.proofs.PieceLemmas.{second_is}
use Rattle.record_link.proofs.outgoing.second.Goals as goal

pub returns-in-Some : goal.returns-in-Some
returns-in-Some c =
    let some : 1 < length c.args.pieces.now.items = omega (arith, c.args.pieces.now.ok.0, c.in-Some.ensures.variant.0 refl) in
    rw c.bytes.ensures (second_is c.args.pieces.now.items c.args.tail.now c.in-Some.piece.now some c.in-Some.ensures.lookup)
