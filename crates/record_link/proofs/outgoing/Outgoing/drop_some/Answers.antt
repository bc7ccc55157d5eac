use Rattle.std.proofs.Common.{◌<◌, ◌≤◌, ◌-◌, length, arith, refl, ap}
use Rattle.record_link.proofs.PieceLemmas.{no_piece, tail_dropped, piece_dropped}
use Rattle.record_link.proofs.outgoing.Outgoing.drop_some.Goals as goal

pub invariant_of-self : goal.invariant_of-self
invariant_of-self c =
    tail_dropped c.self.inside.pieces.items c.self.inside.tail.items c.move_front-self-inside.new.bytes.items c.args.self.now c.self.inside.start c.self.inside.waiting c.args.count c.move_front-self-inside.result
    (no_piece c.self.inside.pieces.len c.self.inside.pieces.items c.self.inside.pieces.ok.0 c.in_default.ensures.variant.1) c.self.invariant c.self.view_is c.requires c.move_front-self-inside.ensures.stays c.move_front-self-inside.ensures.within

pub returns-clause-left : goal.returns-clause-left
returns-clause-left c =
    let some : 0 < length c.self.inside.pieces.items = omega (arith, c.self.inside.pieces.ok.0, c.in-Some.ensures.variant.0 refl) in
    let many : length c.in-Some.first.now - c.self.inside.start ≤ c.args.count = omega (arith, c.if-count-rest.false, ap length c.bytes.ensures) in
    rw c.bytes.ensures (piece_dropped c.self.inside.pieces.items c.pop_front.new.self.items c.in-Some.first.now c.self.inside.tail.items c.args.self.now c.self.inside.start c.self.inside.waiting c.args.count
    some c.in-Some.ensures.lookup c.pop_front.ensures.rest c.self.invariant c.self.view_is many)
