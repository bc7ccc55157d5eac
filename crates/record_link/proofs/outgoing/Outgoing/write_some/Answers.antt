use Rattle.std.proofs.Common.{◌≡◌, ℕ, ◌<◌, List, ◌++◌, length, drop, arith, refl, subst}
use Rattle.std.specs.List.{concat}
use Rattle.record_link.specs.Stream.{WritesStream}
use Rattle.record_link.proofs.PieceLemmas.{no_piece, tail_waits, some_went}
use Rattle.record_link.proofs.outgoing.Outgoing.write_some.Goals as goal

pub returns-in-None-clause-told : goal.returns-in-None-clause-told
returns-in-None-clause-told g c =
    subst (λ l. WritesStream (g.S.Stream.gone c.args.stream.now) l c.write-in-None.result (g.S.Stream.gone c.write-in-None.new.self))
    (tail_waits c.self.inside.pieces.items c.self.inside.tail.items c.deref-in-None.result.now c.args.self.now c.self.inside.start
    (no_piece c.self.inside.pieces.len c.self.inside.pieces.items c.self.inside.pieces.ok.0 c.in-None.ensures.variant.1) c.deref-in-None.ensures.value c.self.view_is)
    c.write-in-None.ensures.told

pub returns-in-Some-clause-told : goal.returns-in-Some-clause-told
returns-in-Some-clause-told g c =
    let some : 0 < length c.self.inside.pieces.items = omega (arith, c.self.inside.pieces.ok.0, c.in-Some.ensures.variant.0 refl) in
    let behind : (rest : List ℕ) × (concat (drop 1 c.self.inside.pieces.items) ++ c.self.inside.tail.items ≡ c.second-behind.result.now ++ rest)
    = subst (λ l. (rest : List ℕ) × (concat (drop 1 c.self.inside.pieces.items) ++ l ≡ c.second-behind.result.now ++ rest)) c.deref.ensures.value c.second-behind.ensures in
    some_went c.self.inside.pieces.items c.in-Some.first.now c.bytes.result.now c.self.inside.tail.items c.second-behind.result.now c.args.self.now c.self.inside.start c.self.inside.waiting
    (g.S.Stream.gone c.args.stream.now) (g.S.Stream.gone c.write.new.self) c.write.result
    some c.in-Some.ensures.lookup c.bytes.ensures c.self.invariant behind c.self.view_is c.write.ensures.within c.write.ensures.told
