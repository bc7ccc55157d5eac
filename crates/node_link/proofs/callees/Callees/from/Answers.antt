use Rattle.std.proofs.Common.{◌≡◌, true, false, refl, sym, subst, ◌∙◌, arith}
use Rattle.std.specs.Prelude.{◌&&◌, ◌==◌}
use Rattle.node_link.specs.Callees.{is_connected_to, AreOnce}
use Rattle.node_link.proofs.CalleeLemmas.{turn, its_own, all_of, from_made, new_made, not_made_as}
use Rattle.node_link.proofs.callees.Callees.from.Goals as goal

pub returns-then-is_made_as : goal.returns-then-is_made_as
returns-then-is_made_as c =
    let same = c.deref-node-items.ensures.value ∙ c.self.view_is in
    from_made c.args.number c.args.self.now _ _ (its_own c.args.self.now c.deref-node-items.result.now c.loop-node.node-index same _ (omega arith) (subst AreOnce c.self.view_is c.self.invariant)) (sym c.is_made_as.ensures ∙ c.if-is_made_as.true)

pub loop-node-preserved : goal.loop-node-preserved
loop-node-preserved c =
    let same = c.deref-node-items.ensures.value ∙ c.self.view_is in
    turn c.args.self.now c.deref-node-items.result.now c.loop-node.node-index same (λ x. (is_connected_to x.0 && x.1 == c.args.number) ≡ false) _ (omega arith) (sym c.is_made_as.ensures ∙ c.if-is_made_as.false) c.loop-node.invariant

pub returns : goal.returns
returns c =
    let same = c.deref-node-items.ensures.value ∙ c.self.view_is in (
      refl,
      all_of c.args.self.now c.deref-node-items.result.now c.loop-node.node-index same (λ node callee. is_connected_to node ≡ true → callee ≡ c.args.number → c.args.number ≡ 0) (omega arith)
          (new_made c.args.number)
          (λ k below x at. not_made_as c.args.number x.0 x.1 (c.loop-node.invariant k below x at)),
    )
