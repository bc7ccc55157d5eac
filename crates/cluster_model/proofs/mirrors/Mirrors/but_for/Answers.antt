use Rattle.std.proofs.Common.{◌≡◌, Some, sym, refl, ◌∙◌}
use Rattle.std.specs.Prelude.{slice_get}
use Rattle.cluster_model.proofs.MirrorSteps.{skips, adds, but_for_this, but_for_other}
use Rattle.cluster_model.proofs.mirrors.Mirrors.but_for.Goals as goal

pub loop-place-preserved-then-eq : goal.loop-place-preserved-then-eq
loop-place-preserved-then-eq c =
    let ms = c.args.self.now in
    let i = c.loop-place.place in
    let m = c.in-Some.mirror in
    let is : slice_get ms i ≡ Some m = sym c.get.ensures ∙ c.in-Some.is in
    skips ms c.loop-place.kept _ _ _ i m is (but_for_this ms i m c.args.id is (sym c.eq.ensures ∙ c.if-eq.true)) c.loop-place.invariant

pub loop-place-preserved : goal.loop-place-preserved
loop-place-preserved c =
    let ms = c.args.self.now in
    let i = c.loop-place.place in
    let m = c.in-Some.mirror in
    let is : slice_get ms i ≡ Some m = sym c.get.ensures ∙ c.in-Some.is in
    adds ms c.loop-place.kept c.add.new.self _ _ _ i m m c.add.result is refl (but_for_other ms i m c.args.id is (sym c.eq.ensures ∙ c.if-eq.false))
    c.add.ensures.added c.add.ensures.list c.loop-place.invariant
