use Rattle.std.proofs.Common.{◌≡◌, ◌<◌, ◌≤◌, length, true, false, Some, sym, refl, ◌∙◌, arith}
use Rattle.std.specs.Prelude.{slice_get}
use Rattle.std.proofs.lemmas.Bool.{and_parts}
use Rattle.cluster_model.proofs.MirrorLists.{le_from_test}
use Rattle.cluster_model.proofs.MirrorSteps.{skips, adds, unreported_here}
use Rattle.cluster_model.proofs.mirrors.Mirrors.unreported.Goals as goal

pub loop-place-preserved-then-reported-place : goal.loop-place-preserved-then-reported-place
loop-place-preserved-then-reported-place c =
    let ms = c.args.self.now in
    let i = c.loop-place.place in
    let m = c.in-Some.mirror in
    let places = c.args.reported.now.places in
    let is : slice_get ms i ≡ Some m = sym c.get.ensures ∙ c.in-Some.is in
    let four : length places ≡ 4 = c.type_inv.reported.0.1.0.1 in
    let few : length ms ≤ 4 = le_from_test _ (and_parts _ _ c.len-place-end.ensures.mirrors).0 in
    let within : i < length places = omega (arith, four, few, c.loop-place-test.true, c.len-place-end.ensures.count) in
    skips ms c.loop-place.kept _ _ _ i m is (unreported_here ms places i m true is within c.if-reported-place.true) c.loop-place.invariant

pub loop-place-preserved : goal.loop-place-preserved
loop-place-preserved c =
    let ms = c.args.self.now in
    let i = c.loop-place.place in
    let m = c.in-Some.mirror in
    let places = c.args.reported.now.places in
    let is : slice_get ms i ≡ Some m = sym c.get.ensures ∙ c.in-Some.is in
    let four : length places ≡ 4 = c.type_inv.reported.0.1.0.1 in
    let few : length ms ≤ 4 = le_from_test _ (and_parts _ _ c.len-place-end.ensures.mirrors).0 in
    let within : i < length places = omega (arith, four, few, c.loop-place-test.true, c.len-place-end.ensures.count) in
    adds ms c.loop-place.kept c.add.new.self _ _ _ i m m c.add.result is refl (unreported_here ms places i m false is within c.if-reported-place.false)
    c.add.ensures.added c.add.ensures.list c.loop-place.invariant
