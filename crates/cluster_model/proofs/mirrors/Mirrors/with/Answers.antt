use Rattle.std.proofs.Common.{◌≡◌, ◌+◌, Some, drop, map, sym, ap, ◌∷◌, ◌∙◌}
use Rattle.std.specs.Prelude.{slice_get}
use Rattle.cluster_model.specs.Phases.{put_if}
use Rattle.cluster_model.proofs.MirrorSteps.{adds, put_here, put_server}
use Rattle.cluster_model.proofs.mirrors.Mirrors.with.Goals as goal

pub loop-place-preserved : goal.loop-place-preserved
loop-place-preserved c =
    let ms = c.args.self.now in
    let i = c.loop-place.place in
    let m = c.in-Some.mirror in
    let is : slice_get ms i ≡ Some m = sym c.get.ensures ∙ c.in-Some.is in
    let rest = map (put_if c.args.old c.args.new) (drop (i + 1) ms) in
    let same = put_server c.args.old c.args.new m c.requires ∙ ap (λ n. n.id.server) (sym c.put_if.ensures) in
    adds ms c.loop-place.all c.add.new.self _ rest _ i m c.put_if.result c.add.result is same
    (put_here ms i m c.args.old c.args.new is ∙ ap (λ n. n ∷ rest) (sym c.put_if.ensures)) c.add.ensures.added c.add.ensures.list c.loop-place.invariant
