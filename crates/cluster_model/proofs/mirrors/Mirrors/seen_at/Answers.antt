use Rattle.std.proofs.Common.{◌≡◌, ◌+◌, Some, drop, sym, ap, ◌∷◌, ◌∙◌}
use Rattle.std.specs.Prelude.{slice_get}
use Rattle.cluster_model.specs.Phases.{seen_at}
use Rattle.cluster_model.proofs.MirrorSteps.{adds, seen_here, same_server}
use Rattle.cluster_model.proofs.mirrors.Mirrors.seen_at.Goals as goal

pub loop-place-preserved : goal.loop-place-preserved
loop-place-preserved c =
    let ms = c.args.self.now in
    let i = c.loop-place.place in
    let m = c.in-Some.mirror in
    let is : slice_get ms i ≡ Some m = sym c.get.ensures ∙ c.in-Some.is in
    let rest = seen_at c.args.id c.args.seen (drop (i + 1) ms) in
    let same = same_server m c.args.id c.args.seen ∙ ap (λ n. n.id.server) (sym c.seen_if.ensures) in
    adds ms c.loop-place.all c.add.new.self _ rest _ i m c.seen_if.result c.add.result is same
    (seen_here ms i m c.args.id c.args.seen is ∙ ap (λ n. n ∷ rest) (sym c.seen_if.ensures)) c.add.ensures.added c.add.ensures.list c.loop-place.invariant
