use Rattle.std.proofs.Common.{sym, ◌∙◌}
use Rattle.cluster_model.proofs.MirrorLists.{is_there}
use Rattle.cluster_model.proofs.mirrors.has_mirror.Goals as goal

pub returns-in-loop-place : goal.returns-in-loop-place
returns-in-loop-place c = sym (is_there c.args.places.now c.loop-place.place-index c.args.id c.in-Some.mirror c.loop-place-test.true c.in-Some.is (sym c.eq.ensures ∙ c.if-eq.true))
