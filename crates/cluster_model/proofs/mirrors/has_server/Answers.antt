use Rattle.std.proofs.Common.{sym}
use Rattle.cluster_model.proofs.MirrorLists.{on_server}
use Rattle.cluster_model.proofs.mirrors.has_server.Goals as goal

pub returns-in-loop-place : goal.returns-in-loop-place
returns-in-loop-place c = sym (on_server c.args.places.now c.loop-place.place-index c.args.server c.in-Some.mirror c.loop-place-test.true c.in-Some.is c.if-mirror-server.true)
