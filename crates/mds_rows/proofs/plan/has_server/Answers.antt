use Rattle.std.proofs.Common.{sym, ◌∙◌}
use Rattle.mds_rows.proofs.PlanLemmas.{on_server}
use Rattle.mds_rows.proofs.plan.has_server.Goals as goal

pub returns-then-mirror-server : goal.returns-then-mirror-server
returns-then-mirror-server c = on_server c.args.live c.loop-place.place c.in-Some.mirror c.args.server (sym c.get.ensures ∙ c.in-Some.is) c.if-mirror-server.true
