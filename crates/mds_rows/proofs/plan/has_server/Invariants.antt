use Rattle.std.proofs.Common.{◌≡◌, false, take}
use Rattle.cluster_model.specs.Mirrors.{has_server}
use Rattle.mds_rows.proofs.plan.has_server.Given as goal

abbrev pub invariant-loop-place : goal.invariant-loop-place
invariant-loop-place l = has_server (take l.place l.live) l.server ≡ false
