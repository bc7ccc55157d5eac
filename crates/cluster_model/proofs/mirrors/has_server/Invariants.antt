use Rattle.std.proofs.Common.{◌≡◌, false, take}
use Rattle.cluster_model.specs.Mirrors.{has_server, mirrors_in}
use Rattle.cluster_model.proofs.mirrors.has_server.Given as goal

abbrev pub invariant-loop-place : goal.invariant-loop-place
invariant-loop-place l = has_server (mirrors_in (take l.place-index l.places)) l.server ≡ false
