use Rattle.std.proofs.Common.{◌≡◌, false, take}
use Rattle.cluster_model.specs.Mirrors.{mirrors_in}
use Rattle.cluster_model.specs.Phases.{is_one_of}
use Rattle.cluster_model.proofs.mirrors.has_mirror.Given as goal

abbrev pub invariant-loop-place : goal.invariant-loop-place
invariant-loop-place l = is_one_of l.id (mirrors_in (take l.place-index l.places)) ≡ false
