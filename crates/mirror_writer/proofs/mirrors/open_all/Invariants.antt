use Rattle.std.proofs.Common.{◌≡◌, map, take}
use Rattle.mirror_writer.specs.Writers.{new_mirror}
use Rattle.mirror_writer.specs.Rooms.{mirrors_shown}
use Rattle.mirror_writer.proofs.mirrors.open_all.Given as goal

abbrev pub invariant-loop-place : goal.invariant-loop-place
invariant-loop-place l = mirrors_shown l.all.items ≡ map new_mirror (take l.place l.mirrors)
