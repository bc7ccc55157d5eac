use Rattle.std.proofs.Common.{◌≡◌}
use Rattle.std.specs.List.{AllWithin}
use Rattle.mirror_writer.specs.Rooms.{mirrors_shown, HasSpareRoom}
use Rattle.mirror_writer.proofs.mirrors.reserve_all.Given as goal

abbrev pub invariant-loop-mirror : goal.invariant-loop-mirror
invariant-loop-mirror l = record {
  same : mirrors_shown l.mirror-items ≡ mirrors_shown l.fn.mirrors;
  room : AllWithin HasSpareRoom l.mirror-items 0 l.mirror-index;
}
