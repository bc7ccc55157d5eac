use Rattle.std.proofs.Common.{◌≡◌, ◌≤◌, ◌++◌, ℕ, map, take, drop, get_or}
use Rattle.mirror_writer.specs.Writers.{queued}
use Rattle.mirror_writer.specs.Rooms.{RoomyMirror, mirrors_shown}
use Rattle.mirror_writer.proofs.mirrors.queue_all.Given as goal

abbrev pub invariant-loop-mirror : goal.invariant-loop-mirror
invariant-loop-mirror l = record {
  shown : mirrors_shown l.mirror-items ≡ map (queued l.n) (take l.mirror-index (mirrors_shown l.fn.mirrors)) ++ drop l.mirror-index (mirrors_shown l.fn.mirrors);
  rest : (k : ℕ) (d : RoomyMirror) → l.mirror-index ≤ k → get_or l.mirror-items k d ≡ get_or l.fn.mirrors k d;
}
