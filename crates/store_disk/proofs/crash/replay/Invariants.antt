use Rattle.std.proofs.Common.{take}
use Rattle.store_disk.specs.MemoryDisks.{life_after}
use Rattle.store_disk.specs.Crashes.{Tracks}
use Rattle.store_disk.proofs.crash.replay.Given as goal

abbrev pub invariant-loop-call : goal.invariant-loop-call
invariant-loop-call l = Tracks l.tear (life_after l.start (take l.call-index l.calls)) l.seen.items l.left.items
