use Rattle.std.proofs.Common.{◌≡◌, false, take}
use Rattle.std.specs.List.{list_any}
use Rattle.mirror_writer.specs.Writers.{is_call}
use Rattle.mirror_writer.proofs.mirrors.some_out.Given as goal

abbrev pub invariant-loop-mirror : goal.invariant-loop-mirror
invariant-loop-mirror l = list_any (λ r. is_call l.xid r.mirror.call) (take l.mirror-index l.mirrors) ≡ false
