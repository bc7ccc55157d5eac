use Rattle.std.proofs.Common.{◌≡◌, drop}
use Rattle.std.specs.List.{position, position_from}
use Rattle.mirror_writer.specs.Writers.{is_call}
use Rattle.mirror_writer.proofs.mirrors.outstanding.Given as goal

abbrev pub invariant-loop-place : goal.invariant-loop-place
invariant-loop-place l = position (λ r. is_call l.xid r.mirror.call) l.mirrors ≡ position_from (λ r. is_call l.xid r.mirror.call) l.place (drop l.place l.mirrors)
