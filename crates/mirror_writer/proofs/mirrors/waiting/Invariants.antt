use Rattle.std.proofs.Common.{◌≡◌, drop}
use Rattle.std.specs.List.{position, position_from}
use Rattle.mirror_writer.specs.Writers.{is_some_call, next_at}
use Rattle.mirror_writer.proofs.mirrors.waiting.Given as goal

abbrev pub invariant-loop-place : goal.invariant-loop-place
invariant-loop-place l = position (λ r. is_some_call (next_at l.wants_commit r.mirror)) l.mirrors ≡ position_from (λ r. is_some_call (next_at l.wants_commit r.mirror)) l.place (drop l.place l.mirrors)
