use Rattle.std.proofs.Common.{◌≡◌, drop}
use Rattle.std.specs.Prelude.{find}
use Rattle.mds_rule.specs.Answers.{is_failure_of}
use Rattle.served_files.proofs.writing.cause_at.Given as goal

abbrev pub invariant-loop-id : goal.invariant-loop-id
invariant-loop-id l = find (is_failure_of l.mirror.id) l.failures ≡ find (is_failure_of l.mirror.id) (drop l.id-index l.failures)
