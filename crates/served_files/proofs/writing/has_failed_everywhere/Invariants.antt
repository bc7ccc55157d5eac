use Rattle.std.proofs.Common.{◌≡◌, true, take}
use Rattle.std.specs.Prelude.{is_some}
use Rattle.std.specs.List.{list_all}
use Rattle.mds_rule.specs.Answers.{cause_at}
use Rattle.served_files.proofs.writing.has_failed_everywhere.Given as goal

abbrev pub invariant-loop-place : goal.invariant-loop-place
invariant-loop-place l = list_all (λ m. is_some (cause_at l.failures m)) (take l.place l.live) ≡ true
