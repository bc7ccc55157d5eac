use Rattle.std.proofs.Common.{ℕ, ◌<◌, sym, subst, arith}
use Rattle.std.proofs.lemmas.Grind.{common_steps}
use Rattle.line_runs.specs.Tasks.{EndsRun, IsAtLimit, ahead_of}
use Rattle.run_tests.specs.Repeats.{repeat_task}
use Rattle.run_tests.proofs.RepeatLemmas.{stops_again, goes_again}
use Rattle.run_tests.proofs.repeat_tests.RepeatLineTask.go_on.Goals as goal

pub returns-then-self-ge5-clause-does : goal.returns-then-self-ge5-clause-does
returns-then-self-ge5-clause-does c =
    let old = c.args.self.now in
    let some : 0 < old.left = grind (arith, common_steps) in
    λ midway number. subst (λ (n : ℕ). EndsRun (IsAtLimit n) (ahead_of number (repeat_task old.left old.byte old.printed)) c.args.text.now (repeat_task old.left old.byte old.printed) c.args.text.now) (sym c.from.ensures)
    (stops_again number old.left old.byte old.printed c.args.text.now some c.if-self-ge5.true)

pub returns-clause-does : goal.returns-clause-does
returns-clause-does c =
    let old = c.args.self.now in
    let some : 0 < old.left = grind (arith, common_steps) in
    let below : old.printed < 5 = grind (arith, common_steps) in
    λ midway number. goes_again number old.left old.byte old.printed c.args.text.now _ some below c.in_ok-raw.ensures
