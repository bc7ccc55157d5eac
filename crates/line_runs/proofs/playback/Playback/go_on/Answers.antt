use Rattle.std.proofs.Common.{Ok, subst}
use Rattle.line_runs.specs.Tasks.{ahead_of, StepsFrom}
use Rattle.line_runs.specs.Playback.{RunState}
use Rattle.line_runs.proofs.LeadLemmas.{cut_off, prints_nothing}
use Rattle.line_runs.proofs.playback.Playback.go_on.Goals as goal

pub returns-in-Ok-clause-does : goal.returns-in-Ok-clause-does
returns-in-Ok-clause-does g c midway number =
    let value = g.T.LineTask.value in
    subst (λ (s : RunState). StepsFrom number (ahead_of number (value c.args.task.now)) s.text (Ok c.in-Ok.step) (value c.go_on.new.self) c.go_on.new.text) c.self.view_is (c.in-Ok.ensures.does midway number)

pub returns-in-Err-clause-kept : goal.returns-in-Err-clause-kept
returns-in-Err-clause-kept g c =
    rw (← c.self.view_is) (λ midway.
    cut_off (ahead_of 0 (g.T.LineTask.value c.args.task.now)) c.self.inside.text c.go_on.new.text c.truncate.new.self c.len-before.result c.len-before.ensures (c.in-Err.ensures.does midway 0) c.truncate.ensures)

pub returns-in-Err-clause-does : goal.returns-in-Err-clause-does
returns-in-Err-clause-does g c midway number =
    prints_nothing (ahead_of number (g.T.LineTask.value c.args.task.now)) c.args.self.now.text c.truncate.new.self (returns-in-Err-clause-kept g c midway)
