use Rattle.std.proofs.Common.{◌+◌}
use Rattle.line_runs.specs.Tasks.{ahead_of, on_line}
use Rattle.line_runs.proofs.LeadLemmas.{cut_off, prints_nothing}
use Rattle.line_runs.proofs.playback.Playback.begin.Goals as goal

pub returns-in-Err-clause-kept : goal.returns-in-Err-clause-kept
returns-in-Err-clause-kept g c =
    let inside = c.self.inside in
    rw (← c.self.view_is) (λ fresh.
    cut_off (on_line c.args.line.now (ahead_of (inside.begun + 1) (g.T.LineTask.value c.args.task.now))) inside.text c.play.new.text c.truncate.new.self c.len-before.result c.len-before.ensures (c.in-Err.ensures.does fresh (inside.begun + 1)) c.truncate.ensures)

pub returns-in-Err-clause-does : goal.returns-in-Err-clause-does
returns-in-Err-clause-does g c fresh =
    let old = on_line c.args.line.now (ahead_of (c.args.self.now.begun + 1) (g.T.LineTask.value c.args.task.now)) in
    prints_nothing old c.args.self.now.text c.truncate.new.self (returns-in-Err-clause-kept g c fresh)
