use Rattle.std.proofs.Common.{◌≡◌, ℕ, ◌+◌, length, arith, Some, None, Ok, Err, sym, subst, ap, ◌∙◌}
use Rattle.std.proofs.lemmas.Result.{err_from_is_err_and}
use Rattle.rpc_record.specs.declared.stream.Failed.{Failed}
use Rattle.line_runs.specs.declared.lines.Ended.{Ended}
use Rattle.line_runs.specs.declared.end.RunEnd.TheVariants.{ReadFault, NoMemory, Limit}
use Rattle.line_runs.specs.Lines.{ReadsLine}
use Rattle.line_runs.specs.Playback.{RunState, stand, at_line, PlaybackSteps, LastPlays, LinePlays}
use Rattle.line_runs.proofs.RunLemmas.{flushes, flush_fails, read_fault, read_memory, read_over, read_last, read_ended}
use Rattle.line_runs.specs.Leads.{task_closing}
use Rattle.line_runs.proofs.EndLemmas.{of_line_written}
use Rattle.line_runs.proofs.LeadLemmas.{run_got, writes, stands_waits}
use Rattle.line_runs.proofs.playback.Playback.next.Goals as goal

pub returns-in_err-flush-clause-told : goal.returns-in_err-flush-clause-told
returns-in_err-flush-clause-told g c =
    let p = err_from_is_err_and c.from_residual.result c.from_residual.ensures.1 in
    let task = g.T.LineTask.value c.args.task.now in
    λ fresh. flush_fails (g.S.Source.left c.args.source.now) (g.K.Sink.held c.args.sink.now) (g.K.Sink.held c.flush.new.sink) task (stand task c.args.self.now) _ c.flush.result c.from_residual.result _ p.0 c.in_err-flush.was p.1 c.flush.ensures.told

pub returns-then-not-holds_line-clause-told : goal.returns-then-not-holds_line-clause-told
returns-then-not-holds_line-clause-told g c =
    let left = g.S.Source.left c.args.source.now in
    let held = g.K.Sink.held c.args.sink.now in
    let held' = g.K.Sink.held c.flush.new.sink in
    let task = g.T.LineTask.value c.args.task.now in
    let s = stand task c.args.self.now in
    λ fresh. subst (λ (t : RunState). PlaybackSteps left held s (Ok None) left held' task (stand task t)) (sym c.in_ok-flush.ensures.ok) (flushes left held held' task c.args.self.now c.flush.result c.in_ok-flush.field-0 c.in_ok-flush.was c.flush.ensures.told)

pub returns-in-Err-Fault-clause-told : goal.returns-in-Err-Fault-clause-told
returns-in-Err-Fault-clause-told g c =
    let left = g.S.Source.left in
    let held = g.K.Sink.held c.args.sink.now in
    let task = g.T.LineTask.value c.args.task.now in
    let old = c.args.self.now in
    let new = c.read_line.new.self in
    let line = c.read_line.new.line.items in
    let read = subst (λ (e : Failed). ReadsLine old.room old.held (left c.args.source.now) (Err e) line new.held (left c.read_line.new.source)) c.in-Err-Fault.field-0-is c.in-Err-Fault.ensures.told in
    λ fresh. subst (λ (t : RunState). PlaybackSteps (left c.args.source.now) held (stand task old) (Ok (Some ReadFault)) (left c.read_line.new.source) held task (stand task t)) (sym c.read_line.ensures.rest)
    (read_fault (left c.args.source.now) held (left c.read_line.new.source) (stand task old) task line new.held (g.met.T.LineTask.ends c.args.task.now _ fresh) read)

pub returns-in-Err-NoMemory-clause-told : goal.returns-in-Err-NoMemory-clause-told
returns-in-Err-NoMemory-clause-told g c =
    let left = g.S.Source.left in
    let held = g.K.Sink.held c.args.sink.now in
    let task = g.T.LineTask.value c.args.task.now in
    let old = c.args.self.now in
    let new = c.read_line.new.self in
    let line = c.read_line.new.line.items in
    let read = subst (λ (e : Failed). ReadsLine old.room old.held (left c.args.source.now) (Err e) line new.held (left c.read_line.new.source)) c.in-Err-NoMemory.field-0-is c.in-Err-NoMemory.ensures.told in
    λ fresh. subst (λ (t : RunState). PlaybackSteps (left c.args.source.now) held (stand task old) (Ok (Some NoMemory)) (left c.read_line.new.source) held task (stand task t)) (sym c.read_line.ensures.rest)
    (read_memory (left c.args.source.now) held (left c.read_line.new.source) (stand task old) task line new.held read)

pub returns-in-Ok-PastBudget-clause-told : goal.returns-in-Ok-PastBudget-clause-told
returns-in-Ok-PastBudget-clause-told g c =
    let left = g.S.Source.left in
    let held = g.K.Sink.held c.args.sink.now in
    let task = g.T.LineTask.value c.args.task.now in
    let old = c.args.self.now in
    let new = c.read_line.new.self in
    let line = c.read_line.new.line.items in
    let read = subst (λ (ended : Ended). ReadsLine old.room old.held (left c.args.source.now) (Ok ended) line new.held (left c.read_line.new.source)) c.in-Ok-PastBudget.field-0-is c.in-Ok-PastBudget.ensures.told in
    λ fresh. subst (λ (t : RunState). PlaybackSteps (left c.args.source.now) held (stand task old) (Ok (Some (Limit c.count.result))) (left c.read_line.new.source) held task (stand task t)) (sym c.read_line.ensures.rest)
    (read_over (left c.args.source.now) held (left c.read_line.new.source) (stand task old) task line new.held c.count.result (g.met.T.LineTask.ends c.args.task.now _ fresh) c.count.ensures read)

pub returns-in-Ok-End-clause-told : goal.returns-in-Ok-End-clause-told
returns-in-Ok-End-clause-told g c =
    let left = g.S.Source.left in
    let held = g.K.Sink.held in
    let was = g.T.LineTask.value c.args.task.now in
    let task = g.T.LineTask.value c.play_last.new.task in
    let old = c.args.self.now in
    let held1 = c.read_line.new.self.held in
    let line = c.read_line.new.line.items in
    let read = subst (λ (ended : Ended). ReadsLine old.room old.held (left c.args.source.now) (Ok ended) line held1 (left c.read_line.new.source)) c.in-Ok-End.field-0-is c.in-Ok-End.ensures.told in
    let plays = rw c.deref.ensures.value at c.play_last.ensures.told in
    let new = stand task c.play_last.new.self in
    λ fresh. read_last (left c.args.source.now) (held c.args.sink.now) (held c.play_last.new.sink) (left c.read_line.new.source) (stand was old) new was task line held1 c.play_last.result
    (g.met.T.LineTask.ends c.args.task.now _ fresh) (λ done. g.met.T.LineTask.ends c.play_last.new.task _ (c.play_last.ensures.rests fresh done)) read
    (subst (λ (t : RunState). LastPlays (held c.args.sink.now) line was (stand was t) c.play_last.result (held c.play_last.new.sink) task new) c.read_line.ensures.rest (plays fresh))

pub returns-in-Ok-Newline-clause-told : goal.returns-in-Ok-Newline-clause-told
returns-in-Ok-Newline-clause-told g c =
    let left = g.S.Source.left in
    let held = g.K.Sink.held in
    let was = g.T.LineTask.value c.args.task.now in
    let task = g.T.LineTask.value c.play_line.new.task in
    let old = c.args.self.now in
    let held1 = c.read_line.new.self.held in
    let line = c.read_line.new.line.items in
    let read = subst (λ (ended : Ended). ReadsLine old.room old.held (left c.args.source.now) (Ok ended) line held1 (left c.read_line.new.source)) c.in-Ok-Newline.field-0-is c.in-Ok-Newline.ensures.told in
    let plays = rw c.deref-in-Ok-Newline.ensures.value at c.play_line.ensures.told in
    let new = stand task c.play_line.new.self in
    let size : c.len.result ≡ length line = omega (arith, c.read_line.new.line.ok.0, c.len.ensures) in
    λ fresh. read_ended (left c.args.source.now) (held c.args.sink.now) (left c.read_line.new.source) (held c.play_line.new.sink) (stand was old) new task line held1 c.play_line.result read
    (subst (λ (t : RunState). LinePlays (held c.args.sink.now) (at_line (length line + 1) line (stand was t)) c.play_line.result (held c.play_line.new.sink) task new) c.read_line.ensures.rest
    (subst (λ (n : ℕ). LinePlays (held c.args.sink.now) (at_line (n + 1) line (stand was c.read_line.new.self)) c.play_line.result (held c.play_line.new.sink) task new) size (plays fresh)))

pub returns-in-Err-Fault-clause-written : goal.returns-in-Err-Fault-clause-written
returns-in-Err-Fault-clause-written g c = ap (λ (s : RunState). s.text) c.read_line.ensures.rest ∙ c.in-Err-Fault.ensures.asks (ap (λ (e : Failed). Err e) c.in-Err-Fault.field-0-is)

pub returns-in-Ok-End-clause-written : goal.returns-in-Ok-End-clause-written
returns-in-Ok-End-clause-written g c = of_line_written c.play_last.result c.play_last.new.self.text c.play_last.ensures.ends

pub returns-in-Ok-Newline-clause-written : goal.returns-in-Ok-Newline-clause-written
returns-in-Ok-Newline-clause-written g c = of_line_written c.play_line.result c.play_line.new.self.text c.play_line.ensures.ends

pub returns-in_err-flush-clause-stands : goal.returns-in_err-flush-clause-stands
returns-in_err-flush-clause-stands g c fresh start base so =
    let held = g.K.Sink.held in
    let leads = g.T.LineTask.leads start in
    let closing = task_closing g.T.LineTask.value in
    let p = err_from_is_err_and c.from_residual.result c.from_residual.ensures.1 in
    run_got leads closing base (held c.flush.new.sink) c.args.task.now c.flush.new.self.text c.from_residual.result p.0 p.1
    (writes leads closing base (held c.args.sink.now) (held c.flush.new.sink) c.args.self.now.text c.flush.result (stands_waits leads closing base (held c.args.sink.now) c.args.task.now c.args.self.now.text so) c.flush.ensures.told)
