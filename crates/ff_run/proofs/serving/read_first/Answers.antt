use Rattle.std.proofs.Common.{[], ◌+◌, Ok, Err, refl, subst}
use Rattle.rpc_record.specs.declared.stream.Failed.{Failed}
use Rattle.line_runs.specs.declared.lines.Ended.{Ended}
use Rattle.line_runs.specs.Lines.{ReadsLine}
use Rattle.ff_node.specs.Config.{max_line}
use Rattle.ff_run.specs.Node.{task_command}
use Rattle.ff_run.proofs.ServeLemmas.{first_newline, first_over, reads_first, draws_newline, draws_end, draws_over, draws_fault, draws_wanted, rest_newline, rest_end}
use Rattle.ff_run.proofs.serving.read_first.Goals as goal

pub returns-in-Ok-PastBudget-clause-told : goal.returns-in-Ok-PastBudget-clause-told
returns-in-Ok-PastBudget-clause-told g c =
    let read = subst (λ (ended : Ended). ReadsLine (max_line + 1) [] (g.S.Source.left c.args.source.now) (Ok ended) c.read_line.new.line.items c.read_line.new.self (g.S.Source.left c.read_line.new.source)) c.in-Ok-PastBudget.field-0-is (rw c.requires at c.in-Ok-PastBudget.ensures.told) in
    (refl, first_over (task_command c.args.task) (g.S.Source.left c.args.source.now) (g.S.Source.left c.read_line.new.source) c.read_line.new.line.items c.read_line.new.self read)

pub returns-in-Ok-Newline-clause-told : goal.returns-in-Ok-Newline-clause-told
returns-in-Ok-Newline-clause-told g c =
    let read = subst (λ (ended : Ended). ReadsLine (max_line + 1) [] (g.S.Source.left c.args.source.now) (Ok ended) c.read_line.new.line.items c.read_line.new.self (g.S.Source.left c.read_line.new.source)) c.in-Ok-Newline.field-0-is (rw c.requires at c.in-Ok-Newline.ensures.told) in
    reads_first (task_command c.args.task) (g.S.Source.left c.args.source.now) c.read_line.new.line.items c.config_in.result
    (first_newline (g.S.Source.left c.args.source.now) (g.S.Source.left c.read_line.new.source) c.read_line.new.line.items c.read_line.new.self read) (rw c.deref.ensures.value at c.config_in.ensures)

pub returns-in-Err-Fault-clause-drawn : goal.returns-in-Err-Fault-clause-drawn
returns-in-Err-Fault-clause-drawn g c =
    let left = g.S.Source.left in
    let read = subst (λ (e : Failed). ReadsLine (max_line + 1) [] (left c.args.source.now) (Err e) c.read_line.new.line.items c.read_line.new.self (left c.read_line.new.source)) c.in-Err-Fault.field-0-is (rw c.requires at c.in-Err-Fault.ensures.told) in
    draws_fault (left c.args.source.now) (left c.read_line.new.source) c.read_line.new.line.items c.read_line.new.self read

pub returns-in-Err-NoMemory-clause-drawn : goal.returns-in-Err-NoMemory-clause-drawn
returns-in-Err-NoMemory-clause-drawn g c =
    let left = g.S.Source.left in
    let read = subst (λ (e : Failed). ReadsLine (max_line + 1) [] (left c.args.source.now) (Err e) c.read_line.new.line.items c.read_line.new.self (left c.read_line.new.source)) c.in-Err-NoMemory.field-0-is (rw c.requires at c.in-Err-NoMemory.ensures.told) in
    draws_wanted (left c.args.source.now) (left c.read_line.new.source) c.read_line.new.line.items c.read_line.new.self read

pub returns-in-Ok-PastBudget-clause-drawn : goal.returns-in-Ok-PastBudget-clause-drawn
returns-in-Ok-PastBudget-clause-drawn g c =
    let left = g.S.Source.left in
    let read = subst (λ (ended : Ended). ReadsLine (max_line + 1) [] (left c.args.source.now) (Ok ended) c.read_line.new.line.items c.read_line.new.self (left c.read_line.new.source)) c.in-Ok-PastBudget.field-0-is (rw c.requires at c.in-Ok-PastBudget.ensures.told) in
    draws_over (left c.args.source.now) (left c.read_line.new.source) c.read_line.new.line.items c.read_line.new.self 1 read

pub returns-in-Ok-Newline-clause-drawn : goal.returns-in-Ok-Newline-clause-drawn
returns-in-Ok-Newline-clause-drawn g c =
    let left = g.S.Source.left in
    let read = subst (λ (ended : Ended). ReadsLine (max_line + 1) [] (left c.args.source.now) (Ok ended) c.read_line.new.line.items c.read_line.new.self (left c.read_line.new.source)) c.in-Ok-Newline.field-0-is (rw c.requires at c.in-Ok-Newline.ensures.told) in
    draws_newline (task_command c.args.task) (left c.args.source.now) (left c.read_line.new.source) c.read_line.new.line.items c.read_line.new.self c.config_in.result read (rw c.deref.ensures.value at c.config_in.ensures)

pub returns-clause-drawn : goal.returns-clause-drawn
returns-clause-drawn g c =
    let left = g.S.Source.left in
    let read = subst (λ (ended : Ended). ReadsLine (max_line + 1) [] (left c.args.source.now) (Ok ended) c.read_line.new.line.items c.read_line.new.self (left c.read_line.new.source)) c.in-Ok-End.field-0-is (rw c.requires at c.in-Ok-End.ensures.told) in
    draws_end (task_command c.args.task) (left c.args.source.now) (left c.read_line.new.source) c.read_line.new.line.items c.read_line.new.self c.config_in-in-Ok-End.result read (rw c.deref-in-Ok-End.ensures.value at c.config_in-in-Ok-End.ensures)

pub returns-in-Ok-Newline-clause-rest : goal.returns-in-Ok-Newline-clause-rest
returns-in-Ok-Newline-clause-rest g c =
    let left = g.S.Source.left in
    let read = subst (λ (ended : Ended). ReadsLine (max_line + 1) [] (left c.args.source.now) (Ok ended) c.read_line.new.line.items c.read_line.new.self (left c.read_line.new.source)) c.in-Ok-Newline.field-0-is (rw c.requires at c.in-Ok-Newline.ensures.told) in
    rest_newline (left c.args.source.now) (left c.read_line.new.source) c.read_line.new.line.items c.read_line.new.self c.config_in.result read

pub returns-clause-rest : goal.returns-clause-rest
returns-clause-rest g c =
    let left = g.S.Source.left in
    let read = subst (λ (ended : Ended). ReadsLine (max_line + 1) [] (left c.args.source.now) (Ok ended) c.read_line.new.line.items c.read_line.new.self (left c.read_line.new.source)) c.in-Ok-End.field-0-is (rw c.requires at c.in-Ok-End.ensures.told) in
    rest_end (left c.args.source.now) (left c.read_line.new.source) c.read_line.new.line.items c.read_line.new.self c.config_in-in-Ok-End.result read
