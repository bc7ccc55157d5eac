use Rattle.std.proofs.Common.{◌≡◌, Ok, sym, subst, ◌∙◌, length}
use Rattle.file_rule.specs.FilePhases.{OwnEnds}
use Rattle.mds_rule.specs.MdsStates.{CompoundRun}
use Rattle.mds_rule.specs.ServedFiles.{takes_input}
use Rattle.mds_rule.specs.Answers.{write_answer}
use Rattle.compound_run.specs.CompoundRuns.{HasRoomForResults, AddsResult, HasOperated}
use Rattle.mds_compounds.proofs.WalkLemmas.{on_ok, resumed_room}
use Rattle.mds_answers.proofs.AnswerLemmas.{resumed_so, write_over_so}
use Rattle.mds_answers.proofs.writes.resume_write.Goals as goal

pub go_on-requires : goal.go_on-requires
go_on-requires c is = resumed_room c.resume-run.result c.end_write.new.run c.in_ok-end.end (subst HasRoomForResults (sym (c.resume-run.ensures ∙ c.open-text.ensures.parts)) c.open-text.ensures.room) c.in_ok-end.ensures.on is

pub returns : goal.returns
returns c =
    let m = c.args.state.now in
    let ended = c.in-Some.ended in
    let run = ended.compound in
    let bytes = c.bytes-bytes.result.now in
    let k = c.take_input.new.state in
    let mid = c.take_input.new.out in
    let e = c.in_ok-end.end in
    let same : c.resume-run.result ≡ run = c.resume-run.ensures ∙ c.open-text.ensures.parts in
    rw (c.in-Some.is, ← c.bytes-bytes.ensures.bytes)
    (on_ok c.go_on.result c.go_on.ensures
    (λ made.
    write_over_so c.args.now (takes_input m c.args.file (OwnEnds ended.causes ended.at bytes)) run (length bytes) ended.has_failed c.args.out.now mid c.go_on.new.out k c.go_on.new.state c.in_ok-take_input.ensures.steps
    (resumed_so c.args.now k c.go_on.new.state run c.end_write.new.run e (write_answer k run (length bytes) ended.has_failed) mid mid c.go_on.new.out
    (subst (λ (r : CompoundRun). HasOperated (write_answer k r (length bytes) ended.has_failed) mid (Ok e) k c.end_write.new.run mid) same (c.in_ok-end.ensures.op k mid))
    (subst (λ (r : CompoundRun). AddsResult r (Ok e) c.end_write.new.run) same c.in_ok-end.ensures.on) made)))
