use Rattle.std.proofs.Common.{◌≡◌, Ok, sym, subst, ◌∙◌}
use Rattle.mds_rule.specs.MdsStates.{CompoundRun, MdsStep}
use Rattle.compound_run.specs.CompoundRuns.{AddsResult, HasOperated, HasMadeStep}
use Rattle.mds_compounds.proofs.WalkLemmas.{on_ok}
use Rattle.mds_answers.specs.Resumed.{read_ended}
use Rattle.mds_answers.proofs.AnswerLemmas.{read_as, resumed_so}
use Rattle.mds_answers.proofs.reads.resume_read.Goals as goal

pub returns : goal.returns
returns c =
    let m = c.args.state.now in
    let run = c.in-Some.field-0.compound in
    let end = c.in-Some.field-0.end in
    let e = c.in_ok-end.end in
    let same : c.resume-run.result ≡ run = c.resume-run.ensures ∙ c.open-text.ensures.parts in
    rw c.in-Some.is
    (on_ok c.go_on.result c.go_on.ensures
    (λ made.
    subst (λ (s : MdsStep). HasMadeStep s c.args.out.now c.go_on.new.state c.go_on.new.out) (sym (read_as c.args.now m c.args.file run end))
    (resumed_so c.args.now m c.go_on.new.state run c.end_read.new.run e (read_ended m c.args.file run end) c.args.out.now c.end_read.new.out c.go_on.new.out
    (subst (λ (r : CompoundRun). HasOperated (read_ended m c.args.file r end) c.args.out.now (Ok e) m c.end_read.new.run c.end_read.new.out) same (c.in_ok-end.ensures.op m)) (subst (λ (r : CompoundRun). AddsResult r (Ok e) c.end_read.new.run) same c.in_ok-end.ensures.on) made)))
