use Rattle.std.proofs.Common.{List, sym, ap, subst, ◌∙◌}
use Rattle.std.specs.Prelude.{position}
use Rattle.mds_io.specs.Reads.{after_timeout}
use Rattle.mds_rule.specs.MdsStates.{WaitingRead}
use Rattle.mds_rule.specs.Answers.{is_read_out}
use Rattle.served_files.specs.Waiting.{StepsReadFrom, EndedAt}
use Rattle.served_files.proofs.ReadSteps.{steps_read}
use Rattle.served_files.proofs.waiting_reads.WaitingReads.time_out.Goals as goal

pub returns-clause-steps : goal.returns-clause-steps
returns-clause-steps c =
    let reads = c.self.inside.reads.items in
    let place = c.in-Some.place in
    let at = ap (position (is_read_out c.args.xid)) c.self.view_is ∙ sym c.place_out.ensures.place ∙ c.in-Some.is in
    let ends = subst (EndedAt _ place c.in_ok-end.end c.end_at-ended.result) (sym c.forget.ensures) c.end_at-ended.ensures.ends in
    subst (λ (l : List WaitingRead). StepsReadFrom l c.args.entries.now.items (λ r. after_timeout r c.args.xid) c.end_at-ended.result c.forget.new.self c.time_out.new.entries.items (position (is_read_out c.args.xid) l)) c.self.view_is
    (steps_read (λ r. after_timeout r c.args.xid) reads _ c.args.entries.now.items _ c.args.xid place c.index_mut.result.now c.time_out.new.self c.in_ok-end.end c.end_at-ended.result at c.index_mut.ensures.value c.in_ok-end.ensures.steps ends)
