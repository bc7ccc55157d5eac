use Rattle.std.proofs.Common.{◌+◌, List, set, sym, ap, ◌∙◌}
use Rattle.std.specs.List.{position}
use Rattle.recall.specs.declared.kept_recall.KeptRecall.{KeptRecall}
use Rattle.recall.specs.declared.recall.RecallStage.TheVariants.{Out}
use Rattle.recall.specs.declared.recall.Recall.{Recall}
use Rattle.recall.specs.Recalls.{at_stage, late, is_out, is_out_as}
use Rattle.recall.proofs.Answered.{stranger_at, out_there, within_at, goes_again, expires, is_some_stage}
use Rattle.recall.proofs.Standing.{late_stands, set_in}
use Rattle.recall.proofs.recalls.Recalls.on_timeout.Goals as goal

pub returns-in_default : goal.returns-in_default
returns-in_default c =
    let none = sym (ap (λ (l : List KeptRecall). position (λ e. is_out_as c.args.xid e.recall.stage) l) c.as_slice.ensures.value) ∙ sym c.outstanding.ensures ∙ c.in_default.is in
    stranger_at c.self.inside.entries.items c.args.self.now c.args.xid (λ place r. late c.args.self.now place r r.stage) c.self.view_is none

pub invariant_of-self : goal.invariant_of-self
invariant_of-self c =
    let items = c.self.inside.entries.items in
    let found = sym (ap (λ (l : List KeptRecall). position (λ e. is_out_as c.args.xid e.recall.stage) l) c.as_slice.ensures.value) ∙ sym c.outstanding.ensures ∙ c.in-Some.is in
    late_stands items c.self.invariant c.in-Some.place c.index-entry.result.now (within_at items c.args.xid c.in-Some.place found) c.index-entry.ensures _ (sym (ap is_out c.in-Out.is))

pub returns-in-Out : goal.returns-in-Out
returns-in-Out c =
    let items = c.self.inside.entries.items in
    let r = c.index-entry.result.now.recall in
    let found = sym (ap (λ (l : List KeptRecall). position (λ e. is_out_as c.args.xid e.recall.stage) l) c.as_slice.ensures.value) ∙ sym c.outstanding.ensures ∙ c.in-Some.is in
    let there = out_there items c.args.self.now c.args.xid c.in-Some.place c.index-entry.result.now c.self.view_is found c.index-entry.ensures in
    goes_again c.args.self.now c.args.xid c.in-Some.place r there _ c.in-Out.xid c.in-Out.timeouts c.in-Out.is c.if-timeouts.true
    (set_in items c.in-Some.place _ ∙ ap (λ (l : List Recall). set l c.in-Some.place (at_stage (Out c.in-Out.xid (c.in-Out.timeouts + 1)) r)) c.self.view_is)

pub returns-in-Out-2 : goal.returns-in-Out-2
returns-in-Out-2 c =
    let items = c.self.inside.entries.items in
    let found = sym (ap (λ (l : List KeptRecall). position (λ e. is_out_as c.args.xid e.recall.stage) l) c.as_slice.ensures.value) ∙ sym c.outstanding.ensures ∙ c.in-Some.is in
    let there = out_there items c.args.self.now c.args.xid c.in-Some.place c.index-entry.result.now c.self.view_is found c.index-entry.ensures in
    expires c.args.self.now c.args.xid c.in-Some.place c.index-entry.result.now.recall there c.forget.new.self c.in-Out.xid c.in-Out.timeouts c.in-Out.is c.if-timeouts.false c.forget.ensures

pub returns-in_default-stage : goal.returns-in_default-stage
returns-in_default-stage c =
    let items = c.self.inside.entries.items in
    let found = sym (ap (λ (l : List KeptRecall). position (λ e. is_out_as c.args.xid e.recall.stage) l) c.as_slice.ensures.value) ∙ sym c.outstanding.ensures ∙ c.in-Some.is in
    let there = out_there items c.args.self.now c.args.xid c.in-Some.place c.index-entry.result.now c.self.view_is found c.index-entry.ensures in
    is_some_stage c.args.self.now c.args.xid c.in-Some.place c.index-entry.result.now.recall there _ c.in_default-stage.not-Out
