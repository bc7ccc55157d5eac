use Rattle.std.proofs.Common.{List, refl, sym, ap, ◌∙◌}
use Rattle.std.specs.List.{position}
use Rattle.recall.specs.declared.kept_recall.KeptRecall.{KeptRecall}
use Rattle.recall.specs.Recalls.{answered, is_out_as}
use Rattle.recall.proofs.Answered.{stranger_at, out_there, is_out_by, agrees, has_none, asks_later}
use Rattle.recall.proofs.recalls.Recalls.on_reply.Goals as goal

pub returns-in_default : goal.returns-in_default
returns-in_default c =
    let none = sym (ap (λ (l : List KeptRecall). position (λ e. is_out_as c.args.xid e.recall.stage) l) c.as_slice.ensures.value) ∙ sym c.outstanding.ensures ∙ c.in_default.is in
    stranger_at c.self.inside.entries.items c.args.self.now c.args.xid (λ place r. answered c.args.self.now place r c.args.status) c.self.view_is none

pub rest-requires-clause-at : goal.rest-requires-clause-at
rest-requires-clause-at c =
    let found = sym (ap (λ (l : List KeptRecall). position (λ e. is_out_as c.args.xid e.recall.stage) l) c.as_slice.ensures.value) ∙ sym c.outstanding.ensures ∙ c.in-Some.is in
    (out_there c.self.inside.entries.items c.args.self.now c.args.xid c.in-Some.place c.index.result.now c.self.view_is found c.index.ensures).at

pub rest-requires-clause-out : goal.rest-requires-clause-out
rest-requires-clause-out c =
    let found = sym (ap (λ (l : List KeptRecall). position (λ e. is_out_as c.args.xid e.recall.stage) l) c.as_slice.ensures.value) ∙ sym c.outstanding.ensures ∙ c.in-Some.is in
    is_out_by c.args.xid c.index.result.now.recall.stage (out_there c.self.inside.entries.items c.args.self.now c.args.xid c.in-Some.place c.index.result.now c.self.view_is found c.index.ensures).out

pub rest-requires-in_default-status : goal.rest-requires-in_default-status
rest-requires-in_default-status c =
    let found = sym (ap (λ (l : List KeptRecall). position (λ e. is_out_as c.args.xid e.recall.stage) l) c.as_slice.ensures.value) ∙ sym c.outstanding.ensures ∙ c.in-Some.is in
    let there = out_there c.self.inside.entries.items c.args.self.now c.args.xid c.in-Some.place c.index.result.now c.self.view_is found c.index.ensures in
    record { at = there.at; out = is_out_by c.args.xid c.index.result.now.recall.stage there.out; over = refl }

pub returns-in-Ok : goal.returns-in-Ok
returns-in-Ok c =
    let found = sym (ap (λ (l : List KeptRecall). position (λ e. is_out_as c.args.xid e.recall.stage) l) c.as_slice.ensures.value) ∙ sym c.outstanding.ensures ∙ c.in-Some.is in
    let there = out_there c.self.inside.entries.items c.args.self.now c.args.xid c.in-Some.place c.index.result.now c.self.view_is found c.index.ensures in
    agrees c.args.self.now c.args.xid c.in-Some.place c.index.result.now.recall there c.args.status c.rest.new.self c.in-Ok.is c.rest.ensures

pub returns-in-NoMatchingLayout : goal.returns-in-NoMatchingLayout
returns-in-NoMatchingLayout c =
    let found = sym (ap (λ (l : List KeptRecall). position (λ e. is_out_as c.args.xid e.recall.stage) l) c.as_slice.ensures.value) ∙ sym c.outstanding.ensures ∙ c.in-Some.is in
    let there = out_there c.self.inside.entries.items c.args.self.now c.args.xid c.in-Some.place c.index.result.now c.self.view_is found c.index.ensures in
    has_none c.args.self.now c.args.xid c.in-Some.place c.index.result.now.recall there c.args.status c.forget.new.self c.in-NoMatchingLayout.is c.forget.ensures

pub returns-in_default-status : goal.returns-in_default-status
returns-in_default-status c =
    let found = sym (ap (λ (l : List KeptRecall). position (λ e. is_out_as c.args.xid e.recall.stage) l) c.as_slice.ensures.value) ∙ sym c.outstanding.ensures ∙ c.in-Some.is in
    let there = out_there c.self.inside.entries.items c.args.self.now c.args.xid c.in-Some.place c.index.result.now c.self.view_is found c.index.ensures in
    asks_later c.args.self.now c.args.xid c.in-Some.place c.index.result.now.recall there c.args.status c.rest-in_default-status.new.self c.in_default-status.not-Ok c.in_default-status.not-NoMatchingLayout c.rest-in_default-status.ensures
