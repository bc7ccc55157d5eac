use Rattle.std.proofs.Common.{sym, ap, subst, ◌∙◌}
use Rattle.std.specs.Prelude.{OnErr}
use Rattle.std.specs.List.{position}
use Rattle.cluster_model.specs.DsCalls.{plain_ds_reply}
use Rattle.cluster_model.specs.Fences.{is_out}
use Rattle.copy_rule.specs.Copies.{CopyState, target_answered, by_read, read_answered}
use Rattle.resilver.specs.Sends.{TakesRead, BringsPiece}
use Rattle.resilver.proofs.Steps.{step_here, place_within, read_taken, asks_so}
use Rattle.resilver.proofs.copy.Copy.on_reply.Goals as goal

pub returns-in-Some-clause-takes : goal.returns-in-Some-clause-takes
returns-in-Some-clause-takes c =
    let k = c.self.inside in
    let s : CopyState = record { copier = k.copier.0; source = k.source; at = k.at; piece = k.piece; ended = k.ended; read = k.read; targets = k.targets.items } in
    let place = c.in-Some.place in
    let reply = plain_ds_reply c.args.reply.now in
    let found = sym (ap (position (λ t. is_out c.args.xid t.stage)) c.as_slice.ensures.value) ∙ sym c.outstanding.ensures ∙ c.in-Some.is in
    rw (← c.self.view_is) (c.go_on.ensures ∙ step_here s c.deref.result.now c.deref_mut.result.now _ place _ (λ t. target_answered t reply t.made) (by_read s c.args.xid (read_answered s reply)) (record { target = c.answered-step.result.0; step = c.answered-step.result.1 })
    found (place_within _ k.targets.items place found) c.deref.ensures.0 c.deref_mut.ensures.value c.answered-step.ensures)

pub returns-then-is_out-clause-takes : goal.returns-then-is_out-clause-takes
returns-then-is_out-clause-takes c =
    let k = c.self.inside in
    let s : CopyState = record { copier = k.copier.0; source = k.source; at = k.at; piece = k.piece; ended = k.ended; read = k.read; targets = k.targets.items } in
    let found = sym (ap (position (λ t. is_out c.args.xid t.stage)) c.as_slice.ensures.value) ∙ sym c.outstanding.ensures ∙ c.in_default.is in
    rw (← c.self.view_is) (read_taken s c.args.xid (plain_ds_reply c.args.reply.now) c.answer_read.result c.answer_read.new.self found (sym c.is_out.ensures ∙ c.if-is_out.true)
    (subst (λ (v : CopyState). TakesRead v (plain_ds_reply c.args.reply.now) c.answer_read.result c.answer_read.new.self) (sym c.self.view_is) c.answer_read.ensures.takes))

pub returns-then-is_out-clause-memory : goal.returns-then-is_out-clause-memory
returns-then-is_out-clause-memory c =
    let k = c.self.inside in
    let s : CopyState = record { copier = k.copier.0; source = k.source; at = k.at; piece = k.piece; ended = k.ended; read = k.read; targets = k.targets.items } in
    let found = sym (ap (position (λ t. is_out c.args.xid t.stage)) c.as_slice.ensures.value) ∙ sym c.outstanding.ensures ∙ c.in_default.is in
    rw (← c.self.view_is) (asks_so s c.args.xid (plain_ds_reply c.args.reply.now) c.answer_read.result found (sym c.is_out.ensures ∙ c.if-is_out.true)
    (subst (λ (v : CopyState). OnErr c.answer_read.result (BringsPiece v (plain_ds_reply c.args.reply.now))) (sym c.self.view_is) c.answer_read.ensures.memory))
