use Rattle.std.proofs.Common.{ap, sym, subst, ◌∙◌, List}
use Rattle.std.specs.List.{position}
use Rattle.cluster_model.specs.DsCalls.{plain_ds_reply}
use Rattle.mirror_writer.specs.Writers.{WriterValue, is_call, with_writer_mirrors, answered_at}
use Rattle.mirror_writer.specs.Rooms.{RoomyMirror, mirrors_shown}
use Rattle.mirror_writer.specs.MirrorSteps.{StepsAt, answered_there, settled_as}
use Rattle.mirror_writer.proofs.WriterSteps.{position_shown, lent, reply_settles}
use Rattle.mirror_writer.proofs.writer.Writer.on_reply.Goals as goal

pub returns-in_default : goal.returns-in_default
returns-in_default c =
    let w = c.self.inside in
    let s : WriterValue = record { cred = w.cred.0; taken = w.taken.items; mirrors = mirrors_shown w.mirrors.items; wants_commit = w.wants_commit; is_fenced = w.is_fenced } in
    let found = sym (position_shown (λ m. is_call c.args.xid m.call) w.mirrors.items) ∙ sym (ap (position (λ r. is_call c.args.xid r.mirror.call)) c.deref.ensures.value) ∙ sym c.outstanding.ensures.found ∙ c.in_default.is in
    rw (← c.self.view_is) (sym (ap (answered_at s (plain_ds_reply c.args.reply.now)) found))

pub returns : goal.returns
returns c =
    let w = c.self.inside in
    let s : WriterValue = record { cred = w.cred.0; taken = w.taken.items; mirrors = mirrors_shown w.mirrors.items; wants_commit = w.wants_commit; is_fenced = w.is_fenced } in
    let found = sym (position_shown (λ m. is_call c.args.xid m.call) w.mirrors.items) ∙ sym (ap (position (λ r. is_call c.args.xid r.mirror.call)) c.deref.ensures.value) ∙ sym c.outstanding.ensures.found ∙ c.in-Some.is in
    let new = c.answer_at-outcome.new.mirrors in
    let whole = lent w.mirrors.items new w.mirrors.len (c.answer_at-outcome.auto.mirrors ∙ c.deref_mut.ensures.len) in
    let steps = subst (λ (rs : List RoomyMirror). StepsAt (λ m. answered_there m (plain_ds_reply c.args.reply.now) m.call) (mirrors_shown rs) c.in-Some.place c.answer_at-outcome.result.0 c.answer_at-outcome.result.1 (mirrors_shown new)) c.deref_mut.ensures.value c.answer_at-outcome.ensures in
    rw (← c.self.view_is) (c.settle.ensures ∙ ap (λ rs. settled_as (with_writer_mirrors s (mirrors_shown rs)) c.answer_at-outcome.result.0 c.answer_at-outcome.result.1) whole ∙ reply_settles s c.args.xid c.in-Some.place (plain_ds_reply c.args.reply.now) c.answer_at-outcome.result.0 c.answer_at-outcome.result.1 (mirrors_shown new) found steps)
