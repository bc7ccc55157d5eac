use Rattle.std.proofs.Common.{ap, sym, ◌∙◌, ◌||◌}
use Rattle.std.specs.List.{list_all}
use Rattle.mirror_writer.specs.Writers.{WriterValue, is_committed}
use Rattle.mirror_writer.specs.Rooms.{mirrors_shown}
use Rattle.mirror_writer.specs.MirrorSteps.{settled_as}
use Rattle.mirror_writer.proofs.WriterSteps.{all_shown, committed_now, waits_still}
use Rattle.mirror_writer.proofs.writer.Writer.settle.Goals as goal

pub returns-then-open_committed : goal.returns-then-open_committed
returns-then-open_committed c =
    let w = c.self.inside in
    let s : WriterValue = record { cred = w.cred.0; taken = w.taken.items; mirrors = mirrors_shown w.mirrors.items; wants_commit = w.wants_commit; is_fenced = w.is_fenced } in
    let all = sym (c.open_committed.ensures ∙ ap (list_all (λ r. r.mirror.has_failed || is_committed r.mirror)) c.deref.ensures.value ∙ all_shown (λ m. m.has_failed || is_committed m) w.mirrors.items) ∙ c.if-open_committed.true in
    rw (← c.self.view_is) (committed_now s all ∙ ap (settled_as s c.args.id) (sym c.in-CommitOk.is))

pub returns-else-open_committed : goal.returns-else-open_committed
returns-else-open_committed c =
    let w = c.self.inside in
    let s : WriterValue = record { cred = w.cred.0; taken = w.taken.items; mirrors = mirrors_shown w.mirrors.items; wants_commit = w.wants_commit; is_fenced = w.is_fenced } in
    let all = sym (c.open_committed.ensures ∙ ap (list_all (λ r. r.mirror.has_failed || is_committed r.mirror)) c.deref.ensures.value ∙ all_shown (λ m. m.has_failed || is_committed m) w.mirrors.items) ∙ c.if-open_committed.false in
    rw (← c.self.view_is) (waits_still s all ∙ ap (settled_as s c.args.id) (sym c.in-CommitOk.is))
