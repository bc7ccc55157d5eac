use Rattle.std.proofs.Common.{ap, sym, ◌∙◌, not, ◌||◌, ◌&&◌}
use Rattle.std.specs.List.{list_all, list_any}
use Rattle.mirror_writer.specs.Writers.{is_committed}
use Rattle.mirror_writer.specs.Rooms.{mirrors_shown}
use Rattle.mirror_writer.proofs.WriterSteps.{all_shown, any_shown}
use Rattle.mirror_writer.proofs.writer.Writer.rest_committed.Goals as goal

pub returns-then-open_committed : goal.returns-then-open_committed
returns-then-open_committed c =
    let rs = c.self.inside.mirrors.items in
    let all = sym (c.open_committed.ensures ∙ ap (list_all (λ r. r.mirror.has_failed || is_committed r.mirror)) c.deref.ensures.value ∙ all_shown (λ m. m.has_failed || is_committed m) rs) ∙ c.if-open_committed.true in
    let some = c.some_committed.ensures ∙ ap (list_any (λ r. not r.mirror.has_failed && is_committed r.mirror)) c.deref-then-open_committed.ensures.value ∙ any_shown (λ m. not m.has_failed && is_committed m) rs in
    rw (← c.self.view_is) (some ∙ ap (λ b. b && list_any (λ m. not m.has_failed && is_committed m) (mirrors_shown rs)) (sym all))

pub returns-else-open_committed : goal.returns-else-open_committed
returns-else-open_committed c =
    let rs = c.self.inside.mirrors.items in
    let all = sym (c.open_committed.ensures ∙ ap (list_all (λ r. r.mirror.has_failed || is_committed r.mirror)) c.deref.ensures.value ∙ all_shown (λ m. m.has_failed || is_committed m) rs) ∙ c.if-open_committed.false in
    rw (← c.self.view_is) (c.if-open_committed.false ∙ ap (λ b. b && list_any (λ m. not m.has_failed && is_committed m) (mirrors_shown rs)) (sym all))
