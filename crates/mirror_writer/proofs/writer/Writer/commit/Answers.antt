use Rattle.std.proofs.Common.{ap, ◌∙◌, not}
use Rattle.std.specs.List.{list_all}
use Rattle.mirror_writer.specs.Writers.{is_committed}
use Rattle.mirror_writer.specs.Rooms.{mirrors_shown}
use Rattle.mirror_writer.proofs.WriterSteps.{all_shown}
use Rattle.mirror_writer.proofs.writer.Writer.commit.Goals as goal

pub returns : goal.returns
returns c =
    let w = c.self.inside in
    let is = c.all_committed.ensures ∙ ap (list_all (λ r. is_committed r.mirror)) c.deref.ensures.value ∙ all_shown is_committed w.mirrors.items in
    rw (← c.self.view_is) (ap (λ b. record { cred = w.cred.0; taken = w.taken.items; mirrors = mirrors_shown w.mirrors.items; wants_commit = not b; is_fenced = w.is_fenced }) is)
