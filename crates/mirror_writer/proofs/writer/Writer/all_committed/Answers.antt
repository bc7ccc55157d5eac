use Rattle.std.proofs.Common.{ap, ◌∙◌}
use Rattle.std.specs.List.{list_all}
use Rattle.mirror_writer.specs.Writers.{is_committed}
use Rattle.mirror_writer.proofs.WriterSteps.{all_shown}
use Rattle.mirror_writer.proofs.writer.Writer.all_committed.Goals as goal

pub returns : goal.returns
returns c =
    rw (← c.self.view_is) (c.all_committed.ensures ∙ ap (list_all (λ r. is_committed r.mirror)) c.deref.ensures.value ∙ all_shown is_committed c.self.inside.mirrors.items)
