use Rattle.std.proofs.Common.{ap, ◌∙◌}
use Rattle.std.specs.List.{list_all}
use Rattle.mirror_writer.proofs.WriterSteps.{all_shown}
use Rattle.mirror_writer.proofs.writer.Writer.has_no_mirror.Goals as goal

pub returns : goal.returns
returns c =
    rw (← c.self.view_is) (c.all_failed.ensures ∙ ap (list_all (λ r. r.mirror.has_failed)) c.deref.ensures.value ∙ all_shown (λ m. m.has_failed) c.self.inside.mirrors.items)
