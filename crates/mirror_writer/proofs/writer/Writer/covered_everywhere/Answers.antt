use Rattle.std.proofs.Common.{ap, ◌∙◌}
use Rattle.std.specs.Prelude.{slice_get}
use Rattle.std.specs.List.{list_all}
use Rattle.mirror_writer.specs.Writers.{covered_flag}
use Rattle.mirror_writer.proofs.WriterSteps.{all_shown}
use Rattle.mirror_writer.proofs.writer.Writer.covered_everywhere.Goals as goal

pub returns : goal.returns
returns c =
    rw (← c.self.view_is) (c.all_cover.ensures ∙ ap (list_all (λ r. covered_flag (slice_get r.mirror.covered c.args.n))) c.deref.ensures.value ∙ all_shown (λ m. covered_flag (slice_get m.covered c.args.n)) c.self.inside.mirrors.items)
