use Rattle.std.proofs.Common.{ap, ◌∙◌}
use Rattle.std.specs.Prelude.{option_map}
use Rattle.std.specs.List.{find}
use Rattle.cluster_model.specs.Journal.{is_mirror}
use Rattle.mirror_writer.specs.Writers.{covered_in}
use Rattle.mirror_writer.proofs.WriterSteps.{find_shown}
use Rattle.mirror_writer.proofs.writer.Writer.covered.Goals as goal

pub returns : goal.returns
returns c =
    rw (← c.self.view_is) (c.covers_at.ensures ∙ ap (λ rs. covered_in c.args.n (option_map (λ r. r.mirror) (find (λ r. is_mirror c.args.id r.mirror.id) rs))) c.deref.ensures.value
    ∙ ap (covered_in c.args.n) (find_shown (λ m. is_mirror c.args.id m.id) c.self.inside.mirrors.items))
