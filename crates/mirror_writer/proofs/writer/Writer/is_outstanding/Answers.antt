use Rattle.std.proofs.Common.{ap, ◌∙◌}
use Rattle.std.specs.List.{list_any}
use Rattle.mirror_writer.specs.Writers.{is_call}
use Rattle.mirror_writer.proofs.WriterSteps.{any_shown}
use Rattle.mirror_writer.proofs.writer.Writer.is_outstanding.Goals as goal

pub returns : goal.returns
returns c =
    rw (← c.self.view_is) (c.some_out.ensures ∙ ap (list_any (λ r. is_call c.args.xid r.mirror.call)) c.deref.ensures.value ∙ any_shown (λ m. is_call c.args.xid m.call) c.self.inside.mirrors.items)
