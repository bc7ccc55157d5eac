use Rattle.std.proofs.Common.{ap, ◌∙◌, length}
use Rattle.mirror_writer.specs.Writers.{WriterValue}
use Rattle.mirror_writer.proofs.WriterSteps.{gone_write, gone_commit}
use Rattle.mirror_writer.proofs.writer.Writer.is_gone.Goals as goal

pub returns-in-SendsWrite : goal.returns-in-SendsWrite
returns-in-SendsWrite c = gone_write c.args.self.now c.in-SendsWrite.n c.len.result c.args.next c.in-SendsWrite.is (c.len.ensures ∙ c.self.inside.taken.ok.0 ∙ ap (λ (s : WriterValue). length s.taken) c.self.view_is)

pub returns-in-SendsCommit : goal.returns-in-SendsCommit
returns-in-SendsCommit c = gone_commit c.args.self.now c.args.next c.in-SendsCommit.is
