use Rattle.std.proofs.Common.{subst}
use Rattle.mirror_writer.specs.Calls.{IsToSend}
use Rattle.mirror_writer.proofs.WriterSteps.{first_waits}
use Rattle.mirror_writer.proofs.writer.Writer.waiting_mirror.Goals as goal

pub returns-in-Some : goal.returns-in-Some
returns-in-Some c xid = first_waits c.args.self.now xid _ c.in-Some.id _ (subst (IsToSend c.args.self.now) c.in-Some.is c.to_send.ensures)
