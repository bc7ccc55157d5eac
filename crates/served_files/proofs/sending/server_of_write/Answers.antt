use Rattle.std.proofs.Common.{Some}
use Rattle.served_files.proofs.SendLemmas.{write_waits}
use Rattle.served_files.proofs.sending.server_of_write.Goals as goal

pub returns : goal.returns
returns c = λ xid. write_waits c.args.write.now xid (Some c.in_ok-id.id) (c.in_ok-id.ensures xid)
