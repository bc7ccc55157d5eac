use Rattle.mds_activity.proofs.CopyFits.{sent_copy_fit}
use Rattle.mds_activity.proofs.sending.send_copy.Goals as goal

pub returns-clause-fit : goal.returns-clause-fit
returns-clause-fit c = λ h. sent_copy_fit c.args.layout.live c.args.copy.now c.args.xid c.send_next.result c.send_next.new.self c.send_next.ensures h
