use Rattle.std.proofs.Common.{subst}
use Rattle.mds_rule.specs.MdsStates.{ServedFile}
use Rattle.served_files.specs.Sending.{SendsFileRead}
use Rattle.served_files.proofs.SendLemmas.{sends_by_reads}
use Rattle.served_files.proofs.file.ServedFile.send_read.Goals as goal

pub returns : goal.returns
returns c =
    let f = c.self.inside in
    let seen : ServedFile = record { name = f.name; file = f.file; sizes = f.sizes.items; periods = f.periods; holder = f.holder; seqid = f.seqid; write = f.write; reads = f.reads } in
    subst (λ (s : ServedFile). SendsFileRead c.args.file s c.args.n c.args.xid c.send.result (record seen { reads = c.send.new.self })) c.self.view_is
    (sends_by_reads c.args.file seen c.args.n c.args.xid c.send.result c.send.new.self c.send.ensures)
