use Rattle.std.proofs.Common.{sym, ap, ◌∙◌}
use Rattle.std.specs.Option.{option_map}
use Rattle.file_rule.specs.FilePhases.{CallOut, call_out}
use Rattle.mirror_writer.specs.Writers.{WriterValue, WriterSends, next_sent}
use Rattle.mds_rule.specs.MdsStates.{WaitingWrite, ServedFile}
use Rattle.served_files.proofs.SendLemmas.{waits_by_write, waits_by_file}
use Rattle.served_files.proofs.file.ServedFile.waiting_server.Goals as goal

pub returns-in-Some : goal.returns-in-Some
returns-in-Some c =
    let writer_is = ap (λ (w : WaitingWrite). w.writer) c.write.view_is in
    waits_by_write c.args.self.now c.in-Some.write c.server_of_write.result (ap (λ (s : ServedFile). s.write) (sym c.self.view_is) ∙ c.in-Some.is)
    (λ xid. c.server_of_write.ensures xid ∙ ap (λ (v : WriterValue). option_map (λ (o : WriterSends). o.id.server) (next_sent v xid)) writer_is)

pub returns : goal.returns
returns c =
    waits_by_file c.args.self.now c.server_of_file.result (ap (λ (s : ServedFile). s.write) (sym c.self.view_is) ∙ c.in_default.is)
    (λ xid. c.server_of_file.ensures xid ∙ ap (λ (s : ServedFile). option_map (λ (o : CallOut). o.server) (call_out s.file xid)) c.self.view_is)
