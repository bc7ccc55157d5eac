use Rattle.std.proofs.Common.{◌≡◌, Some, sym, ap, subst, ◌∙◌}
use Rattle.std.specs.Prelude.{slice_get}
use Rattle.mds_io.specs.Calls.{WaitsAt}
use Rattle.mds_rule.specs.MdsStates.{WaitingRead, ServedFile}
use Rattle.served_files.proofs.SendLemmas.{read_waits}
use Rattle.served_files.proofs.file.ServedFile.waiting_read.Goals as goal

pub returns : goal.returns
returns c = λ xid.
    let r = c.in_ok-waiting.waiting.now in
    let n = c.args.n in
    let there : slice_get c.args.self.now.reads n ≡ Some r = ap (λ (s : ServedFile). slice_get s.reads n) (sym c.self.view_is) ∙ sym c.in_ok-waiting.ensures in
    read_waits c.args.self.now n xid r (Some c.in_ok-id.id) there (subst (λ (w : WaitingRead). WaitsAt w.read xid (Some c.in_ok-id.id)) c.waiting.view_is (c.in_ok-id.ensures xid))
