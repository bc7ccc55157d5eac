use Rattle.std.proofs.Common.{ap, sym, ◌∙◌}
use Rattle.cluster_model.specs.Fences.{waits}
use Rattle.mds_io.specs.Reads.{ReadState}
use Rattle.mds_io.proofs.ReadWaits.{waits_at}
use Rattle.mds_io.proofs.read.MdsRead.waiting_mirror.Goals as goal

pub returns : goal.returns
returns c xid =
    waits_at c.args.self.now xid c.in_ok-mirror.mirror (ap (λ (r : ReadState). waits r.stage) (sym c.self.view_is) ∙ sym c.waits.ensures ∙ c.if-not-waits.false) (sym c.in_turn.ensures.turn ∙ c.in_ok-mirror.was)
