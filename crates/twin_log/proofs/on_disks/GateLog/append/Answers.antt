use Rattle.twin_log.proofs.Joining.{appends_by}
use Rattle.twin_log.proofs.on_disks.GateLog.append.Goals as goal

pub returns-clause-appends : goal.returns-clause-appends
returns-clause-appends g c =
    rw (← c.self.view_is) (λ generation start bodies stands.
    appends_by _ _ _ _ _ _ c.append_to-went.result c.settle.result c.settle.ensures.answer generation start bodies c.in-Ok.record c.args.body.now c.in-Ok.ensures (c.append_to-went.ensures.appends generation start bodies stands))
