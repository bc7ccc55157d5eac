use Rattle.twin_log.proofs.Joining.{ends_by, ends_none}
use Rattle.twin_log.proofs.on_disks.GateLog.end.Goals as goal

pub returns-in-Some-clause-ends : goal.returns-in-Some-clause-ends
returns-in-Some-clause-ends g c = λ says put renews. ends_none _ says put _ _ renews _

pub returns-clause-ends : goal.returns-clause-ends
returns-clause-ends g c =
    rw (← c.self.view_is) (λ says put renews.
    ends_by _ _ _ _ _ _ c.end_in-went.result c.settle.result c.settle.ensures.answer put (c.end_in-went.ensures.ends says put renews))
