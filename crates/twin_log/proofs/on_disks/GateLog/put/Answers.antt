use Rattle.twin_log.proofs.Joining.{puts_by, puts_none}
use Rattle.twin_log.proofs.on_disks.GateLog.put.Goals as goal

pub returns-in-Some-clause-puts : goal.returns-in-Some-clause-puts
returns-in-Some-clause-puts g c = λ says put renews. puts_none _ says put _ _ renews c.args.body.now _

pub returns-in_default-new-clause-puts : goal.returns-in_default-new-clause-puts
returns-in_default-new-clause-puts g c = λ says put renews. puts_none _ says put _ _ renews c.args.body.now _

pub returns-clause-puts : goal.returns-clause-puts
returns-clause-puts g c =
    rw (← c.self.view_is) (λ says put renews.
    puts_by _ _ _ _ _ _ c.put_to-went.result c.settle.result c.settle.ensures.answer says put c.in-Ok.record c.args.body.now c.in-Ok.ensures (c.put_to-went.ensures.puts says put renews))
