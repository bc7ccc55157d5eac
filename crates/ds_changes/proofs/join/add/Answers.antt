use Rattle.ds_changes.proofs.Spanning.{grows, begins}
use Rattle.ds_changes.proofs.join.add.Goals as goal

pub returns-then-span-last-clause-added : goal.returns-then-span-last-clause-added
returns-then-span-last-clause-added c = rw c.max.ensures (grows c.args.done.now.items c.args.last c.args.span c.requires c.if-span-last.true)

pub returns-clause-added : goal.returns-clause-added
returns-clause-added c = rw c.in_ok-push.ensures.items (begins c.args.done.now.items c.args.last c.args.span c.if-span-last.false)
