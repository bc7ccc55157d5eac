use Rattle.std.proofs.Common.{sym}
use Rattle.awaited_calls.proofs.NumberedCalls.{next_there, are_ordered}
use Rattle.awaited_calls.proofs.calls.Calls.next_to.Goals as goal

pub loop-call-init : goal.loop-call-init
loop-call-init c = rw (← c.self.view_is, c.into_iter-call-iterator.ensures.into_iter_gives, c.range-call-items.ensures.between tt, c.start_behind-start.ensures) (tt, tt, next_there c.args.node c.args.after c.self.inside.calls.entries c.self.invariant.0)

pub returns-clause-ordered : goal.returns-clause-ordered
returns-clause-ordered c = are_ordered c.args.self.now c.self.inside.calls.entries (sym c.self.view_is) c.self.invariant

pub returns-then-goes_to-clause-ordered : goal.returns-then-goes_to-clause-ordered
returns-then-goes_to-clause-ordered c = are_ordered c.args.self.now c.self.inside.calls.entries (sym c.self.view_is) c.self.invariant
