use Rattle.std.proofs.Common.{sym, ap, subst, ◌∙◌, nat_cmp}
use Rattle.std.specs.BTreeMap.{insert_entry}
use Rattle.mds_rule.specs.MdsStates.{AwaitedCall}
use Rattle.awaited_calls.specs.Awaited.{calls_of, AtNumbers}
use Rattle.awaited_calls.proofs.NumberedCalls.{added, added_at}
use Rattle.awaited_calls.proofs.calls.Calls.add.Goals as goal

pub invariant_of-self-2 : goal.invariant_of-self-2
invariant_of-self-2 c =
    let es = c.self.inside.calls.entries in
    let entries = c.in_ok-before.ensures.entries ∙ ap (λ (call : AwaitedCall). insert_entry nat_cmp es call.xid c.args.call) c.call.view_is in
    (subst AtNumbers (sym entries) (added_at c.args.call es c.self.invariant.0), c.in_ok-before.ensures.ordered)

pub returns-clause-ok : goal.returns-clause-ok
returns-clause-ok c =
    let es = c.self.inside.calls.entries in
    let entries = c.in_ok-before.ensures.entries ∙ ap (λ (call : AwaitedCall). insert_entry nat_cmp es call.xid c.args.call) c.call.view_is in
    rw (← c.self.view_is) (ap calls_of entries ∙ added c.args.call es c.self.invariant.0)
