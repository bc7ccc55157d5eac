use Rattle.std.proofs.Common.{◌≡◌, subst, arith}
use Rattle.mds_rule.specs.MdsStates.{MdsValue, sends_none, numbered}
use Rattle.mds_rule.specs.Goes.{recall_call}
use Rattle.mds_state.specs.contracts.state.State as state
use Rattle.mds_sends.proofs.GoesRecalls.{other_recall}
use Rattle.mds_sends.proofs.next.next_recalled.Goals as goal

pub returns-in-Some-clause-none : goal.returns-in-Some-clause-none
returns-in-Some-clause-none c = λ n behind before.
    let m : MdsValue = state.the_view c.state.inside in
    subst (λ (x : MdsValue). recall_call (numbered n) x ≡ sends_none x) c.state.view_is
    (other_recall m (numbered n) c.in-Some.file (c.in-Some.ensures m.next_xid) (λ same. omega (arith, same, before, c.min.ensures)))

pub returns-in_default-clause-none : goal.returns-in_default-clause-none
returns-in_default-clause-none c = λ n behind before.
    let m : MdsValue = state.the_view c.state.inside in
    subst (λ (x : MdsValue). recall_call (numbered n) x ≡ sends_none x) c.state.view_is
    (other_recall m (numbered n) c.in-Some.file (c.in-Some.ensures m.next_xid) (λ same. omega (arith, same, behind, c.if-from-file.false)))
