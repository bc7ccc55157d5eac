use Rattle.std.proofs.Common.{◌≡◌, ◌∙◌, true, false, List, find, nat_cmp, sym, ap, subst}
use Rattle.std.specs.Prelude.{is_some}
use Rattle.std.specs.BTreeMap.{is_at}
use Rattle.mds_rule.specs.MdsStates.{AwaitedCall, is_call_to}
use Rattle.awaited_calls.specs.Awaited.{calls_of, AtNumbers}
use Rattle.awaited_calls.proofs.NumberedCalls.{lent_some, none_is, none_less, has_it, removed, removed_at}
use Rattle.awaited_calls.proofs.calls.Calls.take.Goals as goal

pub returns-then-is_none-clause-rest : goal.returns-then-is_none-clause-rest
returns-then-is_none-clause-rest c =
    let sought = is_call_to c.args.node c.args.xid in
    let none : is_some (find sought c.args.self.now) ≡ false = ap is_some (sym c.get.ensures) ∙ lent_some c.get.result ∙ c.if-is_none.ensures in
    none_less sought c.args.self.now (none_is (find sought c.args.self.now) none)

pub invariant_of-self : goal.invariant_of-self
invariant_of-self c = (subst AtNumbers (sym c.remove.ensures.entries) (removed_at (is_at (nat_cmp c.args.xid)) c.self.inside.calls.entries c.self.invariant.0), c.remove.ensures.ordered)

pub returns-clause-found : goal.returns-clause-found
returns-clause-found c =
    let some : is_some (find (is_call_to c.args.node c.args.xid) c.args.self.now) ≡ true = ap is_some (sym c.get.ensures) ∙ lent_some c.get.result ∙ c.if-is_none.ensures in
    let there : is_some (find (is_call_to c.args.node c.args.xid) (calls_of c.self.inside.calls.entries)) ≡ true = subst (λ (l : List AwaitedCall). is_some (find (is_call_to c.args.node c.args.xid) l) ≡ true) (sym c.self.view_is) some in
    rw (← c.self.view_is) (c.remove.ensures.value ∙ has_it c.args.node c.args.xid c.self.inside.calls.entries c.self.invariant.0 c.self.invariant.1 there)

pub returns-clause-rest : goal.returns-clause-rest
returns-clause-rest c =
    let some : is_some (find (is_call_to c.args.node c.args.xid) c.args.self.now) ≡ true = ap is_some (sym c.get.ensures) ∙ lent_some c.get.result ∙ c.if-is_none.ensures in
    let there : is_some (find (is_call_to c.args.node c.args.xid) (calls_of c.self.inside.calls.entries)) ≡ true = subst (λ (l : List AwaitedCall). is_some (find (is_call_to c.args.node c.args.xid) l) ≡ true) (sym c.self.view_is) some in
    rw (← c.self.view_is) (ap calls_of c.remove.ensures.entries ∙ removed c.args.node c.args.xid c.self.inside.calls.entries c.self.invariant.0 c.self.invariant.1 there)
