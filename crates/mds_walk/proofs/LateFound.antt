-- The call that a timeout is of is one that was sent, and is awaited.
use Rattle.std.proofs.Common.{◌≡◌, ℕ, Bool, true, false, cond, Option, Some, None, refl, subst}
use Rattle.std.specs.List.{find}
use Rattle.std.proofs.lemmas.Bool.{and_parts}
use Rattle.std.proofs.lemmas.Option.{same_Some, none-some}
use Rattle.cluster_model.specs.declared.ids.NodeId.{NodeId}
use Rattle.cluster_model.specs.Nodes.{is_node}
use Rattle.cluster_model.specs.Members.{IsOneOf}
use Rattle.mds_rule.specs.MdsStates.{AwaitedCall, MdsValue, is_call_to}
use Rattle.mds_rule.specs.Answers.{is_awaited}
use Rattle.mds_rule.specs.Events.{is_outstanding_to, if_awaited, late_call}
use Rattle.mds_walk.proofs.Lists.{found_in, found_passes}

pub record IsAwaitedCall (m : MdsValue) (call : AwaitedCall) : Type 0 where
  pub inside : IsOneOf call m.calls
  pub awaited : is_awaited m call ≡ true

-- one that was found, where it is awaited
named_is : (m : MdsValue) (found call : AwaitedCall) → IsOneOf found m.calls → (b : Bool) → is_awaited m found ≡ b → cond b (Some found) None ≡ Some call → IsAwaitedCall m call
named_is m found call inside true awaited is = subst (λ (c : AwaitedCall). IsAwaitedCall m c) (same_Some found call is) (record { inside = inside; awaited = awaited })
named_is m found call inside false awaited is = absurd (none-some call is)

named_among : (m : MdsValue) (o : Option AwaitedCall) → ((found : AwaitedCall) → o ≡ Some found → IsOneOf found m.calls) → (call : AwaitedCall) → if_awaited m o ≡ Some call → IsAwaitedCall m call
named_among m None all call is = absurd (none-some call is)
named_among m (Some found) all call is = named_is m found call (all found refl) (is_awaited m found) refl is

pub late_is : (m : MdsValue) (node : NodeId) (which : Option ℕ) (call : AwaitedCall) → late_call m node which ≡ Some call → IsAwaitedCall m call
late_is m node None call is = record {
  inside = found_in (is_outstanding_to m node) m.calls call is;
  awaited = (and_parts (is_node call.node node) (is_awaited m call) (found_passes (is_outstanding_to m node) m.calls call is)).1;
}
late_is m node (Some xid) call is = named_among m (find (is_call_to node xid) m.calls) (λ found its. found_in (is_call_to node xid) m.calls found its) call is
