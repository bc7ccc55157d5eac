use Rattle.std.proofs.Common.{sym, ap, ◌∙◌, cond, Some, None}
use Rattle.std.specs.Prelude.{option_copied}
use Rattle.awaited_calls.proofs.NumberedCalls.{found_at, to_node, passed_on}
use Rattle.awaited_calls.proofs.calls.Calls.get.Goals as goal

pub returns-in_err-call : goal.returns-in_err-call
returns-in_err-call c =
    let at = found_at c.args.node c.args.xid c.self.inside.calls.entries c.self.invariant.0 c.self.invariant.1 in
    rw (← c.self.view_is) (ap option_copied c.from_residual.ensures ∙ sym (at ∙ ap (to_node c.args.node) (sym c.in_err-call.ensures.value)))

pub returns-then-not-goes_to : goal.returns-then-not-goes_to
returns-then-not-goes_to c =
    let call = c.in_ok-call.call.now in
    let at = found_at c.args.node c.args.xid c.self.inside.calls.entries c.self.invariant.0 c.self.invariant.1 in
    let goes = passed_on c.args.node call c.goes_to.result c.goes_to.ensures in
    rw (← c.self.view_is) (sym (at ∙ ap (to_node c.args.node) (sym c.in_ok-call.ensures.value) ∙ goes ∙ ap (λ b. cond b (Some call) None) c.if-not-goes_to.true))

pub returns : goal.returns
returns c =
    let call = c.in_ok-call.call.now in
    let at = found_at c.args.node c.args.xid c.self.inside.calls.entries c.self.invariant.0 c.self.invariant.1 in
    let goes = passed_on c.args.node call c.goes_to.result c.goes_to.ensures in
    rw (← c.self.view_is) (sym (at ∙ ap (to_node c.args.node) (sym c.in_ok-call.ensures.value) ∙ goes ∙ ap (λ b. cond b (Some call) None) c.if-not-goes_to.false))
