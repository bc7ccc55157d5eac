use Rattle.std.proofs.Common.{◌∙◌, Some, sym, ap}
use Rattle.mds_rule.specs.MdsStates.{AwaitedCall}
use Rattle.mds_core.proofs.Forgotten.{begun, done, one_stays, one_goes, fewer_stay, fewer_go}
use Rattle.mds_core.proofs.ticks.forget_calls.Goals as goal

pub loop-call-init : goal.loop-call-init
loop-call-init c = begun c.args.state.now

pub loop-call-smaller : goal.loop-call-smaller
loop-call-smaller c =
    fewer_stay c.args.state.now c.loop-call.state _ c.loop-call.after _ c.state.view_is c.loop-call.invariant c.in-Some.ensures.ordered
    (ap (λ (call : AwaitedCall). Some call) c.call.view_is ∙ c.in-Some.ensures.next)

pub loop-call-preserved : goal.loop-call-preserved
loop-call-preserved c =
    one_stays c.args.state.now c.loop-call.state _ c.loop-call.after _ c.state.view_is c.loop-call.invariant c.in-Some.ensures.ordered
    (ap (λ (call : AwaitedCall). Some call) c.call.view_is ∙ c.in-Some.ensures.next) (sym c.is_awaited.ensures ∙ c.if-not-is_awaited.false)

pub loop-call-smaller-then-not-is_awaited : goal.loop-call-smaller-then-not-is_awaited
loop-call-smaller-then-not-is_awaited c =
    fewer_go c.args.state.now c.loop-call.state _ c.loop-call.after _ c.state.view_is c.loop-call.invariant c.in-Some.ensures.ordered
    (ap (λ (call : AwaitedCall). Some call) c.call.view_is ∙ c.in-Some.ensures.next) c.remove.new.self c.remove.ensures

pub loop-call-preserved-then-not-is_awaited : goal.loop-call-preserved-then-not-is_awaited
loop-call-preserved-then-not-is_awaited c =
    one_goes c.args.state.now c.loop-call.state _ c.loop-call.after _ c.state.view_is c.loop-call.invariant c.in-Some.ensures.ordered
    (ap (λ (call : AwaitedCall). Some call) c.call.view_is ∙ c.in-Some.ensures.next) (sym c.is_awaited.ensures ∙ c.if-not-is_awaited.true) c.remove.new.self c.remove.ensures

pub returns : goal.returns
returns c = done c.args.state.now c.loop-call.state _ c.loop-call.after c.state.view_is c.loop-call.invariant c.first_behind.result c.in_default.not-Some c.first_behind.ensures.next
