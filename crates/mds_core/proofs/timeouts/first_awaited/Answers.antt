use Rattle.std.proofs.Common.{◌≡◌, true, Some, sym, ap, ◌∙◌}
use Rattle.mds_rule.specs.MdsStates.{AwaitedCall, MdsValue}
use Rattle.mds_rule.specs.Answers.{is_awaited}
use Rattle.mds_core.proofs.NextAwaited.{none_awaited, first_found, sought_on, fewer_left}
use Rattle.mds_core.proofs.timeouts.first_awaited.Goals as goal

pub returns-in_err-call : goal.returns-in_err-call
returns-in_err-call c =
    rw (c.from_residual.ensures)
    (none_awaited c.args.state.now c.args.node c.loop-call.after c.state.inside.calls (ap (λ (m : MdsValue). m.calls) c.state.view_is) c.loop-call.invariant c.in_err-call.ensures.next)

pub returns-then-is_awaited : goal.returns-then-is_awaited
returns-then-is_awaited c =
    let waiting : is_awaited c.args.state.now c.in_ok-call.call.now ≡ true =
    ap (λ (d : AwaitedCall). is_awaited c.args.state.now d) (sym c.call.view_is) ∙ sym c.is_awaited.ensures ∙ c.if-is_awaited.true in
    first_found c.args.state.now c.args.node c.loop-call.after c.state.inside.calls (ap (λ (m : MdsValue). m.calls) c.state.view_is) c.in_ok-call.call.now c.loop-call.invariant
    c.in_ok-call.ensures.next waiting

pub loop-call-smaller : goal.loop-call-smaller
loop-call-smaller c =
    fewer_left c.args.state.now c.args.node c.loop-call.after c.state.inside.calls (ap (λ (m : MdsValue). m.calls) c.state.view_is) _
    (ap (λ (d : AwaitedCall). Some d) c.call.view_is ∙ c.in_ok-call.ensures.next)

pub loop-call-preserved : goal.loop-call-preserved
loop-call-preserved c =
    sought_on c.args.state.now c.args.node c.loop-call.after c.state.inside.calls (ap (λ (m : MdsValue). m.calls) c.state.view_is) _ c.loop-call.invariant
    (ap (λ (d : AwaitedCall). Some d) c.call.view_is ∙ c.in_ok-call.ensures.next) c.in_ok-call.ensures.ordered (sym c.is_awaited.ensures ∙ c.if-is_awaited.false)
