use Rattle.std.proofs.Common.{◌≡◌, false, OnOk, sym, ap, ◌∙◌, subst}
use Rattle.client_state.specs.ClientStates.{ClientValue}
use Rattle.client_state.specs.ClientSends.{ClientStep}
use Rattle.mirror_client.specs.ClientRule.{client_at_tick, ticks_on}
use Rattle.client_state.specs.QueueSteps.{HasStepped}
use Rattle.mirror_client.proofs.StepLemmas.{still_here}
use Rattle.mirror_client.proofs.events.tick.Goals as goal

pub returns : goal.returns
returns c =
    let v = c.args.client.now in
    let here : v.has_left ≡ false = ap (λ (x : ClientValue). x.has_left) (sym c.client.view_is) ∙ c.if-client.false in
    subst (λ (s : ClientStep). OnOk c.tick_on.result (HasStepped s c.args.out.now c.tick_on.new.client c.tick_on.new.out)) (sym (still_here v (ticks_on c.args.now (client_at_tick v)) here))
    (subst (λ (x : ClientValue). OnOk c.tick_on.result (HasStepped (ticks_on c.args.now x) c.args.out.now c.tick_on.new.client c.tick_on.new.out)) c.wake.ensures c.tick_on.ensures)
