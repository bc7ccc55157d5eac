use Rattle.std.proofs.lemmas.Result.{on_ok_weaker}
use Rattle.client_state.specs.ClientStates.{ClientValue}
use Rattle.client_state.specs.ClientSends.{and_then}
use Rattle.client_calls.specs.ClientCalls.{ends_event}
use Rattle.mirror_client.specs.ClientRule.{resends_late, renews}
use Rattle.mirror_client.proofs.StepLemmas.{stepped_then}
use Rattle.mirror_client.proofs.events.tick_on.Goals as goal

pub returns : goal.returns
returns c =
    on_ok_weaker c.renew_lease.result
    (λ stepped. stepped_then (and_then (ends_event c.args.client.now) (λ (d : ClientValue). resends_late d d.asked)) (renews c.args.now) c.args.out.now c.end_and_resend.new.out c.renew_lease.new.out
    c.end_and_resend.new.client c.renew_lease.new.client c.in_ok-end_and_resend.ensures stepped)
    c.renew_lease.ensures
