use Rattle.std.proofs.lemmas.Result.{on_ok_weaker}
use Rattle.client_state.specs.ClientStates.{ClientValue}
use Rattle.client_calls.specs.ClientCalls.{ends_event}
use Rattle.mirror_client.specs.ClientRule.{resends_late}
use Rattle.mirror_client.proofs.StepLemmas.{stepped_then}
use Rattle.mirror_client.proofs.events.end_and_resend.Goals as goal

pub returns : goal.returns
returns c =
    on_ok_weaker c.resend_late.result
    (λ stepped. stepped_then (ends_event c.args.client.now) (λ (d : ClientValue). resends_late d d.asked) c.args.out.now c.end_event.new.out c.resend_late.new.out
    c.end_event.new.client c.resend_late.new.client c.in_ok-end_event.ensures stepped)
    c.resend_late.ensures
