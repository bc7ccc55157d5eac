use Rattle.std.proofs.Common.{ℕ, List, Option, Some, refl, subst}
use Rattle.std.proofs.lemmas.Result.{on_ok_weaker}
use Rattle.rpc_record.specs.Calls.{call_at}
use Rattle.client_callbacks.specs.Callbacks.{callback_of}
use Rattle.client_callbacks.specs.CallbackSteps.{HasCalledBack}
use Rattle.mirror_client.proofs.StepLemmas.{called_back}
use Rattle.mirror_client.proofs.receive.find_call.Goals as goal

pub returns : goal.returns
returns c =
    let k = callback_of (call_at c.args.message.now) c.args.client.now in
    let called : HasCalledBack k (Some c.in-Some.reply) c.take_callback.new.client c.args.client.now = subst (λ (x : Option (List ℕ)). HasCalledBack k x c.take_callback.new.client c.args.client.now) c.in-Some.is c.in_ok-reply.ensures in
    on_ok_weaker c.end_event.result
    (λ stepped. called_back k c.args.message.now c.args.now c.args.client.now c.take_callback.new.client c.in-Some.reply c.args.out.now (record { entries = c.args.out.now.entries; sends = c.push.new.self }) c.end_event.new.out c.end_event.new.client
    called refl c.in_ok-push.ensures.items stepped)
    c.end_event.ensures
