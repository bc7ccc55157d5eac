use Rattle.std.proofs.Common.{refl, sym, ◌∙◌}
use Rattle.client_calls.specs.ClientCalls.{call_by_ask}
use Rattle.client_calls.proofs.Spelled.{asked_so}
use Rattle.client_calls.proofs.compounds.ask_mds.Goals as goal

pub returns : goal.returns
returns c =
    asked_so c.args.client.now c.args.ask (call_by_ask c.args.client.now c.args.ask) c.in-Some.message c.begin_ask.new.client c.args.out.now (record { entries = c.args.out.now.entries; sends = c.push.new.self })
    (sym c.in_ok-message.ensures ∙ c.in-Some.is) c.in_ok-begin_ask.ensures refl c.in_ok-push.ensures.items
