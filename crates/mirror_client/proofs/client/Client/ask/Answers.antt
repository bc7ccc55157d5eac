use Rattle.std.proofs.Common.{ap, ◌∙◌}
use Rattle.mirror_client.specs.ClientRule.{client_requested}
use Rattle.mirror_client.specs.ClientSteps.{ClientOfUser}
use Rattle.mirror_client.proofs.ClientLemmas.{ended}
use Rattle.mirror_client.proofs.client.Client.ask.Goals as goal

pub returns : goal.returns
returns c =
    ended (client_requested c.args.asked) c.args.self.now c.end.new.self c.args.out.now c.in_ok-own.own c.request.new.out c.end.new.out c.self.inside.state c.request.new.client
    c.in_ok-own.ensures.was (ap (λ (s : ClientOfUser). s.client) c.self.view_is ∙ c.begin.ensures.client) c.in_ok-own.ensures.entries c.in_ok-own.ensures.sends
    c.in_ok-request.ensures c.end.ensures.client c.end.result c.end.ensures.is c.end.ensures.spent c.end.ensures.entries c.end.ensures.sends c.end.ensures.no_entries c.end.ensures.no_sends
