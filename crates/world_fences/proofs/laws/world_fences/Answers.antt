use Rattle.world_fences.proofs.GrantsOfWorlds.{grants_placed}
use Rattle.world_fences.proofs.HeardRefusals.{had_ended}
use Rattle.world_fences.proofs.laws.world_fences.Goals as goal

pub returns : goal.returns
returns c = record {
  refusals = λ boots w run told roomy order owns n l earlier later grant its split granted fenced.
      had_ended w told
      (record {
        calls = record {
          few = roomy.few_clients;
          range = roomy.range;
          spelled = c.client_records.ensures.spelled;
          numbered = c.client_records.ensures.numbered;
          users = c.client_sends.ensures.sends;
        };
        granted_calls = c.client_sessions.ensures.calls;
        same = c.proper_servers.ensures.same;
        periods = c.world_moves.ensures.periods boots w run;
        placed = grants_placed
            (record {
              calls = c.server_guards.ensures.calls;
              restarts = c.server_guards.ensures.restarts;
              new = c.server_guards.ensures.new;
              same = c.telling_entries.ensures.same;
              runs = c.telling_entries.ensures.runs;
            }) boots w run;
        granted = order.granted;
        owns = owns;
      }) n l its earlier later grant split granted fenced;
}
