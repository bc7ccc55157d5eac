use Rattle.world_layouts.proofs.LifeSends.{life_is}
use Rattle.world_holders.proofs.HolderFacts.{together, strays_left}
use Rattle.world_holders.proofs.PartsKept.{holders_keep_parts}
use Rattle.world_holders.proofs.laws.world_holders.Goals as goal

pub returns : goal.returns
returns c = record {
  parts = λ boots w run told order.
      holders_keep_parts w told
      (record {
        few = order.few;
        range = order.range;
        clients = record {
          spelled = c.client_records.ensures.spelled;
          numbered = c.client_records.ensures.numbered;
          users = c.client_sends.ensures.sends;
          returns = c.client_run_law.ensures.returns;
          silent = c.client_run_law.ensures.silent;
          apart = c.client_run_law.ensures.once;
          enters = c.client_sessions.ensures.enters;
          files = c.entered_files.ensures.files;
          strays = c.client_sessions.ensures.strays;
          bytes = c.client_sessions.ensures.bytes;
        };
        periods = c.world_moves.ensures.periods boots w run;
        fences = c.world_moves.ensures.fences boots w run;
        own = c.own_periods_law.ensures.periods;
        together = together w told;
        left = λ n l its. strays_left n l (life_is w told c.client_records.ensures.numbered n l its).facts.is.strays;
        stateids = order.layouts.stateids;
        once = order.once;
        granted = order.layouts.granted;
        uids = order.layouts.uids;
        sent = order.layouts.sent;
        ended = order.layouts.ended;
      });
}
