use Rattle.world_layouts.proofs.OneRequest.{SessionLaws, one_request_each}
use Rattle.world_grants.proofs.OneEffect.{OnceLaws}
use Rattle.world_grants.proofs.TwoGrants.{grants_are_once}
use Rattle.world_grants.proofs.laws.world_grants.Goals as goal

pub returns : goal.returns
returns c = record {
  once = λ boots w run told room ends.
      (let sessions : SessionLaws = record {
        ids = record {
          replies = record {
            calls = record {
              spelled = c.client_records.ensures.spelled;
              numbered = c.client_records.ensures.numbered;
              given = c.every_listing.ensures.whole;
              asks = c.every_mds_call.ensures.understood;
              replies = c.every_message.ensures.reply_again;
              spells = c.every_message.ensures.reply_spelled;
              taken = c.receive_law.ensures.taken;
              fit = c.fitting_calls.ensures.fit;
            };
            stands = c.replies_law.ensures.stands;
            whole = c.answers_law.ensures.whole;
            now = c.answers_law.ensures.now;
            asked = c.answers_law.ensures.asked;
          };
          who = c.client_sessions.ensures.who;
          slot = c.client_sessions.ensures.slot;
          ids = c.id_law.ensures.ids;
          sessions = c.id_law.ensures.sessions;
        };
        new = c.session_order.ensures.new;
        stays = c.order_law.ensures.stays;
        first = c.order_law.ensures.first;
        misordered = c.order_law.ensures.misordered;
        taken = c.order_law.ensures.taken;
        counted = c.order_law.ensures.counted;
        rounds = c.session_rounds.ensures.rounds;
      } in
      let laws : OnceLaws = record {
        sessions = sessions;
        asks = c.client_sessions.ensures.asks;
        own = c.period_law.ensures.own;
        goes_on = c.period_law.ensures.goes_on;
        over = c.period_law.ensures.over;
        numbered = c.effect_law.ensures.numbered;
        gone = c.session_order.ensures.quiet;
        reports = c.slot_reports.ensures.agree;
      } in
      grants_are_once laws boots w run told room.few_clients room.range room.mds room.starts (one_request_each sessions boots w run told room.few_clients room.range room.mds room.starts) ends);
}
