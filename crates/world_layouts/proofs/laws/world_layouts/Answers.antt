use Rattle.world_layouts.proofs.OwnIds.{IdLaws}
use Rattle.world_layouts.proofs.AllLayouts.{all_layouts}
use Rattle.world_layouts.proofs.laws.world_layouts.Goals as goal

pub returns : goal.returns
returns c = record {
  in_order = λ boots w run told room.
      (let ids : IdLaws = record {
        replies = record {
          calls = record {
            spelled = c.client_records.ensures.spelled;
            numbered = c.client_records.ensures.numbered;
            given = c.every_listing.ensures.whole;
            asks = c.every_mds_call.ensures.understood;
            replies = c.every_message.ensures.reply_again;
            spells = c.every_message.ensures.reply_spelled;
            taken = c.receive_law.ensures.taken;
            fit = c.fitting_calls.ensures.fit;
          };
          stands = c.replies_law.ensures.stands;
          whole = c.answers_law.ensures.whole;
          now = c.answers_law.ensures.now;
          asked = c.answers_law.ensures.asked;
        };
        who = c.client_sessions.ensures.who;
        slot = c.client_sessions.ensures.slot;
        ids = c.id_law.ensures.ids;
        sessions = c.id_law.ensures.sessions;
      } in
      all_layouts
      (record {
        returns = record {
          grants = record { layouts = record { ids = ids; own = c.period_law.ensures.own }; begin = c.entries_law.ensures.begin; confirmed = c.entries_law.ensures.confirmed };
          once = c.mds_run_law.ensures.fresh;
          ends = c.entries_law.ensures.ends_once;
        };
        own = c.client_sessions.ensures.returns;
        come = c.returned_ends.ensures.ends;
      })
      (record {
        ids = ids;
        new = c.session_order.ensures.new;
        stays = c.order_law.ensures.stays;
        first = c.order_law.ensures.first;
        misordered = c.order_law.ensures.misordered;
        taken = c.order_law.ensures.taken;
        counted = c.order_law.ensures.counted;
        rounds = c.session_rounds.ensures.rounds;
      })
      boots w run told room);
}
