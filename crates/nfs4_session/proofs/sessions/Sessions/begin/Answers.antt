use Rattle.std.proofs.Common.{refl}
use Rattle.nfs4_session.proofs.Turning.{begins}
use Rattle.nfs4_session.proofs.sessions.Sessions.begin.Goals as goal

pub returns : goal.returns
returns c = (
  (refl, λ _. tt, begins c.args.self.now c.take_turn-turn.new.self c.args.sequence.now c.args.now c.take_turn-turn.result c.answer.result c.take_turn-turn.ensures.turn c.take_turn-turn.ensures.after c.answer.ensures),
  record { begins = tt },
)
