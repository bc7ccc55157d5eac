use Rattle.std.proofs.Common.{sym, subst}
use Rattle.record_server.specs.Server.{ServingState, PushesOut}
use Rattle.record_server.proofs.EndLemmas.{no_turn, one_turn, last_turn, very_many}
use Rattle.record_server.proofs.server.RecordServer.flush.Goals as goal
use Rattle.record_server.proofs.server.RecordServer.flush.Goals.{else-loop-turn-test, then-loop-turn-test+then-not-push_on}

pub loop-turn-init : goal.loop-turn-init
loop-turn-init g c = no_turn c.args.self.now

pub loop-turn-preserved : goal.loop-turn-preserved
loop-turn-preserved g c = one_turn c.loop-turn._turn c.args.self.now c.loop-turn.self c.push_on.new.self c.push_on.result c.if-not-push_on.false c.loop-turn.invariant c.push_on.ensures

pub returns : goal.returns
returns g c =
    let old : ServingState = c.args.self.now in
    let mid : ServingState = c.loop-turn-test.self in
    let out : PushesOut old mid = elim c.loop-turn-test.branch [
      | else-loop-turn-test w ↦ very_many c.loop-turn._turn old c.loop-turn.self mid w.loop-turn-test.false c.loop-turn.auto._turn-end c.loop-turn.invariant w.self-is
      | then-loop-turn-test+then-not-push_on w ↦
          subst (λ (s : ServingState). PushesOut old s) (sym w.self-is) (last_turn c.loop-turn._turn old c.loop-turn.self w.push_on.new.self w.push_on.result w.if-not-push_on.true c.loop-turn.invariant w.push_on.ensures)
    ] in
    ((mid, out, c.close_owing.ensures.ends), c.close_owing.ensures.given)
