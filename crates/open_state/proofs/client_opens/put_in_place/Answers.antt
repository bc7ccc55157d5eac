use Rattle.open_state.specs.Opens.{in_place}
use Rattle.open_state.proofs.OfClients.{next_done}
use Rattle.open_state.proofs.client_opens.put_in_place.Goals as goal

pub loop-other-preserved : goal.loop-other-preserved
loop-other-preserved c =
    next_done (in_place c.args.given) c.args.opens.now c.loop-other.other-items c.loop-other.other-index _ c.in_place.result c.loop-other-test.true c.loop-other.auto.other-items c.loop-other.invariant c.in_place.ensures
