use Rattle.mds_rule.specs.Goes.{place_calls}
use Rattle.mds_sends.proofs.GoesEach.{five_turns}
use Rattle.mds_sends.proofs.all.call_places.Goals as goal

pub returns : goal.returns
returns c =
    five_turns (place_calls c.args.file) c.args.out.now c.call_place.new.out c.call_place-2.new.out c.call_place-3.new.out c.call_place-4.new.out c.call_place-5.new.out c.args.state.now c.call_place.new.state c.call_place-2.new.state
    c.call_place-3.new.state c.call_place-4.new.state c.call_place-5.new.state c.call_place-5.result c.in_ok-call_place.ensures c.in_ok-call_place-2.ensures c.in_ok-call_place-3.ensures c.in_ok-call_place-4.ensures c.call_place-5.ensures
