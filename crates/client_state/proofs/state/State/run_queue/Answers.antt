use Rattle.client_state.specs.ClientQueue.{run_queue}
use Rattle.client_state.specs.contracts.state.State.{the_view}
use Rattle.client_state.proofs.QueueLemmas.{begins, none_there, turn_asks}
use Rattle.client_state.proofs.state.State.run_queue.Goals as goal

pub loop-request-init : goal.loop-request-init
loop-request-init c = begins c.args.self.now c.args.out.now

pub returns-in-Asks : goal.returns-in-Asks
returns-in-Asks c =
    turn_asks (run_queue c.args.self.now) c.args.out.now c.loop-request.out (the_view c.self.inside) c.loop-request.self c.in-Some.request c.pop_front.new.self.items c.in_ok-judge_head.field-0
    c.judge_head.new.self c.keep_head-in-Asks.new.self c.in-Asks.ask c.judge_head.new.out
    c.self.view_is c.in-Some.ensures.items c.in_ok-judge_head.ensures c.in-Asks.is c.in_ok-keep_head-in-Asks.ensures c.loop-request.invariant

pub returns : goal.returns
returns c =
    none_there (run_queue c.args.self.now) c.args.out.now (the_view c.self.inside) c.loop-request.self c.pop_front.new.self.items c.loop-request.out
    c.self.view_is c.in_default.ensures.items c.in_default.ensures.rest c.loop-request.invariant
