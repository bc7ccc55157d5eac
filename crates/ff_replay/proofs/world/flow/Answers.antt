use Rattle.ff_replay.proofs.StageLemmas.{falls}
use Rattle.ff_replay.proofs.world.flow.Goals as goal

pub returns-in_ok-print_from-in-Ok-true-clause-falls : goal.returns-in_ok-print_from-in-Ok-true-clause-falls
returns-in_ok-print_from-in-Ok-true-clause-falls c more = falls c.args.world.now c.deliver_next.new.self c.deliver_next.result (cc (c.in-Ok-true.is)) c.deliver_next.ensures.meets c.deliver_next.ensures.spent
