use Rattle.ff_replay.proofs.LineLemmas.{stays}
use Rattle.ff_replay.proofs.world.happen.Goals as goal

pub returns-in-Err-Limit-clause-spent : goal.returns-in-Err-Limit-clause-spent
returns-in-Err-Limit-clause-spent c = stays c.args.world.now c.step.new.self _ c.step.ensures.spent
