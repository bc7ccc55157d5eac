use Rattle.ff_replay.proofs.EventLemmas.{is_of_script}
use Rattle.ff_replay.proofs.line.parse_cluster_event.Goals as goal

pub returns-clause-asked : goal.returns-clause-asked
returns-clause-asked c = is_of_script c.args.sizes c.args.line.now c.parse_event.result c.parse_event.ensures
