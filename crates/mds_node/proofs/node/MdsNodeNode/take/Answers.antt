use Rattle.ff_node.proofs.ServeLemmas.{wrote_none, began_none}
use Rattle.mds_node.proofs.node.MdsNodeNode.take.Goals as goal

pub returns-in-Ok-clause-writes : goal.returns-in-Ok-clause-writes
returns-in-Ok-clause-writes g c = wrote_none (g.K.Sink.held c.args._sink.now)

pub returns-in-Err-clause-writes : goal.returns-in-Err-clause-writes
returns-in-Err-clause-writes g c = began_none (g.K.Sink.held c.args._sink.now)
