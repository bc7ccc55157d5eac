use Rattle.ff_node.proofs.ServeLemmas.{began_none, wrote_none}
use Rattle.ds_node.proofs.node.DsNodeNode.take.Goals as goal

pub returns-in-Err-clause-writes : goal.returns-in-Err-clause-writes
returns-in-Err-clause-writes g c = began_none (g.K.Sink.held c.args._sink.now)

pub returns-after-is_call_record-clause-writes : goal.returns-after-is_call_record-clause-writes
returns-after-is_call_record-clause-writes g c = wrote_none (g.K.Sink.held c.args._sink.now)
