use Rattle.record_link.proofs.ConnectionLemmas.{starts}
use Rattle.record_link.proofs.connection.Connection.new.Goals as goal

pub invariant_of-result : goal.invariant_of-result
invariant_of-result c = starts c.new.result c.new.ensures
