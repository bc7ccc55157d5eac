use Rattle.record_server.proofs.CallLemmas.{next_happens, wait_happens, connect_happens, flush_happens}
use Rattle.record_server.proofs.laws.calls_law.Goals as goal

pub returns-clause-next : goal.returns-clause-next
returns-clause-next c = next_happens

pub returns-clause-wait : goal.returns-clause-wait
returns-clause-wait c = wait_happens

pub returns-clause-connect : goal.returns-clause-connect
returns-clause-connect c = connect_happens

pub returns-clause-flush : goal.returns-clause-flush
returns-clause-flush c = flush_happens
