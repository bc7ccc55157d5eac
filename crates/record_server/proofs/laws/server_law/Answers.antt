use Rattle.record_server.proofs.CrowdLemmas.{few_open}
use Rattle.record_server.proofs.HistoryLemmas.{all_stand}
use Rattle.record_server.proofs.laws.server_law.Goals as goal

pub returns-clause-stand : goal.returns-clause-stand
returns-clause-stand c waiting made reported moment faults events new happened i e there = all_stand waiting made reported moment faults events new happened i e there

pub returns-clause-few : goal.returns-clause-few
returns-clause-few c waiting made reported moment faults events new = few_open waiting made reported moment faults events new
