use Rattle.client_records.proofs.Numbers.{numbered}
use Rattle.client_records.proofs.Spelled.{spelled}
use Rattle.client_records.proofs.laws.client_records.Goals as goal

pub returns-clause-spelled : goal.returns-clause-spelled
returns-clause-spelled c = spelled

pub returns-clause-numbered : goal.returns-clause-numbered
returns-clause-numbered c = numbered
