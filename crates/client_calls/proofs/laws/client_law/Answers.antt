use Rattle.client_calls.proofs.Numbers.{all_spelled, all_numbered}
use Rattle.client_calls.proofs.ItsMirrors.{all_home}
use Rattle.client_calls.proofs.laws.client_law.Goals as goal

pub returns-clause-numbers : goal.returns-clause-numbers
returns-clause-numbers c = all_numbered

pub returns-clause-mirrors : goal.returns-clause-mirrors
returns-clause-mirrors c = all_home

pub returns-clause-spelled : goal.returns-clause-spelled
returns-clause-spelled c = all_spelled
