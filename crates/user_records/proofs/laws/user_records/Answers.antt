use Rattle.user_records.proofs.Users.{users, readers}
use Rattle.user_records.proofs.laws.user_records.Goals as goal

pub returns-clause-users : goal.returns-clause-users
returns-clause-users c = users

pub returns-clause-readers : goal.returns-clause-readers
returns-clause-readers c = readers
