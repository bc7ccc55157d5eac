use Rattle.mds_replies.proofs.Periods.{periods_go_on, periods_end, periods_are_own}
use Rattle.mds_replies.proofs.laws.period_law.Goals as goal

pub returns-clause-goes_on : goal.returns-clause-goes_on
returns-clause-goes_on c = periods_go_on

pub returns-clause-over : goal.returns-clause-over
returns-clause-over c = periods_end

pub returns-clause-own : goal.returns-clause-own
returns-clause-own c = periods_are_own
