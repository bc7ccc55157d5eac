use Rattle.mds_replies.proofs.EndsOnce.{uids_end_once}
use Rattle.mds_replies.proofs.ConfirmedHolders.{periods_are_confirmed}
use Rattle.mds_replies.proofs.PeriodsBegun.{periods_begin}
use Rattle.mds_replies.proofs.laws.entries_law.Goals as goal

pub returns-clause-ends_once : goal.returns-clause-ends_once
returns-clause-ends_once c = uids_end_once

pub returns-clause-confirmed : goal.returns-clause-confirmed
returns-clause-confirmed c = periods_are_confirmed

pub returns-clause-begin : goal.returns-clause-begin
returns-clause-begin c = periods_begin
