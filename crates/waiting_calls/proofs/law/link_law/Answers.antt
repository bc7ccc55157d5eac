use Rattle.waiting_calls.specs.LinkLaws.{out_since}
use Rattle.waiting_calls.proofs.CountLemmas.{counted, kept}
use Rattle.waiting_calls.proofs.TurnLemmas.{end_rightly, in_time, silent_if_down, up_behind_record}
use Rattle.waiting_calls.proofs.law.link_law.Goals as goal

pub returns-clause-kept : goal.returns-clause-kept
returns-clause-kept c moves calls run node xid = kept (out_since node xid moves) node xid calls (counted moves calls run node xid)

pub returns-clause-ended : goal.returns-clause-ended
returns-clause-ended c = end_rightly

pub returns-clause-in_time : goal.returns-clause-in_time
returns-clause-in_time c = in_time

pub returns-clause-down : goal.returns-clause-down
returns-clause-down c = silent_if_down

pub returns-clause-up : goal.returns-clause-up
returns-clause-up c = up_behind_record
