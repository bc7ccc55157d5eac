use Rattle.std.proofs.Common.{refl}
use Rattle.ff_xdr.specs.Form.{long, word}
use Rattle.mirror_client.proofs.worked.worked_client_runs.Goals as goal

pub returns-clause-unopened : goal.returns-clause-unopened
returns-clause-unopened c = refl

pub returns-clause-opening : goal.returns-clause-opening
returns-clause-opening c = refl

pub returns-clause-writing : goal.returns-clause-writing
unfolding long word
returns-clause-writing c = refl

pub returns-clause-committing : goal.returns-clause-committing
unfolding long word
returns-clause-committing c = refl

pub returns-clause-overlapping : goal.returns-clause-overlapping
unfolding long word
returns-clause-overlapping c = refl

pub returns-clause-reporting : goal.returns-clause-reporting
unfolding long word
returns-clause-reporting c = refl

pub returns-clause-reported : goal.returns-clause-reported
unfolding long word
returns-clause-reported c = refl

pub returns-clause-taken_away : goal.returns-clause-taken_away
unfolding long word
returns-clause-taken_away c = refl

pub returns-clause-all_failed : goal.returns-clause-all_failed
unfolding long word
returns-clause-all_failed c = refl

pub returns-clause-session_gone : goal.returns-clause-session_gone
unfolding long word
returns-clause-session_gone c = refl

pub returns-clause-retried : goal.returns-clause-retried
returns-clause-retried c = refl

pub returns-clause-renewing : goal.returns-clause-renewing
returns-clause-renewing c = refl
