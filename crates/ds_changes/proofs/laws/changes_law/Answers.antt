use Rattle.ds_changes.proofs.Keeping.{steady_after}
use Rattle.ds_changes.proofs.Lasting.{body_logged, nothing_logged}
use Rattle.ds_changes.proofs.laws.changes_law.Goals as goal

pub returns-clause-logged : goal.returns-clause-logged
returns-clause-logged c = body_logged

pub returns-clause-nothing : goal.returns-clause-nothing
returns-clause-nothing c = nothing_logged

pub returns-clause-steady : goal.returns-clause-steady
returns-clause-steady c = steady_after
