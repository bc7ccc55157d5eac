use Rattle.copied_bytes.proofs.SourceRuns.{swaps_from_stable}
use Rattle.copied_bytes.proofs.AlikeRuns.{frees_alike}
use Rattle.copied_bytes.proofs.LiveRuns.{copies_leave_as_shown}
use Rattle.copied_bytes.proofs.TargetRuns.{swaps_in_alike}
use Rattle.copied_bytes.proofs.copied_bytes.Goals as goal

pub returns-clause-applied : goal.returns-clause-applied
returns-clause-applied c = c.owners_law.ensures

pub returns-clause-sources : goal.returns-clause-sources
returns-clause-sources c = λ boots moves. swaps_from_stable c.server_guards.ensures.calls c.server_guards.ensures.restarts c.server_guards.ensures.new boots moves

pub returns-clause-swapped : goal.returns-clause-swapped
returns-clause-swapped c = λ boots moves. swaps_in_alike c.server_guards.ensures.calls c.server_guards.ensures.restarts c.server_guards.ensures.new boots moves

pub returns-clause-late : goal.returns-clause-late
returns-clause-late c = λ boots moves. copies_leave_as_shown c.server_guards.ensures.calls c.server_guards.ensures.restarts c.server_guards.ensures.new boots moves

pub returns-clause-freed : goal.returns-clause-freed
returns-clause-freed c = λ boots moves. frees_alike c.server_guards.ensures.calls c.server_guards.ensures.restarts c.server_guards.ensures.new boots moves
