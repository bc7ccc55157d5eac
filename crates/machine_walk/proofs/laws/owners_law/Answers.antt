use Rattle.machine_walk.proofs.WriterRuns.{applied_by_owners}
use Rattle.machine_walk.proofs.laws.owners_law.Goals as goal

pub returns : goal.returns
returns c = λ boots moves. applied_by_owners c.server_guards.ensures.new c.server_guards.ensures.calls c.server_guards.ensures.restarts boots moves
