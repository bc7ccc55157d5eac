use Rattle.held_mirrors.proofs.Holdings.{grants_held}
use Rattle.held_mirrors.proofs.HeldNow.{holders_own}
use Rattle.held_mirrors.proofs.laws.held_mirrors.Goals as goal

pub returns-clause-holdings : goal.returns-clause-holdings
returns-clause-holdings c = λ boots moves. grants_held c.server_guards.ensures.calls c.server_guards.ensures.restarts c.server_guards.ensures.new boots moves

pub returns-clause-owners : goal.returns-clause-owners
returns-clause-owners c = λ boots moves. holders_own c.server_guards.ensures.calls c.server_guards.ensures.restarts c.server_guards.ensures.new boots moves
