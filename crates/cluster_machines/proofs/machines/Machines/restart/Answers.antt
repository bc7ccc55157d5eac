use Rattle.std.proofs.Common.{Err, refl, sym, ap, ◌∙◌}
use Rattle.cluster_model.specs.Server.{restart_of}
use Rattle.cluster_machines.proofs.Acting.{none_restarts, boots_spent, restarted}
use Rattle.cluster_machines.proofs.machines.Machines.restart.Goals as goal

pub returns-in_default : goal.returns-in_default
returns-in_default c = none_restarts c.args.self.now _ c.self.inside.servers.items _ c.self.view_is c.args.server c.len.result c.args.pieces c.args.out.now (c.len.ensures ∙ c.self.inside.servers.ok.0) (sym c.index_of.ensures.exact ∙ c.in_default.is)

pub returns-in-Err-BootsSpent : goal.returns-in-Err-BootsSpent
returns-in-Err-BootsSpent c = boots_spent c.args.self.now _ c.self.inside.servers.items _ c.self.view_is c.args.server c.len.result c.in-Some.index c.index_mut.result.now (c.len.ensures ∙ c.self.inside.servers.ok.0) c.in-Some.ensures.within.0 c.in-Some.ensures.within.1 c.index_mut.ensures.value c.args.pieces c.restart.new.self c.args.out.now (ap (restart_of c.index_mut.result.now) (sym c.as_slice.ensures) ∙ c.restart.ensures.spent.0 (c.in-Err-BootsSpent.is ∙ ap Err c.in-Err-BootsSpent.field-0-is)) c.in-Err-BootsSpent.ensures.err

pub returns : goal.returns
returns c = restarted c.args.self.now _ c.self.inside.servers.items _ c.self.view_is c.args.server c.len.result c.in-Some.index c.index_mut.result.now (c.len.ensures ∙ c.self.inside.servers.ok.0) c.in-Some.ensures.within.0 c.in-Some.ensures.within.1 c.index_mut.ensures.value c.args.pieces c.restart.new.self c.args.out.now (record c.args.out.now { entries = c.push.new.self }) (ap (restart_of c.index_mut.result.now) (sym c.as_slice.ensures) ∙ c.in-Ok.ensures.ok) c.in_ok-push.ensures.items refl
