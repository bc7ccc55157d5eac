use Rattle.std.proofs.Common.{sym, ◌∙◌}
use Rattle.cluster_machines.proofs.Acting.{none_acts, server_acted}
use Rattle.cluster_machines.proofs.machines.Machines.server_receives.Goals as goal

pub returns-in_default : goal.returns-in_default
returns-in_default c = none_acts c.args.self.now _ c.self.inside.servers.items _ c.self.view_is c.args.number c.len.result c.args.from c.args.message.now c.args.out.now (c.len.ensures ∙ c.self.inside.servers.ok.0) (sym c.index_of.ensures.exact ∙ c.in_default.is)

pub returns : goal.returns
returns c = server_acted c.args.self.now _ c.self.inside.servers.items _ c.self.view_is c.args.number c.len.result c.in-Some.index c.index_mut.result.now (c.len.ensures ∙ c.self.inside.servers.ok.0) c.in-Some.ensures.within.0 c.in-Some.ensures.within.1 c.index_mut.ensures.value c.args.from c.args.message.now c.on_record.new.self c.args.out.now c.on_record.result c.on_record.new.out c.on_record.ensures.ok
