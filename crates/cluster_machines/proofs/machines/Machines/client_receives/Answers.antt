use Rattle.std.proofs.Common.{sym, ◌∙◌}
use Rattle.mirror_client.specs.ClientRule.{client_recorded}
use Rattle.cluster_machines.proofs.Acting.{no_client, client_acted}
use Rattle.cluster_machines.proofs.machines.Machines.client_receives.Goals as goal

pub returns-in_default : goal.returns-in_default
returns-in_default c =
    no_client c.args.self.now _ _ c.self.inside.clients.items c.self.view_is c.args.number c.len.result (client_recorded c.args.from c.args.message.now c.args.now) c.args.out.now (c.len.ensures ∙ c.self.inside.clients.ok.0) (sym c.index_of.ensures.exact ∙ c.in_default.is)

pub returns : goal.returns
returns c =
    client_acted c.args.self.now _ _ c.self.inside.clients.items c.self.view_is c.args.number c.len.result c.in-Some.index c.index_mut.result.now (c.len.ensures ∙ c.self.inside.clients.ok.0) c.in-Some.ensures.within.0 c.in-Some.ensures.within.1 c.index_mut.ensures.value (client_recorded c.args.from c.args.message.now c.args.now) c.on_record.new.self c.args.out.now c.on_record.result c.on_record.new.out
    c.on_record.ensures
