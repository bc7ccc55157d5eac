use Rattle.std.proofs.Common.{sym, ◌∙◌}
use Rattle.client_state.specs.declared.request.UserRequest.TheVariants.{Commit}
use Rattle.mirror_client.specs.ClientRule.{client_requested}
use Rattle.cluster_machines.proofs.Acting.{no_client, client_acted}
use Rattle.cluster_machines.proofs.machines.Machines.commit.Goals as goal

pub returns-in_default : goal.returns-in_default
returns-in_default c =
    no_client c.args.self.now _ _ c.self.inside.clients.items c.self.view_is c.args.client c.len.result (client_requested Commit) c.args.out.now (c.len.ensures ∙ c.self.inside.clients.ok.0) (sym c.index_of.ensures.exact ∙ c.in_default.is)

pub returns : goal.returns
returns c =
    client_acted c.args.self.now _ _ c.self.inside.clients.items c.self.view_is c.args.client c.len.result c.in-Some.index c.index_mut.result.now (c.len.ensures ∙ c.self.inside.clients.ok.0) c.in-Some.ensures.within.0 c.in-Some.ensures.within.1 c.index_mut.ensures.value (client_requested Commit) c.commit.new.self c.args.out.now c.commit.result c.commit.new.out
    c.commit.ensures
