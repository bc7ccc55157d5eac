use Rattle.cluster_model.specs.declared.ids.NodeId.TheVariants.{Client}
use Rattle.mirror_client.specs.ClientRule.{client_ticked}
use Rattle.world_rule.specs.Machines.{client_acts}
use Rattle.cluster_world.proofs.Ticks.{drafts_part}
use Rattle.cluster_world.proofs.time.tick_client.Goals as goal

pub returns : goal.returns
returns c =
    drafts_part (Client c.args.number) (λ now m. client_acts c.args.number (client_ticked now) m) c.args.now c.args.machines.now c.tick_client.new.self c.args.draft.now c.act.new.self c.new-out.result c.tick_client.new.out c.act.result
    c.in_ok-tick_client.ensures c.new-out.ensures.entries c.new-out.ensures.sends c.act.ensures.ok c.act.ensures.limit
