use Rattle.cluster_model.specs.declared.ids.NodeId.TheVariants.{Mds}
use Rattle.mds_rule.specs.Events.{takes_tick}
use Rattle.world_rule.specs.Machines.{mds_acts}
use Rattle.cluster_world.proofs.Ticks.{drafts_part}
use Rattle.cluster_world.proofs.time.tick_mds.Goals as goal

pub returns : goal.returns
returns c =
    drafts_part Mds (λ now m. mds_acts (takes_tick now) m) c.args.now c.args.machines.now c.tick_mds.new.self c.args.draft.now c.act.new.self c.new-out.result c.tick_mds.new.out c.act.result
    c.in_ok-tick_mds.ensures c.new-out.ensures.entries c.new-out.ensures.sends c.act.ensures.ok c.act.ensures.limit
