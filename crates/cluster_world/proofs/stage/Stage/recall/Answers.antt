use Rattle.cluster_model.specs.declared.ids.NodeId.TheVariants.{Mds}
use Rattle.cluster_model.specs.Event.{Recall}
use Rattle.mds_rule.specs.Events.{takes_recall}
use Rattle.world_rule.specs.Machines.{mds_acts}
use Rattle.world_rule.specs.ClusterWorlds.{ClusterState, behind}
use Rattle.cluster_world.specs.WorldSteps.{StageValue, StageBecomes}
use Rattle.std.proofs.Common.{subst}
use Rattle.cluster_world.proofs.Comings.{stage_of, acts}
use Rattle.cluster_world.proofs.stage.Stage.recall.Goals as goal

pub returns : goal.returns
returns c =
    let w : ClusterState = (stage_of c.self.inside.machines c.self.inside.verifiers.items c.self.inside.moment c.self.inside.packets c.self.inside.sent c.self.inside.journal).world in
    subst (λ (v : StageValue). StageBecomes v (behind (Recall c.args.file.0) v.world) c.act.result c.act.new.self) c.self.view_is
    (acts w c.self.inside.packets c.self.inside.packets Mds (mds_acts (λ m. takes_recall w.now m c.args.file) w.machines) c.recall.new.self c.new-out.result c.recall.new.out c.act.result c.act.new.self
    c.in_ok-recall.ensures c.new-out.ensures.entries c.new-out.ensures.sends c.act.ensures)
