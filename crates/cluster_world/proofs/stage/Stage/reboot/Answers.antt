use Rattle.std.proofs.Common.{◌≡◌, ap, subst, ◌∙◌}
use Rattle.world_rule.specs.Machines.{nth}
use Rattle.world_rule.specs.ClusterWorlds.{ClusterState, rebooting, verifier_after}
use Rattle.cluster_world.specs.WorldSteps.{StageValue, StageBecomes}
use Rattle.cluster_world.proofs.Comings.{stage_of, started}
use Rattle.cluster_world.proofs.stage.Stage.reboot.Goals as goal

pub returns : goal.returns
returns c =
    let w : ClusterState = (stage_of c.self.inside.machines c.self.inside.verifiers.items c.self.inside.moment c.self.inside.packets c.self.inside.sent c.self.inside.journal).world in
    let next : c.next_verifier-verifier.result ≡ verifier_after (nth w.verifiers c.args.client) = c.next_verifier-verifier.ensures ∙ ap (λ verifiers. verifier_after (nth verifiers c.args.client)) c.deref.ensures.value in
    subst (λ (v : StageValue). StageBecomes v (rebooting c.args.client v.world) c.act.result c.act.new.self) c.self.view_is
    (started w c.self.inside.packets c.self.inside.packets c.args.client c.next_verifier-verifier.result c.may_start-starts.result c.set_verifier.new.verifiers.items c.reboot.new.self c.new-out.result c.reboot.new.out c.act.result c.act.new.self
    c.may_start-starts.ensures next c.set_verifier.ensures c.in_ok-reboot.ensures c.new-out.ensures.entries c.new-out.ensures.sends c.act.ensures)
