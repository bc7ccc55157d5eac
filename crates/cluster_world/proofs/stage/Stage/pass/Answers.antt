use Rattle.std.proofs.Common.{refl, sym, subst}
use Rattle.packet_table.specs.Packets.{after_pass}
use Rattle.cluster_world.specs.WorldSteps.{StageValue, IsNoted}
use Rattle.cluster_world.proofs.Comings.{stage_of, noted_after}
use Rattle.cluster_world.proofs.stage.Stage.pass.Goals as goal

pub enter_alone-requires : goal.enter_alone-requires
enter_alone-requires c =
    let old : StageValue = stage_of c.self.inside.machines c.self.inside.verifiers.items c.self.inside.moment c.self.inside.packets c.self.inside.sent c.self.inside.journal in
    let noted : IsNoted old = subst IsNoted (sym c.self.view_is) c.requires in
    noted_after old refl noted (after_pass c.args.from c.args.to) (λ p. refl) c.pass.new.self c.pass.ensures
