use Rattle.std.proofs.Common.{◌≡◌, length, Ok, refl, sym, subst}
use Rattle.cluster_world.specs.WorldSteps.{StageValue, IsNoted, StageBecomes, drafted}
use Rattle.world_rule.specs.Sent.{noting_all}
use Rattle.cluster_world.proofs.Comings.{stage_of, entered}
use Rattle.cluster_world.proofs.stage.Stage.enter_at.Goals as goal

pub returns : goal.returns
returns c =
    let old : StageValue = stage_of c.self.inside.machines c.self.inside.verifiers.items c.self.inside.moment c.self.inside.packets c.self.inside.sent c.self.inside.journal in
    let noted : IsNoted old = subst IsNoted (sym c.self.view_is) c.requires.noted in
    let were : c.note_all.new.packets ≡ noting_all c.self.inside.packets (length c.self.inside.journal) c.into_parts-entries.result.0.items = rw (← c.count.ensures, ← c.deref.ensures.value) c.in_ok-note_all.ensures in
    subst (λ (v : StageValue). StageBecomes v (drafted v.world c.args.moment c.args.draft) (Ok tt) (record { world = record old.world { now = c.args.moment; held = c.note_all.new.packets.held; sent = c.into_parts-entries.result.1; journal = c.add.new.self }; packets = c.note_all.new.packets })) c.self.view_is
    (entered old c.args.draft c.args.moment c.into_parts-entries.result.1 c.into_parts-entries.result.0.items c.add.new.self c.note_all.new.packets noted refl were c.into_parts-entries.ensures.0 c.into_parts-entries.ensures.1 c.in_ok-add.ensures.0 c.in_ok-add.ensures.1)
