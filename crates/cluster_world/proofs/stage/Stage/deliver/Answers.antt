use Rattle.std.proofs.Common.{◌≡◌, Some, Err, refl, sym, ap, subst, ◌∙◌}
use Rattle.std.proofs.lemmas.Result.{err_from_is_err_and}
use Rattle.packet_table.specs.Packets.{packet_numbered}
use Rattle.world_rule.specs.Machines.{HasActed, receives}
use Rattle.world_rule.specs.Sent.{bytes_at_place}
use Rattle.world_rule.specs.ClusterWorlds.{packets, delivering}
use Rattle.cluster_world.specs.WorldSteps.{StageValue, IsNoted, StageBecomes}
use Rattle.cluster_world.proofs.Comings.{stage_of, comes, fresh}
use Rattle.cluster_world.proofs.Deliveries.{coming, answer_past, delivered}
use Rattle.cluster_world.proofs.stage.Stage.deliver.Goals as goal

pub returns-in_err-act : goal.returns-in_err-act
returns-in_err-act c =
    let old : StageValue = stage_of c.self.inside.machines c.self.inside.verifiers.items c.self.inside.moment c.self.inside.packets c.self.inside.sent c.self.inside.journal in
    let noted : IsNoted old = subst IsNoted (sym c.self.view_is) c.requires in
    let new : c.draft-draft.result ≡ fresh old.world = c.draft-draft.ensures ∙ ap (λ (v : StageValue). fresh v.world) (sym c.self.view_is) in
    let is_noted : packet_numbered (packets old.world) c.args.number ≡ Some c.in-Some.note = ap (λ p. packet_numbered p c.args.number) (sym noted) ∙ sym c.get.ensures ∙ c.in-Some.is in
    let did : HasActed (coming c.in-Some.note old.world) c.new-out.result c.receive.new.self c.receive.new.out =
    subst (λ bytes. HasActed (receives c.self.inside.moment c.in-Some.note.from c.in-Some.note.to bytes c.self.inside.machines) c.new-out.result c.receive.new.self c.receive.new.out)
    (c.bytes_at-message.ensures ∙ ap (λ journal. bytes_at_place journal c.in-Some.note.place) c.entries.ensures.are) c.in_ok-receive.ensures in
    let p = err_from_is_err_and c.from_residual-in_err-act.result c.from_residual-in_err-act.ensures.1 in
    let after : StageValue = record { world = record old.world { machines = c.receive.new.self }; packets = c.self.inside.packets } in
    subst (λ (v : StageValue). StageBecomes v (delivering c.args.number v.world) c.from_residual-in_err-act.result after) c.self.view_is
    (answer_past old.world c.args.number c.in-Some.note is_noted c.draft-draft.result c.enter.new.self new c.in_ok-enter.ensures.ok c.receive.new.self c.new-out.result c.receive.new.out did c.new-out.ensures.entries c.new-out.ensures.sends
    old after c.in_err-act.field-0.0 c.from_residual-in_err-act.result refl refl (p.1 ∙ ap Err p.2) c.in_err-act.ensures.limit)

pub returns : goal.returns
returns c =
    let old : StageValue = stage_of c.self.inside.machines c.self.inside.verifiers.items c.self.inside.moment c.self.inside.packets c.self.inside.sent c.self.inside.journal in
    let noted : IsNoted old = subst IsNoted (sym c.self.view_is) c.requires in
    let new : c.draft-draft.result ≡ fresh old.world = c.draft-draft.ensures ∙ ap (λ (v : StageValue). fresh v.world) (sym c.self.view_is) in
    let is_noted : packet_numbered (packets old.world) c.args.number ≡ Some c.in-Some.note = ap (λ p. packet_numbered p c.args.number) (sym noted) ∙ sym c.get.ensures ∙ c.in-Some.is in
    let did : HasActed (coming c.in-Some.note old.world) c.new-out.result c.receive.new.self c.receive.new.out =
    subst (λ bytes. HasActed (receives c.self.inside.moment c.in-Some.note.from c.in-Some.note.to bytes c.self.inside.machines) c.new-out.result c.receive.new.self c.receive.new.out)
    (c.bytes_at-message.ensures ∙ ap (λ journal. bytes_at_place journal c.in-Some.note.place) c.entries.ensures.are) c.in_ok-receive.ensures in
    let after : StageValue = record { world = record old.world { machines = c.receive.new.self }; packets = c.self.inside.packets } in
    subst (λ (v : StageValue). StageBecomes v (delivering c.args.number v.world) c.enter-2.result c.enter-2.new.self) c.self.view_is
    (comes after old _ _ c.enter-2.result c.enter-2.new.self refl
    (delivered old.world c.args.number c.in-Some.note is_noted c.draft-draft.result c.enter.new.self new c.in_ok-enter.ensures.ok c.receive.new.self c.new-out.result c.receive.new.out did c.new-out.ensures.entries c.new-out.ensures.sends c.act.new.self c.in_ok-act.ensures.ok)
    c.enter-2.ensures)
