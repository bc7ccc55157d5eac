use Rattle.std.proofs.Common.{◌≡◌, ◌+◌, ◌<◌, Err, refl, sym, ap, subst, ◌∙◌, arith}
use Rattle.std.proofs.lemmas.Result.{err_from_is_err_and}
use Rattle.world_rule.specs.ClusterWorlds.{ticking}
use Rattle.cluster_world.specs.WorldSteps.{StageValue, StageBecomes}
use Rattle.cluster_world.proofs.Comings.{stage_of, comes, fresh}
use Rattle.cluster_world.proofs.Ticks.{tick_past, ticks_past, ticked, early_still}
use Rattle.cluster_world.proofs.stage.Stage.tick.Goals as goal

pub returns-in_err-enter : goal.returns-in_err-enter
returns-in_err-enter c =
    let p = err_from_is_err_and c.from_residual.result c.from_residual.ensures.1 in
    tick_past c.args.self.now c.args.seconds c.draft-draft.result c.in_err-enter.field-0.0 c.from_residual.result (p.1 ∙ ap Err p.2) c.draft-draft.ensures c.in_err-enter.ensures.limit

pub returns-in_err-tick_machines : goal.returns-in_err-tick_machines
returns-in_err-tick_machines c =
    let old : StageValue = stage_of c.self.inside.machines c.self.inside.verifiers.items c.self.inside.moment c.self.inside.packets c.self.inside.sent c.self.inside.journal in
    let new : c.draft-draft.result ≡ fresh old.world = c.draft-draft.ensures ∙ ap (λ (v : StageValue). fresh v.world) (sym c.self.view_is) in
    let later : c.self.inside.moment + c.from.result ≡ c.self.inside.moment + c.args.seconds = omega arith in
    let p = err_from_is_err_and c.from_residual-in_err-tick_machines.result c.from_residual-in_err-tick_machines.ensures.1 in
    let after : StageValue = record { world = record old.world { machines = c.tick_machines.new.machines }; packets = c.self.inside.packets } in
    subst (λ (v : StageValue). StageBecomes v (ticking c.args.seconds v.world) c.from_residual-in_err-tick_machines.result after) c.self.view_is
    (ticks_past old.world c.args.seconds (c.self.inside.moment + c.from.result) later c.draft-draft.result c.enter.new.self new c.in_ok-enter.ensures.ok
    old after c.tick_machines.new.machines c.tick_machines.new.draft c.in_err-tick_machines.field-0.0 c.from_residual-in_err-tick_machines.result refl refl (p.1 ∙ ap Err p.2) c.in_err-tick_machines.ensures)

pub enter_at-requires-clause-early : goal.enter_at-requires-clause-early
enter_at-requires-clause-early c =
    let old : StageValue = stage_of c.self.inside.machines c.self.inside.verifiers.items c.self.inside.moment c.self.inside.packets c.self.inside.sent c.self.inside.journal in
    let new : c.draft-draft.result ≡ fresh old.world = c.draft-draft.ensures ∙ ap (λ (v : StageValue). fresh v.world) (sym c.self.view_is) in
    let later : c.self.inside.moment + c.from.result ≡ c.self.inside.moment + c.args.seconds = omega arith in
    let few : c.args.seconds < 4294967296 = omega arith in
    early_still old.world c.args.seconds (c.self.inside.moment + c.from.result) later c.draft-draft.result c.enter.new.self new c.in_ok-enter.ensures.ok
    c.tick_machines.new.machines c.tick_machines.new.draft c.in_ok-tick_machines.ensures c.self.invariant.early few

pub returns : goal.returns
returns c =
    let old : StageValue = stage_of c.self.inside.machines c.self.inside.verifiers.items c.self.inside.moment c.self.inside.packets c.self.inside.sent c.self.inside.journal in
    let new : c.draft-draft.result ≡ fresh old.world = c.draft-draft.ensures ∙ ap (λ (v : StageValue). fresh v.world) (sym c.self.view_is) in
    let later : c.self.inside.moment + c.from.result ≡ c.self.inside.moment + c.args.seconds = omega arith in
    let after : StageValue = record { world = record old.world { machines = c.tick_machines.new.machines }; packets = c.self.inside.packets } in
    subst (λ (v : StageValue). StageBecomes v (ticking c.args.seconds v.world) c.enter_at.result c.enter_at.new.self) c.self.view_is
    (comes after old _ _ c.enter_at.result c.enter_at.new.self refl
    (ticked old.world c.args.seconds (c.self.inside.moment + c.from.result) later c.draft-draft.result c.enter.new.self new c.in_ok-enter.ensures.ok c.tick_machines.new.machines c.tick_machines.new.draft c.in_ok-tick_machines.ensures)
    c.enter_at.ensures)
