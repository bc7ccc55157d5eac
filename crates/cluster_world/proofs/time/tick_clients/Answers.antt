use Rattle.std.proofs.Common.{◌<◌, Err, ap, subst, ◌∙◌, arith}
use Rattle.std.specs.List.{range_with_len}
use Rattle.std.proofs.lemmas.Result.{err_from_is_err_and}
use Rattle.world_rule.specs.ClusterWorlds.{clients_tick}
use Rattle.cluster_world.specs.WorldSteps.{Drafts}
use Rattle.cluster_world.proofs.Ticks.{leaves_next, leaves_past}
use Rattle.cluster_world.proofs.time.tick_clients.Goals as goal

pub returns-in_err-tick_client : goal.returns-in_err-tick_client
returns-in_err-tick_client c =
    let less : c.loop-place.place < c.client_count-count.result = omega arith in
    let p = err_from_is_err_and c.from_residual.result c.from_residual.ensures.1 in
    subst (λ n. Drafts (clients_tick (range_with_len 1 n)) c.args.now c.args.machines.now c.args.draft.now c.from_residual.result c.tick_client.new.machines c.tick_client.new.draft) c.client_count-count.ensures.count
    (leaves_past c.client_count-count.result c.loop-place.place c.args.now c.args.machines.now c.loop-place.machines c.tick_client.new.machines c.args.draft.now c.loop-place.draft c.tick_client.new.draft c.in_err-tick_client.field-0.0 c.from_residual.result
    (p.1 ∙ ap Err p.2) less c.loop-place.invariant.begun c.loop-place.invariant.leaves c.in_err-tick_client.ensures)

pub loop-place-preserved : goal.loop-place-preserved
loop-place-preserved c =
    let less : c.loop-place.place < c.client_count-count.result = omega arith in
    record {
      within = omega (arith, less);
      leaves = leaves_next c.client_count-count.result c.loop-place.place c.args.now c.args.machines.now c.loop-place.machines c.tick_client.new.machines c.args.draft.now c.loop-place.draft c.tick_client.new.draft less c.loop-place.invariant.leaves c.in_ok-tick_client.ensures;
      begun = c.in_ok-tick_client.ensures.1 ∙ c.loop-place.invariant.begun;
    }
