use Rattle.std.proofs.Common.{Err, length, ap, ◌∙◌}
use Rattle.std.specs.List.{range_with_len}
use Rattle.std.proofs.lemmas.Result.{err_from_is_err_and}
use Rattle.world_rule.specs.ClusterWorlds.{clients_tick, mds_ticks}
use Rattle.cluster_world.proofs.Ticks.{mds_grows, drafts_then, drafts_past}
use Rattle.cluster_world.proofs.time.tick_machines.Goals as goal

pub returns-in_err-tick_clients : goal.returns-in_err-tick_clients
returns-in_err-tick_clients c =
    let p = err_from_is_err_and c.from_residual.result c.from_residual.ensures.1 in
    drafts_past (clients_tick (range_with_len 1 (length c.args.machines.now.clients))) mds_ticks c.args.now c.args.machines.now c.tick_clients.new.machines c.args.draft.now c.tick_clients.new.draft c.in_err-tick_clients.field-0.0 c.from_residual.result
    (p.1 ∙ ap Err p.2) mds_grows c.in_err-tick_clients.ensures

pub returns : goal.returns
returns c =
    drafts_then (clients_tick (range_with_len 1 (length c.args.machines.now.clients))) mds_ticks c.args.now c.args.machines.now c.tick_clients.new.machines c.tick_mds.new.machines c.args.draft.now c.tick_clients.new.draft c.tick_mds.new.draft c.tick_mds.result
    c.in_ok-tick_clients.ensures c.tick_mds.ensures
