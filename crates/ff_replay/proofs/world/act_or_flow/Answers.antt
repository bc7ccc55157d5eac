use Rattle.std.proofs.Common.{sym, subst, ◌∙◌}
use Rattle.cluster_script.specs.ClusterLines.{cluster_event}
use Rattle.ff_replay.specs.Player.{PlayerPlays, at_cluster, cluster_played}
use Rattle.ff_replay.proofs.world.act_or_flow.Goals as goal

pub returns-then-is_flow-clause-does : goal.returns-then-is_flow-clause-does
returns-then-is_flow-clause-does c fresh sizes =
    subst (λ f. PlayerPlays c.args.mode (at_cluster sizes c.args.world.now c.args.text.now) (cluster_played f sizes c.args.world.now.world (cluster_event c.args.event.now)) c.flow.result (at_cluster sizes c.flow.new.world c.flow.new.text))
    (sym c.if-is_flow.true ∙ c.is_flow.ensures) (c.flow.ensures.does fresh sizes)
