use Rattle.std.proofs.Common.{◌≡◌, None, sym, subst}
use Rattle.ff_replay.specs.declared.world.World.TheVariants.{Cluster}
use Rattle.ff_replay.specs.Player.{PlayerPlays, script_world, spent_by, player_at, flowed_in}
use Rattle.ff_replay.proofs.world.World.go_on.Goals as goal

pub returns-in-Cluster-clause-does : goal.returns-in-Cluster-clause-does
returns-in-Cluster-clause-does c =
    subst (λ s. spent_by s ≡ None → PlayerPlays c.args.mode (player_at s c.args.text.now) (flowed_in (script_world s)) c.flow.result (player_at (Cluster c.in-Cluster.field-0 c.flow.new.world) c.flow.new.text)) (sym c.in-Cluster.is) (λ fresh. c.flow.ensures.does fresh c.in-Cluster.field-0)
