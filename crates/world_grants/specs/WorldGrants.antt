-- That a layout of a world is granted once (RFC 8881, sections 12.5.2 and 18.43; RFC 8435, section 2.2).
use Rattle.std.specs.Prelude.{ℕ, List}
use Rattle.world_rule.specs.ClusterWorlds.{ClusterState}
use Rattle.node_histories.specs.NodeHistories.{IsToldByNodes}
use Rattle.world_moves.specs.WorldMoves.{IsRunOf}
use Rattle.world_layouts.specs.WorldLayouts.{IsWorldRoomy, RefusalsAreEnds, GrantsAreOnce}

-- in each world that has room, where a data server refuses a holder's call only once its period has ended
abbrev pub EachWorldGrantsOnce : Type 0
EachWorldGrantsOnce = (boots : List ℕ) (w : ClusterState) → IsRunOf boots w → (told : IsToldByNodes w) → IsWorldRoomy told → RefusalsAreEnds told → GrantsAreOnce told
