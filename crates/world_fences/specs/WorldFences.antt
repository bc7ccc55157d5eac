-- A data server refuses a call of a holder as one whose layout is no more only once its period has ended (RFC 8435, section 2.2).
use Rattle.std.specs.Prelude.{ℕ, List}
use Rattle.world_rule.specs.ClusterWorlds.{ClusterState}
use Rattle.node_histories.specs.NodeHistories.{IsToldByNodes}
use Rattle.world_moves.specs.WorldMoves.{IsRunOf}
use Rattle.world_layouts.specs.WorldLayouts.{IsWorldRoomy, RefusalsAreEnds, HoldersOwnAtDeliveries}
use Rattle.world_layouts.specs.LayoutsInOrder.{HasLayoutsInOrder}

abbrev pub EachRefusalIsAnEnd : Type 0
EachRefusalIsAnEnd =
    (boots : List ℕ) (w : ClusterState) → IsRunOf boots w → (told : IsToldByNodes w) → IsWorldRoomy told → HasLayoutsInOrder told → HoldersOwnAtDeliveries w.journal → RefusalsAreEnds told
