-- The layouts of a world (RFC 8881, sections 12.5.5, 18.43 and 18.44).
use Rattle.std.specs.Prelude.{ℕ, List}
use Rattle.world_rule.specs.ClusterWorlds.{ClusterState}
use Rattle.node_histories.specs.NodeHistories.{IsToldByNodes}
use Rattle.world_moves.specs.WorldMoves.{IsRunOf}
use Rattle.world_layouts.specs.WorldLayouts.{IsWorldRoomy, IsOneRequestEach, GrantsAreTold, UidsAreOwn, StateidsAreOnce, ReturnsAreSent, ReturnsHaveEnded}

pub record HasLayoutsInOrder {w : ClusterState} (told : IsToldByNodes w) : Type 0 where
  pub one : IsOneRequestEach told
  pub granted : GrantsAreTold told
  pub uids : UidsAreOwn told
  pub stateids : StateidsAreOnce told
  pub sent : ReturnsAreSent told
  pub ended : ReturnsHaveEnded told

-- in each world that has room
abbrev pub EachWorldIsInOrder : Type 0
EachWorldIsInOrder = (boots : List ℕ) (w : ClusterState) → IsRunOf boots w → (told : IsToldByNodes w) → IsWorldRoomy told → HasLayoutsInOrder told
