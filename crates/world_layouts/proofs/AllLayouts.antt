-- What holds of the layouts of each world, by the laws of lower crates.
use Rattle.std.proofs.Common.{ℕ, List}
use Rattle.world_rule.specs.ClusterWorlds.{ClusterState}
use Rattle.node_histories.specs.NodeHistories.{IsToldByNodes}
use Rattle.world_moves.specs.WorldMoves.{IsRunOf}
use Rattle.world_layouts.specs.WorldLayouts.{IsWorldRoomy}
use Rattle.world_layouts.specs.LayoutsInOrder.{HasLayoutsInOrder}
use Rattle.world_layouts.proofs.GrantedUids.{uids_are_own}
use Rattle.world_layouts.proofs.ToldGrants.{grants_are_told}
use Rattle.world_layouts.proofs.EndedReturns.{returns_have_ended}
use Rattle.world_layouts.proofs.OneStateid.{stateids_are_once}
use Rattle.world_layouts.proofs.SentReturns.{SentLaws, returns_are_sent}
use Rattle.world_layouts.specs.WorldLayouts.{IsOneRequestEach}
use Rattle.world_layouts.proofs.OneRequest.{SessionLaws, one_request_each}

pub all_layouts : SentLaws → SessionLaws → (boots : List ℕ) (w : ClusterState) → IsRunOf boots w → (told : IsToldByNodes w) → IsWorldRoomy told → HasLayoutsInOrder told
all_layouts laws sessions boots w run told room =
    let one : IsOneRequestEach told = one_request_each sessions boots w run told room.few_clients room.range room.mds room.starts in
    record {
      one = one;
      granted = grants_are_told laws.returns.grants boots w run told room.few_clients room.range room.mds room.starts one room.few_mirrors;
      uids = uids_are_own laws.returns.grants.layouts boots w run told room.few_clients room.range room.mds room.starts one;
      stateids = stateids_are_once laws.returns.grants.layouts boots w run told room.few_clients room.range room.mds room.starts one;
      sent = returns_are_sent laws boots w run told room.few_clients room.range room.mds room.starts one room.few_mirrors;
      ended = returns_have_ended laws.returns boots w run told room.few_clients room.range room.mds room.starts one room.few_mirrors;
    }
