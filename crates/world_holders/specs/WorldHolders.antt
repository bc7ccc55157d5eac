-- That those who hold a file of a cluster's world keep their part, and what is asked of the world (RFC 8435, sections 2.2 and 8).
use Rattle.std.specs.Prelude.{ℕ, ◌^◌, ◌<◌, List, length}
use Rattle.world_rule.specs.ClusterWorlds.{ClusterState}
use Rattle.node_histories.specs.NodeHistories.{IsToldByNodes}
use Rattle.world_moves.specs.WorldMoves.{IsRunOf}
use Rattle.world_journal.specs.Journal.{IsJournalInRange}
use Rattle.holder_parts.specs.HolderParts.{HoldersKeepParts}
use Rattle.world_layouts.specs.WorldLayouts.{GrantsAreOnce}
use Rattle.world_layouts.specs.LayoutsInOrder.{HasLayoutsInOrder}

-- Fewer than 2^32 clients, and a journal of bytes; each layout is granted once, as the journal says, and to one life, and what ends as returned
-- was sent.
pub record HasOrder {w : ClusterState} (told : IsToldByNodes w) : Type 0 where
  pub few : length w.machines.clients < 2 ^ 32
  pub range : IsJournalInRange w.journal
  pub once : GrantsAreOnce told
  pub layouts : HasLayoutsInOrder told

abbrev pub EachWorldKeepsParts : Type 0
EachWorldKeepsParts = (boots : List ℕ) (w : ClusterState) → IsRunOf boots w → (told : IsToldByNodes w) → HasOrder told → HoldersKeepParts w.journal
