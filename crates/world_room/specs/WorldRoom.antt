-- Which worlds of a cluster have room for numbers (RFC 8881, sections 2.10.6.1 and 18.35; RFC 1813, section 2.5).
use Rattle.std.specs.Prelude.{ℕ, ◌^◌, ◌<◌, ◌≤◌, List, length}
use Rattle.world_rule.specs.ClusterWorlds.{ClusterState}
use Rattle.node_histories.specs.NodeHistories.{IsToldByNodes}
use Rattle.world_moves.specs.WorldMoves.{IsRunOf}
use Rattle.world_journal.specs.Journal.{IsJournalInRange}
use Rattle.world_layouts.specs.WorldLayouts.{IsWorldRoomy}

-- Fewer than 2^32 clients and data servers, and a journal of at most 400,000 entries, as a script's is, whose records are of bytes and fileids have
-- eight.
pub record IsWorldSmall (w : ClusterState) : Type 0 where
  pub few_clients : length w.machines.clients < 2 ^ 32
  pub few_servers : length w.machines.servers < 2 ^ 32
  pub few_entries : length w.journal ≤ 400000
  pub range : IsJournalInRange w.journal

abbrev pub EachSmallWorldIsRoomy : Type 0
EachSmallWorldIsRoomy = (boots : List ℕ) (w : ClusterState) → IsRunOf boots w → (told : IsToldByNodes w) → IsWorldSmall w → IsWorldRoomy told
