-- Those who hold a file of a script's world keep their part, since data servers refuse a holder's call only once its period has ended.
use Rattle.std.proofs.Common.{◌≡◌, ℕ, ◌≤◌, true, List, length, subst}
use Rattle.std.specs.Prelude.{nat_le}
use Rattle.std.proofs.lemmas.Bool.{leb-true, and_parts}
use Rattle.cluster_model.specs.Print.{hex_of}
use Rattle.cluster_model.specs.declared.entry.Entry.{Entry}
use Rattle.cluster_model.specs.Event.{EventValue}
use Rattle.holder_parts.specs.HolderParts.{HoldersKeepParts}
use Rattle.world_journal.specs.Journal.{IsEntryInRange, IsJournalInRange, is_within, max_entries, max_hex}
use Rattle.world_rule.specs.ClusterWorlds.{ClusterState, behind}
use Rattle.ff_replay.proofs.WorldGrows.{grows}
use Rattle.node_histories.specs.NodeHistories.{IsToldByNodes}
use Rattle.world_moves.specs.WorldMoves.{IsRunOf}
use Rattle.world_reads.proofs.Steps.{all_first}
use Rattle.world_layouts.specs.WorldLayouts.{HoldersOwnAtDeliveries}
use Rattle.world_layouts.specs.LayoutsInOrder.{HasLayoutsInOrder, EachWorldIsInOrder}
use Rattle.world_room.specs.WorldRoom.{IsWorldSmall, EachSmallWorldIsRoomy}
use Rattle.world_fences.specs.WorldFences.{EachRefusalIsAnEnd}
use Rattle.world_grants.specs.WorldGrants.{EachWorldGrantsOnce}
use Rattle.world_holders.specs.WorldHolders.{EachWorldKeepsParts}

-- what is proved of each world
pub record WorldLaws : Type 0 where
  pub roomy : EachSmallWorldIsRoomy
  pub in_order : EachWorldIsInOrder
  pub refusals : EachRefusalIsAnEnd
  pub once : EachWorldGrantsOnce
  pub parts : EachWorldKeepsParts

pub keeps_parts : WorldLaws → (boots : List ℕ) (w : ClusterState) → IsRunOf boots w → IsToldByNodes w → IsWorldSmall w → HoldersOwnAtDeliveries w.journal → HoldersKeepParts w.journal
keeps_parts laws boots w run told small own =
    let room = laws.roomy boots w run told small in
    let order : HasLayoutsInOrder told = laws.in_order boots w run told room in
    laws.parts boots w run told
    (record { few = small.few_clients; range = small.range; once = laws.once boots w run told room (laws.refusals boots w run told room order own); layouts = order })

-- a journal within the limits has few entries
pub few_within : (journal : List Entry) → is_within journal ≡ true → length journal ≤ 400000
few_within journal is = leb-true (length journal) max_entries (and_parts (nat_le (length journal) max_entries) (nat_le (hex_of journal) max_hex) is).0

-- the journal before an event is in range where the one behind it is
pub range_before : (event : EventValue) (w : ClusterState) → IsJournalInRange (behind event w).journal → IsJournalInRange w.journal
range_before event w range = all_first IsEntryInRange w.journal (grows event w).0 (subst IsJournalInRange (grows event w).1 range)
