-- The entries of an event, before they stand in the journal.
use Rattle.std.specs.Prelude.{◌≡◌, ℕ, ◌+◌, ◌≤◌, ◌<◌, List, [], ◌∷◌, ◌++◌, length, Result, Ok, Err}
use Rattle.cluster_model.specs.declared.ids.NodeId.{NodeId}
use Rattle.cluster_model.specs.declared.entry.Entry.{Entry}
use Rattle.world_journal.specs.declared.journal.TheConstants.{MAX_ENTRIES}
use Rattle.world_journal.specs.declared.fault.WorldFault.{WorldFault}
use Rattle.world_journal.specs.declared.fault.WorldFault.TheVariants.{Limit, NoMemory}
use Rattle.world_journal.specs.SentPackets.{packets_of}

pub record DraftValue : Type 0 where
  pub entries : List Entry
  -- how many packets were sent with them
  pub sent : ℕ
  -- how many entries the journal has
  pub begun : ℕ

-- they fit behind the journal, and each packet is one of them or of the journal
pub record FitsBehind (begun sent : ℕ) (entries : List Entry) : Type 0 where
  pub few : begun + length entries ≤ MAX_ENTRIES
  pub packets : sent ≤ begun + length entries

abbrev pub with_entry : Entry → DraftValue → DraftValue
with_entry e d = record d { entries = d.entries ++ e ∷ [] }

abbrev pub with_act : NodeId → List Entry → List (NodeId × List ℕ) → DraftValue → DraftValue
with_act node entries sends d = record d { entries = d.entries ++ (entries ++ packets_of node d.sent sends); sent = d.sent + length sends }

-- an event is at a limit where it has more entries than fit behind the journal
abbrev pub PassesLimit : Result (Unit {0}) WorldFault → DraftValue → List Entry → List (NodeId × List ℕ) → Type 0
PassesLimit (Ok done) d entries sends = Unit {0}
PassesLimit (Err (Limit count)) d entries sends = (count ≡ d.begun) × (MAX_ENTRIES < d.begun + length d.entries + length entries + length sends)
PassesLimit (Err NoMemory) d entries sends = Unit {0}
