use Rattle.std.proofs.Common.{◌≡◌, ◌+◌, ◌≤◌, take}
use Rattle.world_journal.specs.Journal.{max_hex, IsJournalInRange}
use Rattle.cluster_model.specs.Print.{hex_of}
use Rattle.world_journal.proofs.journal.add_hex.Given as goal

abbrev pub invariant-loop-entry : goal.invariant-loop-entry
invariant-loop-entry l = record {
  sum : l.sum ≡ l.fn.hex + hex_of (take l.entry-index l.entries);
  fits : l.sum ≤ max_hex;
  range : IsJournalInRange (take l.entry-index l.entries);
}
