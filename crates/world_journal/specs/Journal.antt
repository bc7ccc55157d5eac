-- The journal of a world, and its limits.
use Rattle.std.specs.Prelude.{◌≡◌, ℕ, ◌+◌, ◌^◌, ◌<◌, ◌≤◌, Bool, true, false, ◌&&◌, nat_le, if◌then◌else◌, List, ◌++◌, length, Option, Some, None, Result, Ok, Err}
use Rattle.world_journal.specs.declared.journal.TheConstants.{MAX_ENTRIES, MAX_HEX}
use Rattle.std.specs.List.{AllByRecursion}
use Rattle.ff_xdr.specs.Laws.{IsBytes}
use Rattle.cluster_model.specs.declared.ids.MirrorId.{MirrorId}
use Rattle.cluster_model.specs.declared.entry.Entry.{Entry}
use Rattle.cluster_model.specs.declared.entry.Entry.TheVariants.{Packet, Free, Swapped}
use Rattle.cluster_model.specs.Print.{hex_of}
use Rattle.world_journal.specs.declared.fault.WorldFault.{WorldFault}
use Rattle.world_journal.specs.declared.fault.WorldFault.TheVariants.{Limit, NoMemory}

-- the most entries of a journal, and the most bytes that stand in it as hexadecimal: 256 MiB
abbrev pub max_entries : ℕ
max_entries = MAX_ENTRIES

abbrev pub max_hex : ℕ
max_hex = MAX_HEX

-- a journal is within the limits
abbrev pub is_within : List Entry → Bool
is_within journal = nat_le (length journal) max_entries && nat_le (hex_of journal) max_hex

-- ---- the numbers of a journal

-- A record is of bytes, and a mirror's fileid has eight of them (RFC 1813, section 2.5).
abbrev pub IsEntryInRange : Entry → Type 0
IsEntryInRange (Packet number from to bytes) = IsBytes bytes
IsEntryInRange (Free file live) = AllByRecursion (λ (m : MirrorId). m.fileid < 2 ^ 64) live
IsEntryInRange (Swapped file old new) = new.fileid < 2 ^ 64
IsEntryInRange e = Unit {0}

abbrev pub IsJournalInRange : List Entry → Type 0
IsJournalInRange journal = AllByRecursion IsEntryInRange journal

-- ---- the journal in the code

-- the same, as a fact
pub record IsBounded (journal : List Entry) : Type 0 where
  pub count : length journal ≤ max_entries
  pub hex : hex_of journal ≤ max_hex

-- a sum that is within a limit
abbrev pub within : ℕ → ℕ → Option ℕ
within limit sum = if nat_le sum limit then Some sum else None

-- how many bytes stand as hexadecimal in a journal of so many entries and bytes with these entries, where the limits let them in
abbrev pub hex_within : ℕ → ℕ → List Entry → Option ℕ
hex_within count hex entries = if nat_le (count + length entries) max_entries && nat_le (hex + hex_of entries) max_hex then Some (hex + hex_of entries) else None

-- How entries were added to a journal: they stand behind the others; it would pass a limit with them; or memory was wanted.
abbrev pub AddsEntries : List Entry → List Entry → Result (Unit {0}) WorldFault → List Entry → Type 0
AddsEntries old entries (Ok x) new = (is_within (old ++ entries) ≡ true) × (new ≡ old ++ entries)
AddsEntries old entries (Err (Limit count)) new = (is_within (old ++ entries) ≡ false) × (count ≡ length old) × (new ≡ old)
AddsEntries old entries (Err NoMemory) new = new ≡ old
