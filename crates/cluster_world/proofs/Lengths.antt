-- How many entries a journal has, and its limits.
use Rattle.std.proofs.Common.{◌≡◌, ℕ, ◌+◌, ◌<◌, ◌≤◌, Bool, true, false, List, [], ◌∷◌, ◌++◌, length, length-append, refl, ap, arith, suc}
use Rattle.std.specs.Prelude.{nat_le}
use Rattle.std.proofs.lemmas.Bool.{and_parts, leb-true}
use Rattle.cluster_model.specs.declared.ids.NodeId.{NodeId}
use Rattle.cluster_model.specs.declared.entry.Entry.{Entry}
use Rattle.cluster_model.specs.Print.{hex_of}
use Rattle.world_journal.specs.Journal.{max_entries, max_hex, is_within}
use Rattle.world_journal.specs.SentPackets.{packets_of}

-- each record is one packet
pub length_packets : (from : NodeId) (sent : ℕ) (sends : List (NodeId × List ℕ)) → length (packets_of from sent sends) ≡ length sends
length_packets from sent [] = refl
length_packets from sent (first ∷ rest) = ap suc (length_packets from (sent + 1) rest)

-- a part's entries and packets
pub length_part : (from : NodeId) (sent : ℕ) (entries : List Entry) (sends : List (NodeId × List ℕ)) → length (entries ++ packets_of from sent sends) ≡ length entries + length sends
length_part from sent entries sends = omega (arith, length-append entries (packets_of from sent sends), length_packets from sent sends)

-- a journal within the limits has few entries
pub few_within : (journal : List Entry) → is_within journal ≡ true → length journal ≤ max_entries
few_within journal is = leb-true (length journal) max_entries (and_parts (nat_le (length journal) max_entries) (nat_le (hex_of journal) max_hex) is).0

-- a journal of more is past them
pub past_limit : (journal : List Entry) → max_entries < length journal → is_within journal ≡ false
past_limit journal many = by_test (is_within journal) refl
  where
    by_test : (b : Bool) → is_within journal ≡ b → b ≡ false
    by_test false is = refl
    by_test true is = absurd (omega (arith, few_within journal is, many))
