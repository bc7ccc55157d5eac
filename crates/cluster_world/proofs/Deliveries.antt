-- A packet that comes.
use Rattle.std.proofs.Common.{◌≡◌, ℕ, ◌+◌, List, [], ◌∷◌, ◌++◌, length, length-append, append_assoc, Some, sym, ap, ◌∙◌, arith, Result, Err}
use Rattle.cluster_model.specs.declared.ids.NodeId.{NodeId}
use Rattle.cluster_model.specs.declared.entry.Entry.{Entry}
use Rattle.cluster_model.specs.declared.entry.Entry.TheVariants.{Delivered}
use Rattle.cluster_model.specs.declared.outbox.Outbox.{Outbox}
use Rattle.world_journal.specs.declared.fault.WorldFault.{WorldFault}
use Rattle.world_journal.specs.SentPackets.{packets_of}
use Rattle.packet_table.specs.declared.note.PacketNote.{PacketNote}
use Rattle.packet_table.specs.Packets.{packet_numbered}
use Rattle.world_rule.specs.Machines.{MachinesValue, Act, HasActed, receives}
use Rattle.cluster_world.specs.Drafts.{DraftValue, PassesLimit, with_entry, with_act}
use Rattle.world_rule.specs.Sent.{bytes_at_place}
use Rattle.world_rule.specs.ClusterWorlds.{ClusterState, packets, packet_comes, delivering}
use Rattle.cluster_world.specs.WorldSteps.{StageValue, StageBecomes, drafted}
use Rattle.cluster_world.proofs.Lengths.{length_part}
use Rattle.cluster_world.proofs.Comings.{past, fresh}

-- what the machine that it comes to does
abbrev pub coming : PacketNote → ClusterState → Act
coming note w = receives w.now note.from note.to (bytes_at_place w.journal note.place) w.machines

-- the packet of a number that the journal has
module _ (w : ClusterState) (number : ℕ) (note : PacketNote) (is_noted : packet_numbered (packets w) number ≡ Some note) (d0 d1 : DraftValue) (new : d0 ≡ fresh w) where
  delivery : delivering number w ≡ packet_comes number (Some note) w
  delivery = ap (λ o. packet_comes number o w) is_noted

  -- how long the journal is behind it
  delivery_length : length (delivering number w).journal ≡ length w.journal + 1 + length (coming note w).entries + length (coming note w).sends
  delivery_length =
      let e : length (delivering number w).journal ≡ length (packet_comes number (Some note) w).journal = ap (λ (v : ClusterState). length v.journal) delivery in
      omega (arith, e, length-append (w.journal ++ Delivered number ∷ []) ((coming note w).entries ++ packets_of note.to w.sent (coming note w).sends), length-append w.journal (Delivered number ∷ []), length_part note.to w.sent (coming note w).entries (coming note w).sends)

  -- it does not fit behind the journal
  pub delivery_past : (old s : StageValue) (fault : WorldFault) (r : Result (Unit {0}) WorldFault) → old.world ≡ w → s.world.journal ≡ w.journal → r ≡ Err fault → PassesLimit (Err fault) d0 (Delivered number ∷ []) [] → StageBecomes old (delivering number w) r s
  delivery_past old s fault r own same is limit =
      let none : length d0.entries ≡ 0 = ap (λ (d : DraftValue). length d.entries) new in
      let before : length old.world.journal ≡ length w.journal = ap (λ (v : ClusterState). length v.journal) own in
      past old s (delivering number w) d0 (Delivered number ∷ []) [] fault r is limit (ap (λ (d : DraftValue). d.begun) new ∙ sym before) (same ∙ sym (ap (λ (v : ClusterState). v.journal) own))
      (omega (arith, none, before, delivery_length))

  module _ (was : d1 ≡ with_entry (Delivered number) d0) (m : MachinesValue) (before after : Outbox) (did : HasActed (coming note w) before m after) (no_entries : before.entries.items ≡ []) (no_sends : before.sends.items ≡ []) where
    first : d1 ≡ with_entry (Delivered number) (fresh w)
    first = was ∙ ap (with_entry (Delivered number)) new

    entries : after.entries.items ≡ (coming note w).entries
    entries = did.entries ∙ ap (λ (es : List Entry). es ++ (coming note w).entries) no_entries

    sends : after.sends.items ≡ (coming note w).sends
    sends = did.sends ∙ ap (λ (ss : List (NodeId × List ℕ)). ss ++ (coming note w).sends) no_sends

    -- nor does what the machine did
    pub answer_past : (old s : StageValue) (fault : WorldFault) (r : Result (Unit {0}) WorldFault) → old.world ≡ w → s.world.journal ≡ w.journal → r ≡ Err fault → PassesLimit (Err fault) d1 after.entries.items after.sends.items → StageBecomes old (delivering number w) r s
    answer_past old s fault r own same is limit =
        let one : length d1.entries ≡ 1 = ap (λ (d : DraftValue). length d.entries) first in
        let own_length : length old.world.journal ≡ length w.journal = ap (λ (v : ClusterState). length v.journal) own in
        past old s (delivering number w) d1 after.entries.items after.sends.items fault r is limit (ap (λ (d : DraftValue). d.begun) first ∙ sym own_length) (same ∙ sym (ap (λ (v : ClusterState). v.journal) own))
        (omega (arith, one, own_length, delivery_length, ap length entries, ap length sends))

    -- both stand in the journal
    pub delivered : (d2 : DraftValue) → d2 ≡ with_act note.to after.entries.items after.sends.items d1 → drafted (record w { machines = m }) w.now d2 ≡ delivering number w
    delivered d2 acts =
        ap (drafted (record w { machines = m }) w.now) (acts ∙ (λ i. with_act note.to (entries i) (sends i) (first i)))
        ∙ (λ i. record w { machines = did.machines i; sent = w.sent + length (coming note w).sends; journal = (sym (append_assoc w.journal (Delivered number ∷ []) ((coming note w).entries ++ packets_of note.to w.sent (coming note w).sends))) i })
        ∙ sym delivery
