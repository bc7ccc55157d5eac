-- Packets have their numbers in order, so what is noted of a number is of the packet of that number.
use Rattle.std.proofs.Common.{◌≡◌, ℕ, zero, suc, ◌+◌, ◌-◌, Bool, true, false, cond, List, [], ◌∷◌, ◌++◌, length, Option, Some, None, refl, sym, ap, subst, arith, length-set, length-append}
use Rattle.std.specs.Prelude.{slice_get, slice_set, ◌==◌}
use Rattle.std.specs.List.{AllByRecursion}
use Rattle.std.proofs.lemmas.Bool.Decides.{nat_tests}
use Rattle.std.proofs.lemmas.Option.{same_Some}
use Rattle.cluster_model.specs.declared.ids.NodeId.{NodeId}
use Rattle.cluster_model.specs.declared.entry.Entry.{Entry}
use Rattle.cluster_model.specs.declared.entry.Entry.TheVariants.{Packet, Delivered}
use Rattle.mds_walk.proofs.Lists.{Split, split_in, got_in}
use Rattle.packet_table.specs.declared.note.PacketNote.{PacketNote}
use Rattle.packet_table.specs.Packets.{PacketsValue, packet_numbered, came_at, after_coming}
use Rattle.world_journal.specs.SentPackets.{packets_of}
use Rattle.world_rule.specs.Sent.{noting, noting_all, packets_in, bytes_of_packet, bytes_at_place}
use Rattle.node_histories.specs.Weaves.{HasPacket}
use Rattle.node_histories.specs.NodeHistories.{PacketsAreNumbered}
use Rattle.node_histories.proofs.Stories.{IsAt, at_number}

-- ---- numbers go on

pub numbered_join : (last middle sent : ℕ) (a b : List Entry) → PacketsAreNumbered last a middle → PacketsAreNumbered middle b sent → PacketsAreNumbered last (a ++ b) sent
numbered_join last middle sent [] b first second = subst (λ (k : ℕ). PacketsAreNumbered k b sent) (sym first) second
numbered_join last middle sent (Packet number from to bytes ∷ a) b first second = (first.0, numbered_join (last + 1) middle sent a b first.1 second)
numbered_join last middle sent (e ∷ a) b first second = numbered_join last middle sent a b first second

abbrev pub IsNoPacket : Entry → Type 0
IsNoPacket (Packet number from to bytes) = ⊥
IsNoPacket e = Unit {0}

pub numbered_none : (last : ℕ) (entries : List Entry) → AllByRecursion IsNoPacket entries → PacketsAreNumbered last entries last
numbered_none last [] none = refl
numbered_none last (Packet number from to bytes ∷ entries) none = absurd none.0
numbered_none last (e ∷ entries) none = numbered_none last entries none.1

pub numbered_packets : (node : NodeId) (last : ℕ) (sends : List (NodeId × List ℕ)) → PacketsAreNumbered last (packets_of node last sends) (last + length sends)
numbered_packets node last [] = omega arith
numbered_packets node last ((to, bytes) ∷ sends) =
    let on : last + 1 + length sends ≡ last + suc (length sends) = omega arith in
    (refl, subst (λ (k : ℕ). PacketsAreNumbered (last + 1) (packets_of node (last + 1) sends) k) on (numbered_packets node (last + 1) sends))

pub numbered_act : (node : NodeId) (last : ℕ) (front entries : List Entry) (sends : List (NodeId × List ℕ)) → AllByRecursion IsNoPacket front → AllByRecursion IsNoPacket entries
    → PacketsAreNumbered last (front ++ (entries ++ packets_of node last sends)) (last + length sends)
numbered_act node last front entries sends first second =
    numbered_join last last (last + length sends) front (entries ++ packets_of node last sends) (numbered_none last front first)
    (numbered_join last last (last + length sends) entries (packets_of node last sends) (numbered_none last entries second) (numbered_packets node last sends))

-- ---- what is noted

record IsNoteOf (journal : List Entry) (number : ℕ) (note : PacketNote) : Type 0 where
  bytes : List ℕ
  there : slice_get journal note.place ≡ Some (Packet number note.from note.to bytes)

-- of the packets behind a number
abbrev AreNotes : List Entry → ℕ → List PacketNote → Type 0
AreNotes journal last [] = Unit {0}
AreNotes journal last (note ∷ notes) = IsNoteOf journal (last + 1) note × AreNotes journal (last + 1) notes

module _ (journal : List Entry) where
  notes_push : (last : ℕ) (notes : List PacketNote) (note : PacketNote) → AreNotes journal last notes → IsNoteOf journal (last + length notes + 1) note → AreNotes journal last (notes ++ note ∷ [])
  notes_push last [] note are is = let here : last + 0 + 1 ≡ last + 1 = omega arith in (subst (λ (k : ℕ). IsNoteOf journal k note) here is, tt)
  notes_push last (x ∷ notes) note are is =
      let on : last + suc (length notes) + 1 ≡ last + 1 + length notes + 1 = omega arith in
      (are.0, notes_push (last + 1) notes note are.1 (subst (λ (k : ℕ). IsNoteOf journal k note) on is))

  notes_at : (last : ℕ) (notes : List PacketNote) (i : ℕ) (note : PacketNote) → AreNotes journal last notes → slice_get notes i ≡ Some note → IsNoteOf journal (last + i + 1) note
  notes_at last [] i note are is = absurd cc
  notes_at last (x ∷ notes) zero note are is =
      let here : last + 1 ≡ last + 0 + 1 = omega arith in
      subst (λ (k : ℕ). IsNoteOf journal k note) here (subst (λ (n : PacketNote). IsNoteOf journal (last + 1) n) (same_Some x note is) are.0)
  notes_at last (x ∷ notes) (suc i) note are is =
      let on : last + 1 + i + 1 ≡ last + suc i + 1 = omega arith in
      subst (λ (k : ℕ). IsNoteOf journal k note) on (notes_at (last + 1) notes i note are.1 is)

  -- that it came says the same of a note
  notes_set : (last : ℕ) (notes : List PacketNote) (i : ℕ) (note : PacketNote) → AreNotes journal last notes → slice_get notes i ≡ Some note
      → AreNotes journal last (slice_set notes i (record { from = note.from; to = note.to; place = note.place; came = true }))
  notes_set last [] i note are is = tt
  notes_set last (x ∷ notes) zero note are is =
      let same : IsNoteOf journal (last + 1) note = subst (λ (n : PacketNote). IsNoteOf journal (last + 1) n) (same_Some x note is) are.0 in
      (record { bytes = same.bytes; there = same.there }, are.1)
  notes_set last (x ∷ notes) (suc i) note are is = (are.0, notes_set (last + 1) notes i note are.1 is)

  record AreNoted (p : PacketsValue) (rest : List Entry) (sent : ℕ) : Type 0 where
    are : AreNotes journal 0 p.notes
    numbers : PacketsAreNumbered (length p.notes) rest sent

  came_so : (notes : List PacketNote) (place : ℕ) (rest : List Entry) (sent : ℕ) (held : List (NodeId × NodeId)) (o : Option PacketNote) → slice_get notes place ≡ o → AreNotes journal 0 notes
      → PacketsAreNumbered (length notes) rest sent → AreNoted (record { notes = came_at notes place o; held = held }) rest sent
  came_so notes place rest sent held None is are numbers = record { are = are; numbers = numbers }
  came_so notes place rest sent held (Some note) is are numbers = record {
    are = notes_set 0 notes place note are is;
    numbers = subst (λ (k : ℕ). PacketsAreNumbered k rest sent) (sym (length-set notes place (record { from = note.from; to = note.to; place = note.place; came = true }))) numbers;
  }

  comes : (number : ℕ) (p : PacketsValue) (rest : List Entry) (sent : ℕ) → AreNotes journal 0 p.notes → PacketsAreNumbered (length p.notes) rest sent → AreNoted (after_coming number p) rest sent
  comes number p rest sent are numbers = by_number (number == 0)
    where
      by_number : (b : Bool) → AreNoted (record { notes = came_at p.notes (number - 1) (cond b None (slice_get p.notes (number - 1))); held = p.held }) rest sent
      by_number true = record { are = are; numbers = numbers }
      by_number false = came_so p.notes (number - 1) rest sent p.held (slice_get p.notes (number - 1)) refl are numbers

  noted : (p : PacketsValue) (place : ℕ) (e : Entry) (rest : List Entry) (sent : ℕ) → slice_get journal place ≡ Some e → AreNotes journal 0 p.notes → PacketsAreNumbered (length p.notes) (e ∷ rest) sent
      → AreNoted (noting p place e) rest sent
  noted p place (Packet number from to bytes) rest sent there are numbers =
      let is : number ≡ 0 + length p.notes + 1 = let same = numbers.0 in omega (arith, same) in
      let note : PacketNote = record { from = from; to = to; place = place; came = false } in
      let longer : length p.notes + 1 ≡ length (p.notes ++ note ∷ []) = sym (length-append p.notes (note ∷ [])) in
      record {
        are = notes_push 0 p.notes note are (subst (λ (k : ℕ). IsNoteOf journal k note) is (record { bytes = bytes; there = there }));
        numbers = subst (λ (k : ℕ). PacketsAreNumbered k rest sent) longer numbers.1;
      }
  noted p place (Delivered number) rest sent there are numbers = comes number p rest sent are numbers
  noted p place e rest sent there are numbers = record { are = are; numbers = numbers }

  all_noted : (p : PacketsValue) (place : ℕ) (entries : List Entry) (sent : ℕ) → ((k : ℕ) (e : Entry) → slice_get entries k ≡ Some e → slice_get journal (place + k) ≡ Some e) → AreNotes journal 0 p.notes
      → PacketsAreNumbered (length p.notes) entries sent → AreNotes journal 0 (noting_all p place entries).notes
  all_noted p place [] sent stands are numbers = are
  all_noted p place (e ∷ entries) sent stands are numbers =
      let here : place + 0 ≡ place = omega arith in
      let n : AreNoted (noting p place e) entries sent = noted p place e entries sent (subst (λ (j : ℕ). slice_get journal j ≡ Some e) here (stands 0 e refl)) are numbers in
      all_noted (noting p place e) (place + 1) entries sent
      (λ k x is. let on : place + suc k ≡ place + 1 + k = omega arith in subst (λ (j : ℕ). slice_get journal j ≡ Some x) on (stands (suc k) x is)) n.are n.numbers

  -- the packet of a number was sent
  pub has_packet : (held : List (NodeId × NodeId)) (sent number : ℕ) (note : PacketNote) → PacketsAreNumbered 0 journal sent → packet_numbered (packets_in journal held) number ≡ Some note
      → HasPacket journal number note.from note.to (bytes_at_place journal note.place)
  has_packet held sent number note numbers is =
      let at : IsAt (packets_in journal held).notes number note = at_number (packets_in journal held).notes number note is in
      let are : AreNotes journal 0 (packets_in journal held).notes =
      all_noted (record { notes = []; held = held }) 0 journal sent (λ k e there. let same : k ≡ 0 + k = omega arith in subst (λ (j : ℕ). slice_get journal j ≡ Some e) same there) tt numbers in
      let some = at.some in
      let here : 0 + (number - 1) + 1 ≡ number = grind (arith, nat_tests, some) in
      let n : IsNoteOf journal number note = subst (λ (k : ℕ). IsNoteOf journal k note) here (notes_at 0 (packets_in journal held).notes (number - 1) note are at.there) in
      let bytes : n.bytes ≡ bytes_at_place journal note.place = sym (ap bytes_of_packet n.there) in
      let s : Split (Packet number note.from note.to n.bytes) journal = split_in (Packet number note.from note.to n.bytes) journal (got_in journal note.place (Packet number note.from note.to n.bytes) n.there) in
      record { before = s.front; behind = s.behind; split = subst (λ (d : List ℕ). journal ≡ s.front ++ Packet number note.from note.to d ∷ s.behind) bytes s.is }
