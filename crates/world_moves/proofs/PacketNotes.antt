-- What is noted of a packet stands in the journal.
use Rattle.std.proofs.Common.{◌≡◌, ℕ, suc, ◌+◌, ◌-◌, Bool, true, false, cond, List, [], ◌∷◌, ◌++◌, Option, Some, None, refl, ap, subst, arith}
use Rattle.std.specs.Prelude.{slice_get, ◌==◌}
use Rattle.std.specs.List.{AllByRecursion}
use Rattle.cluster_model.specs.declared.ids.NodeId.{NodeId}
use Rattle.cluster_model.specs.declared.entry.Entry.{Entry}
use Rattle.cluster_model.specs.declared.entry.Entry.TheVariants.{Packet, Delivered}
use Rattle.packet_table.specs.declared.note.PacketNote.{PacketNote}
use Rattle.packet_table.specs.Packets.{PacketsValue, packet_numbered, came_at, after_coming}
use Rattle.world_rule.specs.Sent.{noting, noting_all, packets_in, bytes_of_packet, bytes_at_place}
use Rattle.world_moves.proofs.ServerMoves.{all_at, all_set, at_place}

-- it is that of a packet of the journal
pub record IsNoteOf (journal : List Entry) (note : PacketNote) : Type 0 where
  pub number : ℕ
  pub bytes : List ℕ
  pub there : slice_get journal note.place ≡ Some (Packet number note.from note.to bytes)

all_push : {A : Type 0} (P : A → Type 0) (xs : List A) (x : A) → AllByRecursion P xs → P x → AllByRecursion P (xs ++ x ∷ [])
all_push P [] x all its = (its, tt)
all_push P (y ∷ xs) x all its = (all.0, all_push P xs x all.1 its)

module _ (journal : List Entry) where
  came : (notes : List PacketNote) (place : ℕ) (o : Option PacketNote) → slice_get notes place ≡ o → AllByRecursion (IsNoteOf journal) notes → AllByRecursion (IsNoteOf journal) (came_at notes place o)
  came notes place None is all = all
  came notes place (Some note) is all =
      let was : IsNoteOf journal note = all_at (IsNoteOf journal) notes place note all is in
      all_set (IsNoteOf journal) notes place (record { from = note.from; to = note.to; place = note.place; came = true }) all (record { number = was.number; bytes = was.bytes; there = was.there })

  -- the packet of a number, if there is one
  coming : (number : ℕ) (p : PacketsValue) → AllByRecursion (IsNoteOf journal) p.notes → AllByRecursion (IsNoteOf journal) (after_coming number p).notes
  coming number p all = by_number (number == 0)
    where
      by_number : (b : Bool) → AllByRecursion (IsNoteOf journal) (came_at p.notes (number - 1) (cond b None (slice_get p.notes (number - 1))))
      by_number true = all
      by_number false = came p.notes (number - 1) (slice_get p.notes (number - 1)) refl all

  noted : (p : PacketsValue) (place : ℕ) (e : Entry) → slice_get journal place ≡ Some e → AllByRecursion (IsNoteOf journal) p.notes → AllByRecursion (IsNoteOf journal) (noting p place e).notes
  noted p place (Packet number from to bytes) there all = all_push (IsNoteOf journal) p.notes (record { from = from; to = to; place = place; came = false }) all (record { number = number; bytes = bytes; there = there })
  noted p place (Delivered number) there all = coming number p all
  noted p place e there all = all

  all_noted : (p : PacketsValue) (place : ℕ) (entries : List Entry) → ((k : ℕ) (e : Entry) → slice_get entries k ≡ Some e → slice_get journal (place + k) ≡ Some e) → AllByRecursion (IsNoteOf journal) p.notes
      → AllByRecursion (IsNoteOf journal) (noting_all p place entries).notes
  all_noted p place [] stands all = all
  all_noted p place (e ∷ entries) stands all =
      let here : place + 0 ≡ place = omega arith in
      all_noted (noting p place e) (place + 1) entries
      (λ k x is. let on : place + suc k ≡ place + 1 + k = omega arith in subst (λ (j : ℕ). slice_get journal j ≡ Some x) on (stands (suc k) x is))
      (noted p place e (subst (λ (j : ℕ). slice_get journal j ≡ Some e) here (stands 0 e refl)) all)

  pub note_of : (held : List (NodeId × NodeId)) (number : ℕ) (note : PacketNote) → packet_numbered (packets_in journal held) number ≡ Some note → IsNoteOf journal note
  note_of held number note is =
      all_at (IsNoteOf journal) (packets_in journal held).notes (number - 1) note
      (all_noted (record { notes = []; held = held }) 0 journal (λ k e there. let same : k ≡ 0 + k = omega arith in subst (λ (j : ℕ). slice_get journal j ≡ Some e) same there) tt)
      (at_place (packets_in journal held).notes number note is)

  -- and these are its bytes
  pub bytes_there : (note : PacketNote) (n : IsNoteOf journal note) → bytes_at_place journal note.place ≡ n.bytes
  bytes_there note n = ap bytes_of_packet n.there
