-- What waits once packets between two machines are held no longer.
use Rattle.std.proofs.Common.{◌≡◌, ℕ, zero, suc, ◌+◌, ◌<◌, ◌≤◌, Bool, true, false, not, cond, List, [], ◌∷◌, filter, Some, refl, ap, subst, ◌∙◌, arith}
use Rattle.std.specs.Prelude.{slice_get, ◌&&◌}
use Rattle.std.specs.List.{position_or_len}
use Rattle.std.proofs.lemmas.Bool.{and_parts, not_from_true, and_left}
use Rattle.std.proofs.lemmas.Map.Views.{any-filter_same}
use Rattle.cluster_model.specs.declared.ids.NodeId.{NodeId}
use Rattle.cluster_model.specs.Nodes.{is_node}
use Rattle.packet_table.specs.declared.note.PacketNote.{PacketNote}
use Rattle.packet_table.specs.Packets.{is_between, is_pair, is_held, waits, numbers_between}
use Rattle.packet_table.proofs.FirstWaiting.{first_fails, so_behind, so_before}
use Rattle.packet_table.proofs.MachineKeys.{is_one}

-- the pair of a packet that is not between them is not theirs
pub others_pair : (from to : NodeId) (x : PacketNote) → is_between from to x ≡ false → (pair : NodeId × NodeId) → is_pair x.from x.to pair ≡ true → not (is_pair from to pair) ≡ true
others_pair from to x other pair is =
    let parts = and_parts (is_node pair.0 x.from) (is_node pair.1 x.to) is in
    ap (λ b. not b)
    (ap (λ a. is_node a from && is_node pair.1 to) (is_one pair.0 x.from parts.0) ∙ ap (λ a. is_node x.from from && is_node a to) (is_one pair.1 x.to parts.1) ∙ other)

module _ (from to : NodeId) (held : List (NodeId × NodeId)) (Came : ℕ → Type 0) where
  abbrev left : List (NodeId × NodeId)
  left = filter (λ pair. not (is_pair from to pair)) held

  -- a packet that is not between them waits as before
  other_waits : (x : PacketNote) → is_between from to x ≡ false → waits left x ≡ waits held x
  other_waits x other =
      ap (λ b. not x.came && not b) (any-filter_same (is_pair x.from x.to) (λ pair. not (is_pair from to pair)) true (others_pair from to x other) held)

  -- and one that came does not wait
  came_quiet : (x : PacketNote) → x.came ≡ true → waits left x ≡ false
  came_quiet x came = and_left (not x.came) (not (is_held left x.from x.to)) (not_from_true x.came came)

  -- none of those before the first of the line that has not come waits
  pub quiet_passed : (notes : List PacketNote) (number low front : ℕ)
      → ((place : ℕ) (x : PacketNote) → slice_get notes place ≡ Some x → Came (number + place) → x.came ≡ true)
      → ((place n : ℕ) → place < front → slice_get (numbers_between from to number notes) place ≡ Some n → Came n)
      → ((n : ℕ) → slice_get (numbers_between from to number notes) front ≡ Some n → low + number ≤ n)
      → low ≤ position_or_len (waits held) notes → low ≤ position_or_len (waits left) notes
  quiet_passed notes number zero front tells known first so_far = omega (arith)
  quiet_passed [] number (suc low) front tells known first so_far = so_far
  quiet_passed (x ∷ notes) number (suc low) front tells known first so_far =
      by_case (is_between from to x) refl front known first
      (λ f its next. quiet_passed notes (number + 1) low f
      (λ place y at came. tells (suc place) y at (let e : number + 1 + place ≡ number + suc place = omega arith in subst Came e came))
      its (λ n at. let e = next n at in omega (arith, e)) (so_behind (waits held) x notes low so_far))
    where
      numbers : Bool → List ℕ
      numbers b = cond b (number ∷ numbers_between from to (number + 1) notes) (numbers_between from to (number + 1) notes)

      by_case : (b : Bool) → is_between from to x ≡ b → (f : ℕ)
          → ((place n : ℕ) → place < f → slice_get (numbers b) place ≡ Some n → Came n)
          → ((n : ℕ) → slice_get (numbers b) f ≡ Some n → suc low + number ≤ n)
          → ((g : ℕ) → ((place n : ℕ) → place < g → slice_get (numbers_between from to (number + 1) notes) place ≡ Some n → Came n)
          → ((n : ℕ) → slice_get (numbers_between from to (number + 1) notes) g ≡ Some n → suc low + number ≤ n)
          → low ≤ position_or_len (waits left) notes)
          → suc low ≤ position_or_len (waits left) (x ∷ notes)
      by_case true between zero its next rest = let e = next number refl in absurd (omega (arith, e))
      by_case true between (suc g) its next rest =
          let e : number ≡ number + 0 = omega arith in
          so_before (waits left) x notes low (came_quiet x (tells 0 x refl (subst Came e (its 0 number (omega arith) refl))))
          (rest g (λ place n below at. its (suc place) n (omega (arith, below)) at) next)
      by_case false other f its next rest =
          so_before (waits left) x notes low (other_waits x other ∙ first_fails (waits held) x notes low so_far) (rest f its next)
