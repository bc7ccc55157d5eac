-- The numbers of the packets between two machines, in lists that change.
use Rattle.std.proofs.Common.{◌≡◌, ℕ, zero, suc, ◌+◌, ◌-◌, ◌<◌, ◌≤◌, Bool, true, false, cond, nat_eq, List, [], ◌∷◌, ◌++◌, length, set, Some, None, refl, sym, ap, subst, ◌∙◌, arith}
use Rattle.std.specs.Prelude.{slice_get, ◌&&◌}
use Rattle.std.specs.Map.{lookup, set_value}
use Rattle.std.proofs.lemmas.Bool.{ne_eqb}
use Rattle.std.proofs.lemmas.Map.Steps.{set_value_same}
use Rattle.std.proofs.lemmas.Option.{same_Some}
use Rattle.cluster_model.specs.declared.ids.NodeId.{NodeId}
use Rattle.cluster_model.specs.Nodes.{is_node}
use Rattle.packet_table.specs.declared.note.PacketNote.{PacketNote}
use Rattle.packet_table.specs.Packets.{is_between, numbers_between}
use Rattle.packet_table.specs.PacketLines.{PairLine, has_come, came_so}

-- the number of one that is between them
abbrev pub number_of : Bool → ℕ → List ℕ
number_of between number = cond between (number ∷ []) []

-- the head, and what stands behind
abbrev with_head : Bool → ℕ → List ℕ → List ℕ
with_head between number rest = cond between (number ∷ rest) rest

join_head : (b : Bool) (number : ℕ) (xs ys : List ℕ) → with_head b number (xs ++ ys) ≡ with_head b number xs ++ ys
join_head true number xs ys = refl
join_head false number xs ys = refl

module _ (from to : NodeId) where
  -- one more packet has the number behind all
  pub numbers_pushed : (number : ℕ) (notes : List PacketNote) (y : PacketNote)
      → numbers_between from to number (notes ++ y ∷ []) ≡ numbers_between from to number notes ++ number_of (is_between from to y) (number + length notes)
  numbers_pushed number [] y =
      let e : number + 0 ≡ number = omega arith in
      ap (number_of (is_between from to y)) (sym e)
  numbers_pushed number (x ∷ notes) y =
      let e : (number + 1) + length notes ≡ number + length (x ∷ notes) = omega arith in
      ap (with_head (is_between from to x) number) (numbers_pushed (number + 1) notes y ∙ ap (λ n. numbers_between from to (number + 1) notes ++ number_of (is_between from to y) n) e)
      ∙ join_head (is_between from to x) number (numbers_between from to (number + 1) notes) (number_of (is_between from to y) (number + length (x ∷ notes)))

  -- a packet that only came keeps all of them
  pub numbers_set : (number : ℕ) (notes : List PacketNote) (i : ℕ) (x y : PacketNote) → slice_get notes i ≡ Some x → y.from ≡ x.from → y.to ≡ x.to
      → numbers_between from to number (set notes i y) ≡ numbers_between from to number notes
  numbers_set number [] i x y at same_from same_to = refl
  numbers_set number (z ∷ notes) zero x y at same_from same_to =
      let is : z ≡ x = same_Some z x at in
      ap (λ b. with_head b number (numbers_between from to (number + 1) notes))
      (ap (λ a. is_node a from && is_node y.to to) same_from ∙ ap (λ a. is_node x.from from && is_node a to) same_to ∙ ap (is_between from to) (sym is))
  numbers_set number (z ∷ notes) (suc i) x y at same_from same_to =
      ap (with_head (is_between from to z) number) (numbers_set (number + 1) notes i x y at same_from same_to)

-- ---- which came

-- the packet of a number stands at the place before
pub come_at : (notes : List PacketNote) (place : ℕ) → has_come notes (1 + place) ≡ came_so (slice_get notes place)
come_at notes place =
    let e : 1 + place - 1 ≡ place = omega arith in
    ap (λ b. came_so (cond b None (slice_get notes (1 + place - 1)))) (ne_eqb (1 + place) 0 (λ zero_is. absurd (omega (arith, zero_is))))
    ∙ ap (λ n. came_so (slice_get notes n)) e

came_pushed : (notes : List PacketNote) (place : ℕ) (y : PacketNote) → came_so (slice_get notes place) ≡ true → came_so (slice_get (notes ++ y ∷ []) place) ≡ true
came_pushed [] place y is = absurd (cc)
came_pushed (x ∷ notes) zero y is = is
came_pushed (x ∷ notes) (suc place) y is = came_pushed notes place y is

came_set : (notes : List PacketNote) (place i : ℕ) (y : PacketNote) → y.came ≡ true → came_so (slice_get notes place) ≡ true → came_so (slice_get (set notes i y) place) ≡ true
came_set [] place i y came is = is
came_set (x ∷ notes) zero zero y came is = came
came_set (x ∷ notes) zero (suc i) y came is = is
came_set (x ∷ notes) (suc place) zero y came is = is
came_set (x ∷ notes) (suc place) (suc i) y came is = came_set notes place i y came is

-- what came has come in a longer list
pub come_pushed : (notes : List PacketNote) (number : ℕ) (y : PacketNote) → has_come notes number ≡ true → has_come (notes ++ y ∷ []) number ≡ true
come_pushed notes zero y is = absurd (cc)
come_pushed notes (suc place) y is =
    let e : 1 + place ≡ suc place = omega arith in
    subst (λ n. has_come (notes ++ y ∷ []) n ≡ true) e (come_at (notes ++ y ∷ []) place ∙ came_pushed notes place y (sym (come_at notes place) ∙ ap (has_come notes) e ∙ is))

-- and where another came, or the same again
pub come_set : (notes : List PacketNote) (number i : ℕ) (y : PacketNote) → y.came ≡ true → has_come notes number ≡ true → has_come (set notes i y) number ≡ true
come_set notes zero i y came is = absurd (cc)
come_set notes (suc place) i y came is =
    let e : 1 + place ≡ suc place = omega arith in
    subst (λ n. has_come (set notes i y) n ≡ true) e (come_at (set notes i y) place ∙ came_set notes place i y came (sym (come_at notes place) ∙ ap (has_come notes) e ∙ is))

-- the numbers before the end stay where one is put behind them
pub before_pushed : (numbers : List ℕ) (place number : ℕ) → place < length numbers → slice_get (numbers ++ number ∷ []) place ≡ slice_get numbers place
before_pushed [] place number within = absurd (omega (arith, within))
before_pushed (n ∷ numbers) zero number within = refl
before_pushed (n ∷ numbers) (suc place) number within = before_pushed numbers place number (omega (arith, within))

-- what is written over the same changes nothing
pub line_same : (key : ℕ) (lines : List (ℕ × PairLine)) (was new : PairLine) → Some was ≡ lookup (nat_eq key) lines → new ≡ was → set_value (nat_eq key) lines new ≡ lines
line_same key lines was new at same = ap (set_value (nat_eq key) lines) same ∙ set_value_same (nat_eq key) lines was (sym at)

-- a number among them is none before the first packet's
pub numbers_above : (from to : NodeId) (number : ℕ) (notes : List PacketNote) (place n : ℕ) → slice_get (numbers_between from to number notes) place ≡ Some n → number ≤ n
numbers_above from to number [] place n at = absurd (cc)
numbers_above from to number (x ∷ notes) place n at =
    by_case (is_between from to x) place at (λ k there. let e = numbers_above from to (number + 1) notes k n there in omega (arith, e))
  where
    by_case : (b : Bool) (k : ℕ) → slice_get (with_head b number (numbers_between from to (number + 1) notes)) k ≡ Some n
        → ((k : ℕ) → slice_get (numbers_between from to (number + 1) notes) k ≡ Some n → number ≤ n) → number ≤ n
    by_case true zero there rest = let e : number ≡ n = same_Some number n there in omega (arith, e)
    by_case true (suc k) there rest = rest k there
    by_case false k there rest = rest k there
