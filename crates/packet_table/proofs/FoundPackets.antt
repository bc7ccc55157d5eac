-- The lines have their packets, whatever is done.
use Rattle.std.proofs.Common.{◌≡◌, ℕ, ◌+◌, ◌-◌, ◌≤◌, Bool, true, false, not, cond, eqb, nat_eq, nat_lt, inl, inr, List, [], ◌∷◌, ◌++◌, length, length-append, set, filter, Option, Some, None, refl, sym, ap, subst, ◌∙◌, arith}
use Rattle.std.specs.Prelude.{slice_get, ◌&&◌}
use Rattle.std.proofs.lemmas.Bool.{cond_both, eqb-true, ltb-true, ltb-false, and_cases, and_left, and_right, or_left, not-false, not_from_true}
use Rattle.std.proofs.lemmas.List.{append-nil}
use Rattle.std.proofs.lemmas.List.Folds.{list_any-append}
use Rattle.std.proofs.lemmas.Option.{same_Some}
use Rattle.cluster_model.specs.declared.ids.NodeId.{NodeId}
use Rattle.cluster_model.specs.Nodes.{is_node}
use Rattle.packet_table.specs.declared.note.PacketNote.{PacketNote}
use Rattle.packet_table.specs.Packets.{is_between, is_pair, is_held, waits, numbers_between, came_at}
use Rattle.packet_table.specs.PacketLines.{PairLine, pair_key, IsMachine, line_at, numbers_in, front_in, with_number, with_front, ChangesLine, has_come, came_so, numbered_in, IsKnown, HasFront, MovesFront, AreFound, low_before}
use Rattle.packet_table.proofs.FirstWaiting.{quiet_pushed, quiet_set, quiet_too}
use Rattle.packet_table.proofs.MachineKeys.{key_test}
use Rattle.packet_table.proofs.LineLists.{number_of, numbers_pushed, numbers_set, numbers_above, come_at, come_pushed, come_set, before_pushed}
use Rattle.packet_table.proofs.PassedPackets.{quiet_passed}

-- what was known to have come still is
known_still : (notes notes' : List PacketNote) (numbers : List ℕ) (front : ℕ) → ((number : ℕ) → has_come notes number ≡ true → has_come notes' number ≡ true) → IsKnown notes numbers front → IsKnown notes' numbers front
known_still notes notes' numbers front still known = record {
  within = known.within;
  came = λ place number below at. still number (known.came place number below at);
}

known_more : (notes : List PacketNote) (numbers : List ℕ) (front number : ℕ) → IsKnown notes numbers front → IsKnown notes (numbers ++ number ∷ []) front
known_more notes numbers front number known = record {
  within = omega (arith, known.within, length-append numbers (number ∷ []));
  came = λ place n below at. known.came place n below (sym (before_pushed numbers place number (omega (arith, below, known.within))) ∙ at);
}

-- a packet is sent
module _ (from to : NodeId) (is_from : IsMachine from) (is_to : IsMachine to) (notes : List PacketNote) (held : List (NodeId × NodeId)) (lines lines' : List (ℕ × PairLine)) (low : ℕ) where
  sent_numbers : (y : PacketNote) → y.from ≡ from → y.to ≡ to → ChangesLine (pair_key from to) (with_number (length notes + 1)) lines lines' → AreFound notes held lines low
      → (f t : NodeId) → IsMachine f → IsMachine t → numbers_in (line_at lines' (pair_key f t)) ≡ numbers_between f t 1 (notes ++ y ∷ [])
  sent_numbers y its_from its_to changes found f t is_f is_t =
      ap numbers_in (changes (pair_key f t)) ∙ by_case (nat_eq (pair_key from to) (pair_key f t)) refl ∙ sym (numbers_pushed f t 1 notes y)
    where
      same_test : nat_eq (pair_key from to) (pair_key f t) ≡ is_between f t y
      same_test = key_test from to f t is_from is_to is_f is_t ∙ ap (λ a. is_node a f && is_node to t) (sym its_from) ∙ ap (λ a. is_node y.from f && is_node a t) (sym its_to)

      by_case : (b : Bool) → nat_eq (pair_key from to) (pair_key f t) ≡ b
          → numbers_in (cond b (with_number (length notes + 1) (line_at lines (pair_key from to))) (line_at lines (pair_key f t))) ≡ numbers_between f t 1 notes ++ number_of (is_between f t y) (1 + length notes)
      by_case true is =
          let e : length notes + 1 ≡ 1 + length notes = omega arith in
          ap (λ k. numbers_in (line_at lines k) ++ (length notes + 1) ∷ []) (eqb-true (pair_key from to) (pair_key f t) is)
          ∙ ap (λ l. l ++ (length notes + 1) ∷ []) (found.numbers f t is_f is_t)
          ∙ ap (λ n. numbers_between f t 1 notes ++ n ∷ []) e
          ∙ ap (λ b. numbers_between f t 1 notes ++ number_of b (1 + length notes)) (sym is ∙ same_test)
      by_case false other =
          found.numbers f t is_f is_t
          ∙ sym (append-nil (numbers_between f t 1 notes))
          ∙ ap (λ b. numbers_between f t 1 notes ++ number_of b (1 + length notes)) (sym other ∙ same_test)

  pub sent_found : (y : PacketNote) → y.from ≡ from → y.to ≡ to → ChangesLine (pair_key from to) (with_number (length notes + 1)) lines lines' → AreFound notes held lines low → AreFound (notes ++ y ∷ []) held lines' low
  sent_found y its_from its_to changes found = record {
    numbers = sent_numbers y its_from its_to changes found;
    fronts = λ key. subst (HasFront (notes ++ y ∷ [])) (sym (changes key))
        (cond_both (nat_eq (pair_key from to) key) (with_number (length notes + 1) (line_at lines (pair_key from to))) (line_at lines key) (HasFront (notes ++ y ∷ []))
        (λ _. known_more (notes ++ y ∷ []) (numbers_in (line_at lines (pair_key from to))) (front_in (line_at lines (pair_key from to))) (length notes + 1) (still (pair_key from to)))
        (λ _. still key));
    quiet = quiet_pushed (waits held) notes y low found.quiet;
  }
    where
      still : (key : ℕ) → HasFront (notes ++ y ∷ []) (line_at lines key)
      still key = known_still notes (notes ++ y ∷ []) (numbers_in (line_at lines key)) (front_in (line_at lines key)) (λ number. come_pushed notes number y) (found.fronts key)

module _ (notes : List PacketNote) (held : List (NodeId × NodeId)) (lines : List (ℕ × PairLine)) (low : ℕ) where
  -- a packet came
  came_there : (place : ℕ) (x : PacketNote) → slice_get notes place ≡ Some x → AreFound notes held lines low → AreFound (came_at notes place (Some x)) held lines low
  came_there place x at found = record {
    numbers = λ f t is_f is_t. found.numbers f t is_f is_t ∙ sym (numbers_set f t 1 notes place x y at refl refl);
    fronts = λ key. known_still notes (set notes place y) (numbers_in (line_at lines key)) (front_in (line_at lines key)) (λ number. come_set notes number place y refl) (found.fronts key);
    quiet = quiet_set (waits held) notes place y low refl found.quiet;
  }
    where
      y : PacketNote
      y = record { from = x.from; to = x.to; place = x.place; came = true }

  pub came_found : (number : ℕ) → AreFound notes held lines low → AreFound (came_at notes (number - 1) (numbered_in notes number)) held lines low
  came_found number found = by_option (numbered_in notes number) refl
    where
      behind_none : (b : Bool) (o : Option PacketNote) (x : PacketNote) → cond b None o ≡ Some x → o ≡ Some x
      behind_none true o x is = absurd (cc)
      behind_none false o x is = is

      by_option : (o : Option PacketNote) → numbered_in notes number ≡ o → AreFound (came_at notes (number - 1) o) held lines low
      by_option None is = found
      by_option (Some x) is = came_there (number - 1) x (behind_none (eqb number 0) (slice_get notes (number - 1)) x is) found

  -- one more pair is held
  pub held_found : (pair : NodeId × NodeId) → AreFound notes held lines low → AreFound notes (held ++ pair ∷ []) lines low
  held_found pair found = record {
    numbers = found.numbers;
    fronts = found.fronts;
    quiet = quiet_too (waits held) (waits (held ++ pair ∷ [])) notes low still found.quiet;
  }
    where
      more : (x : PacketNote) → is_held held x.from x.to ≡ true → is_held (held ++ pair ∷ []) x.from x.to ≡ true
      more x is = list_any-append (is_pair x.from x.to) held (pair ∷ []) ∙ or_left (is_held held x.from x.to) (is_held (pair ∷ []) x.from x.to) is

      still : (x : PacketNote) → waits held x ≡ false → waits (held ++ pair ∷ []) x ≡ false
      still x fails = elim (and_cases (not x.came) (not (is_held held x.from x.to)) fails) [
        | inl came ↦ and_left (not x.came) (not (is_held (held ++ pair ∷ []) x.from x.to)) came
        | inr is ↦ and_right (not x.came) (not (is_held (held ++ pair ∷ []) x.from x.to)) (not_from_true (is_held (held ++ pair ∷ []) x.from x.to) (more x (not-false (is_held held x.from x.to) is)))
      ]

-- the place before the packet of this number
low_least : (low : ℕ) (first : Option ℕ) → low_before low first ≤ low
low_least low None = omega arith
low_least low (Some n) = cond_both (nat_lt (n - 1) low) (n - 1) low (λ k. k ≤ low) (λ is. let e = ltb-true (n - 1) low is in omega (arith, e)) (λ _. omega arith)

low_first : (low : ℕ) (first : Option ℕ) (n : ℕ) → first ≡ Some n → 1 ≤ n → low_before low first + 1 ≤ n
low_first low None n is above = absurd (cc)
low_first low (Some m) n is above =
    let e : m ≡ n = same_Some m n is in
    cond_both (nat_lt (m - 1) low) (m - 1) low (λ k. k + 1 ≤ n) (λ _. omega (arith, e, above)) (λ not_below. let least = ltb-false (m - 1) low not_below in omega (arith, e, above, least))

front_kept : (front : ℕ) (line : Option PairLine) → numbers_in (with_front front line) ≡ numbers_in line
front_kept front None = refl
front_kept front (Some line) = refl

front_known : (notes : List PacketNote) (front : ℕ) (line : Option PairLine) → HasFront notes line → MovesFront notes (numbers_in line) (front_in line) front → HasFront notes (with_front front line)
front_known notes front None known moves = known
front_known notes front (Some line) known moves = moves.known

-- packets are held no longer
module _ (from to : NodeId) (is_from : IsMachine from) (is_to : IsMachine to) (notes : List PacketNote) (held : List (NodeId × NodeId)) (lines lines' : List (ℕ × PairLine)) (low front : ℕ) where
  pub passed_found : ChangesLine (pair_key from to) (with_front front) lines lines'
      → MovesFront notes (numbers_in (line_at lines (pair_key from to))) (front_in (line_at lines (pair_key from to))) front
      → AreFound notes held lines low
      → AreFound notes (filter (λ pair. not (is_pair from to pair)) held) lines' (low_before low (slice_get (numbers_in (line_at lines (pair_key from to))) front))
  passed_found changes moves found = record {
    numbers = λ f t is_f is_t. ap numbers_in (changes (pair_key f t)) ∙ by_case f t (nat_eq (pair_key from to) (pair_key f t)) refl ∙ found.numbers f t is_f is_t;
    fronts = λ key. subst (HasFront notes) (sym (changes key))
        (cond_both (nat_eq (pair_key from to) key) (with_front front (line_at lines (pair_key from to))) (line_at lines key) (HasFront notes)
        (λ _. front_known notes front (line_at lines (pair_key from to)) (found.fronts (pair_key from to)) moves)
        (λ _. found.fronts key));
    quiet = quiet_passed from to held (λ n. has_come notes n ≡ true) notes 1 (low_before low (slice_get its front)) front
        (λ place x at came. sym (ap came_so at) ∙ sym (come_at notes place) ∙ came)
        (λ place n below at. moves.known.came place n below (ap (λ l. slice_get l place) are ∙ at))
        (λ n at. low_first low (slice_get its front) n (ap (λ l. slice_get l front) are ∙ at) (numbers_above from to 1 notes front n at))
        (omega (arith, low_least low (slice_get its front), found.quiet));
  }
    where
      its : List ℕ
      its = numbers_in (line_at lines (pair_key from to))

      are : numbers_in (line_at lines (pair_key from to)) ≡ numbers_between from to 1 notes
      are = found.numbers from to is_from is_to

      by_case : (f t : NodeId) (b : Bool) → nat_eq (pair_key from to) (pair_key f t) ≡ b
          → numbers_in (cond b (with_front front (line_at lines (pair_key from to))) (line_at lines (pair_key f t))) ≡ numbers_in (line_at lines (pair_key f t))
      by_case f t true is = front_kept front (line_at lines (pair_key from to)) ∙ ap (λ k. numbers_in (line_at lines k)) (eqb-true (pair_key from to) (pair_key f t) is)
      by_case f t false other = refl
