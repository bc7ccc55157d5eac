-- Two compounds of a client under one number are of one life of it.
use Rattle.std.proofs.Common.{◌≡◌, ◌<◌, ℕ, List, [], ◌∷◌, ◌++◌, sym, subst, ◌∙◌, inl, inr, ◌⊎◌, arith}
use Rattle.cluster_model.specs.Members.{IsOneOf}
use Rattle.client_mds_calls.specs.MdsCalls.{MdsCallValue}
use Rattle.client_state.specs.ClientStates.{fresh_client}
use Rattle.client_laws.specs.ClientHistory.{ClientInput, HistoryItem, HasItem, Each, client_history, client_after}
use Rattle.client_records.specs.ClientRecords.{NumbersOn, IsNumberedOn, EachRunIsNumbered}
use Rattle.node_histories.specs.Weaves.{items_in}
use Rattle.node_histories.specs.ClientLives.{Life, start_of, client_of, AreLives}
use Rattle.world_reads.proofs.SilentClients.{AsksNone, StaysSilent, stays_silent}
use Rattle.world_reads.proofs.Lives.{first_fits}
use Rattle.world_reads.proofs.LifeRecords.{compound, from_first, below_next}

asks_none : (past h : List HistoryItem) (xid : ℕ) (name : List ℕ) (call : MdsCallValue) → Each AsksNone past h → HasItem h (compound xid name call) → ⊥
asks_none past [] xid name call each has = has
asks_none past (x ∷ h) xid name call each (inl here) = subst (λ (item : HistoryItem). AsksNone past item) (sym here.0) each.0
asks_none past (x ∷ h) xid name call each (inr has) = asks_none (past ++ x ∷ []) h xid name call each.1 has

-- a number of a life is below the first of those behind it, or these have none
abbrev IsUsedBefore : ℕ → ℕ → Type 0
IsUsedBefore xid first = (xid < first) ⊎ (first ≡ 0)

silent_from : (n verifier first : ℕ) (inputs : List ClientInput) → first ≡ 0 → Each AsksNone [] (client_history (fresh_client n verifier first) inputs) × ((client_after (fresh_client n verifier first) inputs).next_xid ≡ 0)
silent_from n verifier first inputs is =
    let s : StaysSilent n verifier inputs = stays_silent n verifier inputs in
    subst (λ (x : ℕ). Each AsksNone [] (client_history (fresh_client n verifier x) inputs) × ((client_after (fresh_client n verifier x) inputs).next_xid ≡ 0)) (sym is) (s.none, s.spent)

module _ (numbered : EachRunIsNumbered) (n : ℕ) where
  history_of : (l : Life) (older : List Life) → AreLives n l older → client_history (start_of n l) l.inputs ≡ items_in l.steps
  history_of l [] lives = lives.0.history
  history_of l (old ∷ older) lives = lives.0.history

  each_number : (l : Life) (older : List Life) → AreLives n l older → Each (NumbersOn l.first_xid) [] (items_in l.steps)
  each_number l older lives = subst (λ (h : List HistoryItem). Each (NumbersOn l.first_xid) [] h) (history_of l older lives) (numbered n l.verifier l.first_xid l.inputs (first_fits numbered n l older lives)).0

  next_of : (l : Life) (older : List Life) → AreLives n l older → IsNumberedOn l.first_xid (items_in l.steps) (client_of n l).next_xid
  next_of l older lives =
      subst (λ (h : List HistoryItem). IsNumberedOn l.first_xid h (client_of n l).next_xid) (history_of l older lives) (numbered n l.verifier l.first_xid l.inputs (first_fits numbered n l older lives)).1

  silent : (l : Life) (older : List Life) → AreLives n l older → l.first_xid ≡ 0 → (xid : ℕ) (name : List ℕ) (call : MdsCallValue) → HasItem (items_in l.steps) (compound xid name call) → ⊥
  silent l older lives none xid name call has =
      asks_none [] (items_in l.steps) xid name call (subst (λ (h : List HistoryItem). Each AsksNone [] h) (history_of l older lives) (silent_from n l.verifier l.first_xid l.inputs none).0) has

  goes_on : (l : Life) (older : List Life) → AreLives n l older → (xid : ℕ) → IsUsedBefore xid l.first_xid → IsUsedBefore xid (client_of n l).next_xid
  goes_on l older lives xid (inr none) = inr (silent_from n l.verifier l.first_xid l.inputs none).1
  goes_on l older lives xid (inl less) = by_next (next_of l older lives)
    where
      by_next : IsNumberedOn l.first_xid (items_in l.steps) (client_of n l).next_xid → IsUsedBefore xid (client_of n l).next_xid
      by_next (inl spent) = inr spent
      by_next (inr (from, fits, above)) = inl (omega (arith, less, from))

  its_own : (l : Life) (older : List Life) → AreLives n l older → (xid : ℕ) (name : List ℕ) (call : MdsCallValue) → HasItem (items_in l.steps) (compound xid name call) → IsUsedBefore xid (client_of n l).next_xid
  its_own l older lives xid name call has = by_next (next_of l older lives)
    where
      by_next : IsNumberedOn l.first_xid (items_in l.steps) (client_of n l).next_xid → IsUsedBefore xid (client_of n l).next_xid
      by_next (inl spent) = inr spent
      by_next (inr (from, fits, above)) = inl (below_next (client_of n l).next_xid (items_in l.steps) xid name call above has)

  used_before : (l : Life) (older : List Life) → AreLives n l older → (k : Life) → IsOneOf k older → (xid : ℕ) (name : List ℕ) (call : MdsCallValue) → HasItem (items_in k.steps) (compound xid name call) → IsUsedBefore xid l.first_xid
  used_before l [] lives k inside xid name call has = absurd inside
  used_before l (old ∷ older) lives k (inl same) xid name call has =
      subst (IsUsedBefore xid) (sym lives.1.numbered_on) (its_own old older lives.2 xid name call (subst (λ (x : Life). HasItem (items_in x.steps) (compound xid name call)) same has))
  used_before l (old ∷ older) lives k (inr inside) xid name call has =
      subst (IsUsedBefore xid) (sym lives.1.numbered_on) (goes_on old older lives.2 xid (used_before old older lives.2 k inside xid name call has))

  not_both : (l : Life) (older : List Life) → AreLives n l older → (k : Life) → IsOneOf k older → (xid : ℕ) (name other : List ℕ) (call asked : MdsCallValue) → HasItem (items_in l.steps) (compound xid name call)
      → HasItem (items_in k.steps) (compound xid other asked) → ⊥
  not_both l older lives k inside xid name other call asked has also = by_number (used_before l older lives k inside xid other asked also)
    where
      by_number : IsUsedBefore xid l.first_xid → ⊥
      by_number (inl less) = let from = from_first l.first_xid [] (items_in l.steps) xid name call (each_number l older lives) has in absurd (omega (arith, less, from))
      by_number (inr none) = silent l older lives none xid name call has

  pub one_life : (l : Life) (older : List Life) → AreLives n l older → (k j : Life) → (k ≡ l) ⊎ IsOneOf k older → (j ≡ l) ⊎ IsOneOf j older → (xid : ℕ) (name other : List ℕ) (call asked : MdsCallValue)
      → HasItem (items_in k.steps) (compound xid name call) → HasItem (items_in j.steps) (compound xid other asked) → k ≡ j
  one_life l older lives k j (inl x) (inl y) xid name other call asked has also = x ∙ sym y
  one_life l older lives k j (inl x) (inr y) xid name other call asked has also =
      absurd (not_both l older lives j y xid name other call asked (subst (λ (z : Life). HasItem (items_in z.steps) (compound xid name call)) x has) also)
  one_life l older lives k j (inr x) (inl y) xid name other call asked has also =
      absurd (not_both l older lives k x xid other name asked call (subst (λ (z : Life). HasItem (items_in z.steps) (compound xid other asked)) y also) has)
  one_life l [] lives k j (inr x) (inr y) xid name other call asked has also = absurd x
  one_life l (old ∷ older) lives k j (inr x) (inr y) xid name other call asked has also = one_life old older lives.2 k j x y xid name other call asked has also
