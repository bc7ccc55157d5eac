-- Tickets that rise: the place of one, one more and one less.
use Rattle.std.proofs.Common.{◌≡◌, ℕ, ◌+◌, ◌<◌, ◌≤◌, Bool, List, [], ◌∷◌, ◌++◌, length, get_or, Some, Result, Ok, Err, sym, ap, subst, ◌∙◌, inl, inr, ◌⊎◌, arith, nat_cmp}
use Rattle.std.specs.Prelude.{slice_get, remove}
use Rattle.std.specs.Result.{result_ok}
use Rattle.std.specs.List.Sorted.{IsBinarySearchResult}
use Rattle.std.proofs.lemmas.Bool.{cases_lt}
use Rattle.std.proofs.lemmas.List.Sorted.{searched}
use Rattle.std.proofs.lemmas.List.Quantifiers.{all_pairs_push}
use Rattle.std.proofs.lemmas.Option.{slice_get_within, slice_get-get_or, get_or_from_slice_get}
use Rattle.served_files.specs.Tickets.{TicketsValue, FindsTicket, AreRisingNumbers}
use Rattle.served_files.proofs.Removed.{stays_before, moves_down}

-- ---- the place of a ticket

never_fall : (tickets : List ℕ) → AreRisingNumbers tickets → (i j : ℕ) → i ≤ j → j < length tickets → get_or tickets i 0 ≤ get_or tickets j 0
never_fall tickets rising i j le within = by_order (cases_lt i j)
  where
    by_order : (i < j) ⊎ (j ≤ i) → get_or tickets i 0 ≤ get_or tickets j 0
    by_order (inl below) = let less = rising i j 0 below within in omega (arith, less)
    by_order (inr not) =
        let same : i ≡ j = omega (arith, le, not) in
        subst (λ k. get_or tickets i 0 ≤ get_or tickets k 0) same (omega arith)

one_place : (tickets : List ℕ) (i j : ℕ) → AreRisingNumbers tickets → i < length tickets → j < length tickets → get_or tickets i 0 ≡ get_or tickets j 0 → i ≡ j
one_place tickets i j rising inside within same = by_order (cases_lt i j) (cases_lt j i)
  where
    by_order : (i < j) ⊎ (j ≤ i) → (j < i) ⊎ (i ≤ j) → i ≡ j
    by_order (inl below) other = let less = rising i j 0 below within in absurd (omega (arith, less, same))
    by_order (inr not) (inl above) = let less = rising j i 0 above inside in absurd (omega (arith, less, same))
    by_order (inr not) (inr too) = omega (arith, not, too)

-- what a search for a ticket answers that stands at a place
pub found_at : (tickets : List ℕ) (ticket place : ℕ) (r : Result ℕ ℕ) → AreRisingNumbers tickets → IsBinarySearchResult (λ y. nat_cmp y ticket) tickets r → slice_get tickets place ≡ Some ticket → result_ok r ≡ Some place
found_at tickets ticket place (Ok i) rising search there =
    let seen = searched tickets ticket (Ok i) search (never_fall tickets rising) in
    let within = slice_get_within tickets place ticket there in
    let here = get_or_from_slice_get tickets place ticket 0 there in
    ap Some (one_place tickets i place rising seen.0 within (seen.1 ∙ sym here))
found_at tickets ticket place (Err i) rising search there =
    let seen = searched tickets ticket (Err i) search (never_fall tickets rising) in
    let within = slice_get_within tickets place ticket there in
    let here = get_or_from_slice_get tickets place ticket 0 there in
    absurd (by_order (cases_lt place i) seen.1 seen.2 within here)
  where
    by_order : (place < i) ⊎ (i ≤ place) → ((k : ℕ) → k < i → get_or tickets k 0 < ticket) → ((k : ℕ) → i ≤ k → k < length tickets → ticket < get_or tickets k 0) → place < length tickets → get_or tickets place 0 ≡ ticket → ⊥
    by_order (inl below) low high within here = let less = low place below in omega (arith, less, here)
    by_order (inr above) low high within here = let more = high place above within in omega (arith, more, here)

-- ---- one more

pub rise_pushed : (tickets : List ℕ) (ticket : ℕ) → AreRisingNumbers tickets → ((place t : ℕ) → slice_get tickets place ≡ Some t → t < ticket) → AreRisingNumbers (tickets ++ ticket ∷ [])
rise_pushed tickets ticket rising above = all_pairs_push (λ (a b : ℕ). a < b) tickets ticket rising (λ k d within. above k (get_or tickets k d) (slice_get-get_or tickets k d within))

-- ---- one less

module _ (is_whole : Bool) (tickets : List ℕ) (out : List (ℕ × ℕ)) (place : ℕ) (within : place < length tickets) where
  abbrev before : TicketsValue
  before = record { is_whole = is_whole; tickets = tickets; out = out }

  abbrev behind : TicketsValue
  behind = record { is_whole = is_whole; tickets = remove tickets place; out = out }

  pub finds_before : (xid p : ℕ) → p < place → FindsTicket before xid p → FindsTicket behind xid p
  finds_before xid p low (ticket, at, there) = (ticket, at, stays_before tickets place p ticket within low there)

  pub finds_behind : (xid p : ℕ) → place ≤ p → FindsTicket before xid (p + 1) → FindsTicket behind xid p
  finds_behind xid p high (ticket, at, there) = (ticket, at, moves_down tickets place p ticket within high there)
