-- Where the connection of a number stands, and which one was silent for the longest time.
use Rattle.std.proofs.Common.{◌≡◌, ℕ, zero, suc, ◌+◌, ◌-◌, ◌^◌, ◌<◌, ◌≤◌, ◌==◌, nat_lt, nat_le, true, false, ◌&&◌, not, List, [], ◌∷◌, length, get_or, refl, sym, ap, subst, ◌∙◌, arith, Option, Some, None, Result, Ok, Err, MatchOption, IfSome, ⊎_elim}
use Rattle.std.specs.Prelude.{slice_get}
use Rattle.std.specs.List.Sorted.{IsSearchInRange, IsBinarySearchResult, IsNonDecreasingBy}
use Rattle.std.specs.Ordering.{nat_cmp, ordering_index}
use Rattle.std.specs.Result.{result_ok}
use Rattle.std.proofs.lemmas.Cmp.{ranked}
use Rattle.std.proofs.lemmas.Bool.{cases_lt, cases_Bool, and_parts, and_from, leb-true, ltb-true, lt-ltb, true≢false}
use Rattle.std.proofs.lemmas.Bool.Decides.{nat_tests}
use Rattle.std.proofs.lemmas.Option.{same_Some, slice_get_within, slice_get_cases, get_or_from_slice_get}
use Rattle.rpc_record.specs.Frames.{is_whole}
use Rattle.record_link.specs.declared.peer.TheConstants.{SPARE_LIMIT}
use Rattle.record_link.specs.Peers.{PeerState, is_spare}
use Rattle.record_server.specs.Server.{AreRising, HasNoNumber, HasNoSpare, IsPlaceOf, IsLongestSpare}

-- the numbers are above the low one
pub rising_above : (low : ℕ) (es : List PeerState) → AreRising low es → (i : ℕ) (d : PeerState) → i < length es → low < (get_or es i d).number
rising_above low [] rising i d within = absurd (omega (arith, within))
rising_above low (e ∷ es) rising zero d within = rising.0
rising_above low (e ∷ es) rising (suc i) d within =
    let first = rising.0 in
    omega (arith, first, rising_above e.number es rising.1 i d (omega (arith, within)))

-- and rise
pub rising_between : (low : ℕ) (es : List PeerState) → AreRising low es → (i j : ℕ) (d : PeerState) → i ≤ j → j < length es → (get_or es i d).number ≤ (get_or es j d).number
rising_between low [] rising i j d less within = absurd (omega (arith, within))
rising_between low (e ∷ es) rising zero zero d less within = omega arith
rising_between low (e ∷ es) rising zero (suc j) d less within = let above = rising_above e.number es rising.1 j d (omega (arith, within)) in omega (arith, above)
rising_between low (e ∷ es) rising (suc i) zero d less within = absurd (omega (arith, less))
rising_between low (e ∷ es) rising (suc i) (suc j) d less within = rising_between e.number es rising.1 i j d (omega (arith, less)) (omega (arith, within))

module _ (peers : List PeerState) (rising : AreRising 0 peers) (number : ℕ) where
  comparisons_rise : IsNonDecreasingBy (λ (e : PeerState). ordering_index (nat_cmp e.number number)) peers
  comparisons_rise i j d less within =
      let rise = rising_between 0 peers rising i j d less within in
      grind (arith, nat_tests)

  -- what a binary search by number tells
  pub searched : (r : Result ℕ ℕ) → IsSearchInRange r (length peers) → IsBinarySearchResult (λ (e : PeerState). nat_cmp e.number number) peers r → MatchOption (result_ok r) (HasNoNumber number peers) (λ place. IsPlaceOf number peers place)
  searched (Ok place) within equal = ⊎_elim
      (λ there. record { peer = there.0; at = there.2; numbered = subst (λ (e : PeerState). e.number ≡ number) there.3 (ranked _ number _ (sym (equal there.0))) })
      (λ past. absurd (omega (arith, past.0, within)))
      (slice_get_cases peers place).1
  searched (Err place) within parted = λ i e there same.
      let is : get_or peers i e ≡ e = get_or_from_slice_get peers i e e there in
      let here : (get_or peers i e).number ≡ number = ap (λ (x : PeerState). x.number) is ∙ same in
      let inside = slice_get_within peers i e there in
      ⊎_elim
      (λ before. absurd (omega (arith, here, ranked _ number _ (sym ((parted comparisons_rise).0 i e (omega arith) before)))))
      (λ behind. absurd (omega (arith, here, ranked _ number _ (sym ((parted comparisons_rise).1 i e behind inside)))))
      (cases_lt i place)

-- ---- which was silent for the longest time

-- of the first so many, this one is the best so far, and was heard then
abbrev pub BestOf : ℕ → List PeerState → ℕ → Option ℕ → ℕ → Type 0
BestOf time peers n None heard = (2 ^ 64 - 1 ≤ heard) × ((i : ℕ) (e : PeerState) → i < n → slice_get peers i ≡ Some e → is_spare time e ≡ false)
BestOf time peers n (Some place) heard =
    (best : PeerState) × (slice_get peers place ≡ Some best) × (is_spare time best ≡ true) × (best.heard ≡ heard)
    × ((i : ℕ) (e : PeerState) → i < n → slice_get peers i ≡ Some e → is_spare time e ≡ true → heard ≤ e.heard)

pub best_found : (time : ℕ) (peers : List PeerState) (best : Option ℕ) (heard : ℕ) → BestOf time peers (length peers) best heard → MatchOption best (HasNoSpare time peers) (λ place. IsLongestSpare time peers place)
best_found time peers None heard best = λ i e there. best.1 i e (slice_get_within peers i e there) there
best_found time peers (Some place) heard best = record {
  peer = best.0;
  at = best.1;
  spare = best.2;
  longest = λ i e there spare. subst (λ (n : ℕ). n ≤ e.heard) (sym best.3) (best.4 i e (slice_get_within peers i e there) there spare);
}

pub best_within : (time : ℕ) (peers : List PeerState) (best : Option ℕ) (heard : ℕ) → BestOf time peers (length peers) best heard → IfSome best (λ place. place < length peers)
best_within time peers None heard best = tt
best_within time peers (Some place) heard best = slice_get_within peers place best.0 best.1

-- one that may be closed was heard before the time's end
spare_heard : (time : ℕ) (e : PeerState) → time < 2 ^ 64 → is_spare time e ≡ true → e.heard < 2 ^ 64 - 1
spare_heard time e fits spare =
    let long : e.heard + SPARE_LIMIT ≤ time = leb-true (e.heard + SPARE_LIMIT) time (and_parts (nat_le (e.heard + SPARE_LIMIT) time) (not (is_whole e.connection.front) && ((length e.connection.to_go == 0) && (e.connection.unanswered == 0))) spare).0 in
    omega (arith, long, fits)

-- another was looked at, and is not the best
pub best_stays : (time : ℕ) (peers : List PeerState) (n : ℕ) (best : Option ℕ) (heard : ℕ) (e : PeerState) → time < 2 ^ 64 → slice_get peers n ≡ Some e → (is_spare time e && nat_lt e.heard heard) ≡ false
    → BestOf time peers n best heard → BestOf time peers (n + 1) best heard
best_stays time peers n None heard e fits there not best = (
  best.0,
  λ i x below at. ⊎_elim
      (λ before. best.1 i x before at)
      (λ behind.
      let is : i ≡ n = omega (arith, below, behind) in
      let same : e ≡ x = same_Some e x (sym there ∙ subst (λ (k : ℕ). slice_get peers k ≡ Some x) is at) in
      subst (λ (y : PeerState). is_spare time y ≡ false) same (⊎_elim
      (λ spare.
      let early = spare_heard time e fits spare in
      let late = best.0 in
      absurd (true≢false (sym (and_from _ _ spare (lt-ltb _ _ (omega (arith, early, late)))) ∙ not)))
      (λ no. no)
      (cases_Bool (is_spare time e))))
      (cases_lt i n),
)
best_stays time peers n (Some place) heard e fits there not best = (
  best.0,
  best.1,
  best.2,
  best.3,
  λ i x below at spare. ⊎_elim
      (λ before. best.4 i x before at spare)
      (λ behind.
      let is : i ≡ n = omega (arith, below, behind) in
      let same : x ≡ e = same_Some x e (sym (subst (λ (k : ℕ). slice_get peers k ≡ Some x) is at) ∙ there) in
      subst (λ (y : PeerState). heard ≤ y.heard) (sym same) (⊎_elim
      (λ less. absurd (true≢false (sym (and_from _ _ (subst (λ (y : PeerState). is_spare time y ≡ true) same spare) (lt-ltb _ _ less)) ∙ not)))
      (λ more. more)
      (cases_lt e.heard heard)))
      (cases_lt i n),
)

-- it is the best
pub best_next : (time : ℕ) (peers : List PeerState) (n : ℕ) (best : Option ℕ) (heard : ℕ) (e : PeerState) → slice_get peers n ≡ Some e → (is_spare time e && nat_lt e.heard heard) ≡ true
    → BestOf time peers n best heard → BestOf time peers (n + 1) (Some n) e.heard
best_next time peers n best heard e there both so_far =
    let parts = and_parts _ _ both in
    let less = ltb-true _ _ parts.1 in (
      e,
      there,
      parts.0,
      refl,
      λ i x below at spare. ⊎_elim
          (λ before. earlier best so_far i x before at spare less)
          (λ behind.
          let is : i ≡ n = omega (arith, below, behind) in
          let same : x ≡ e = same_Some x e (sym (subst (λ (k : ℕ). slice_get peers k ≡ Some x) is at) ∙ there) in
          let equal = ap (λ (y : PeerState). y.heard) same in
          omega (arith, equal))
          (cases_lt i n),
    ) where
      earlier : (best : Option ℕ) → BestOf time peers n best heard → (i : ℕ) (x : PeerState) → i < n → slice_get peers i ≡ Some x → is_spare time x ≡ true → e.heard < heard → e.heard ≤ x.heard
      earlier None best i x before at spare less = absurd (true≢false (sym spare ∙ best.1 i x before at))
      earlier (Some place) best i x before at spare less = let most = best.4 i x before at spare in omega (arith, less, most)
