-- READs that are found by the numbers of their calls, where the list of them changes.
use Rattle.std.proofs.Common.{◌≡◌, ℕ, zero, suc, ◌+◌, ◌<◌, ◌≤◌, Bool, true, false, cond, ◌||◌, List, [], ◌∷◌, ◌++◌, length, map, set, Option, Some, None, refl, sym, ap, subst, ◌∙◌, inl, inr, ◌⊎◌, arith}
use Rattle.std.specs.Prelude.{◌≢◌, is_some, slice_get, remove}
use Rattle.std.specs.List.{position, position_from, list_any}
use Rattle.std.specs.Option.{option_map}
use Rattle.std.proofs.lemmas.Bool.{cases_eq, cases_lt}
use Rattle.std.proofs.lemmas.Option.{none-some, same_Some, slice_get-map}
use Rattle.std.proofs.lemmas.Iterator.Adapters.{position_from-zero}
use Rattle.cluster_model.proofs.Elements.{slice_get-set_same, slice_get-set_other, Pushed, Old, New, pushed}
use Rattle.mds_rule.specs.MdsStates.{WaitingRead}
use Rattle.mds_rule.specs.Answers.{is_read_out}
use Rattle.served_files.specs.Waiting.{OutUnder}
use Rattle.served_files.specs.Tickets.{TicketsValue, FindsTicket, KeepsFound, AreReadsFound}
use Rattle.served_files.proofs.Removed.{stood_before, stood_behind}

yes_no : (b : Bool) → b ≡ true → b ≡ false → ⊥
yes_no b is not = let bad : true ≡ false = sym is ∙ not in absurd (cc)

module _ {X : Type 0} where
  -- ---- the one that passes

  none_from : (test : X → Bool) (n : ℕ) (xs : List X) → ((place : ℕ) (r : X) → slice_get xs place ≡ Some r → test r ≡ true → ⊥) → position_from test n xs ≡ None
  none_from test n [] none = refl
  none_from test n (x ∷ xs) none = by_test (test x) refl (none_from test (n + 1) xs (λ place r there. none (suc place) r there))
    where
      by_test : (b : Bool) → test x ≡ b → position_from test (n + 1) xs ≡ None → cond b (Some n) (position_from test (n + 1) xs) ≡ None
      by_test true is rest = absurd (none zero x refl is)
      by_test false is rest = rest

  only_from : (test : X → Bool) (n : ℕ) (xs : List X) (place : ℕ) (r : X) → slice_get xs place ≡ Some r → test r ≡ true → ((p : ℕ) (q : X) → slice_get xs p ≡ Some q → test q ≡ true → p ≡ place)
      → position_from test n xs ≡ Some (n + place)
  only_from test n [] place r there is only = absurd (none-some r there)
  only_from test n (x ∷ xs) zero r there is only =
      ap (λ b. cond b (Some n) (position_from test (n + 1) xs)) (ap test (same_Some x r there) ∙ is) ∙ ap Some (omega arith)
  only_from test n (x ∷ xs) (suc place) r there is only = by_test (test x) refl (only_from test (n + 1) xs place r there is (λ p q at out. let same = only (suc p) q at out in omega (arith, same)))
    where
      by_test : (b : Bool) → test x ≡ b → position_from test (n + 1) xs ≡ Some (n + 1 + place) → cond b (Some n) (position_from test (n + 1) xs) ≡ Some (n + suc place)
      by_test true out rest = let first = only zero x refl out in absurd (omega (arith, first))
      by_test false out rest = rest ∙ ap Some (omega arith)

  -- none of a list passes
  fails_at : (test : X → Bool) (xs : List X) (place : ℕ) (r : X) → list_any test xs ≡ false → slice_get xs place ≡ Some r → test r ≡ false
  fails_at test [] place r none there = absurd (none-some r there)
  fails_at test (x ∷ xs) zero r none there = by_test (test x) refl none
    where
      by_test : (b : Bool) → test x ≡ b → (b || list_any test xs) ≡ false → test r ≡ false
      by_test true is none = absurd (cc)
      by_test false is none = ap test (sym (same_Some x r there)) ∙ is
  fails_at test (x ∷ xs) (suc place) r none there = by_test (test x) none (λ rest. fails_at test xs place r rest there)
    where
      by_test : (b : Bool) → (b || list_any test xs) ≡ false → (list_any test xs ≡ false → test r ≡ false) → test r ≡ false
      by_test true none rest = absurd (cc)
      by_test false none rest = rest none

  -- one of a list passes where it has a first one
  any_from : (test : X → Bool) (n : ℕ) (xs : List X) → is_some (position_from test n xs) ≡ list_any test xs
  any_from test n [] = refl
  any_from test n (x ∷ xs) = by_test (test x) (any_from test (n + 1) xs)
    where
      by_test : (b : Bool) → is_some (position_from test (n + 1) xs) ≡ list_any test xs → is_some (cond b (Some n) (position_from test (n + 1) xs)) ≡ (b || list_any test xs)
      by_test true rest = refl
      by_test false rest = rest

  pub any_there : (test : X → Bool) (xs : List X) → is_some (position test xs) ≡ list_any test xs
  any_there test xs = ap is_some (position_from-zero test xs) ∙ any_from test 0 xs

module _ (reads : List WaitingRead) (t : TicketsValue) (found : AreReadsFound reads t) where
  -- no place is found for the number
  pub none_out : (xid : ℕ) → ((place : ℕ) → FindsTicket t xid place → None ≡ Some place) → position (is_read_out xid) reads ≡ None
  none_out xid none = position_from-zero (is_read_out xid) reads ∙ none_from (is_read_out xid) 0 reads (λ place r there out. none-some place (none place (found place xid r there out)))

  -- a place is: the one there is out under the number, or none is
  pub out_there : (xid place : ℕ) (r : WaitingRead) → ((p : ℕ) → FindsTicket t xid p → Some place ≡ Some p) → slice_get reads place ≡ Some r → is_read_out xid r ≡ true → position (is_read_out xid) reads ≡ Some place
  out_there xid place r one there out =
      position_from-zero (is_read_out xid) reads ∙ only_from (is_read_out xid) 0 reads place r there out (λ p q at is. sym (same_Some place p (one p (found p xid q at is)))) ∙ ap Some (omega arith)

  pub not_there : (xid place : ℕ) (r : WaitingRead) → ((p : ℕ) → FindsTicket t xid p → Some place ≡ Some p) → slice_get reads place ≡ Some r → is_read_out xid r ≡ false → position (is_read_out xid) reads ≡ None
  not_there xid place r one there not =
      position_from-zero (is_read_out xid) reads
      ∙ none_from (is_read_out xid) 0 reads (λ p q at is.
      let same : place ≡ p = same_Some place p (one p (found p xid q at is)) in
      let that : r ≡ q = same_Some r q (sym there ∙ ap (slice_get reads) same ∙ at) in
      yes_no (is_read_out xid r) (ap (is_read_out xid) that ∙ is) not)

  -- ---- changes

  -- more is found
  pub still_found : (t' : TicketsValue) → KeepsFound t t' → AreReadsFound reads t'
  still_found t' kept = λ place xid r there out. kept xid place (found place xid r there out)

  -- one more, which waits
  pub found_pushed : (w : WaitingRead) → ((xid : ℕ) → is_read_out xid w ≡ false) → AreReadsFound (reads ++ w ∷ []) t
  found_pushed w waits = λ place xid r there out. by_place place xid r out (pushed reads w place r there)
    where
      by_place : (place xid : ℕ) (r : WaitingRead) → is_read_out xid r ≡ true → Pushed reads w place r → FindsTicket t xid place
      by_place place xid r out (Old there) = found place xid r there out
      by_place place xid r out (New at same) = absurd (yes_no (is_read_out xid r) out (ap (is_read_out xid) same ∙ waits xid))

  -- another one at a place: it is out as the one before was, or found there
  found_set : (place : ℕ) (r w : WaitingRead) → slice_get reads place ≡ Some r → ((xid : ℕ) → is_read_out xid w ≡ true → (is_read_out xid r ≡ true) ⊎ FindsTicket t xid place) → AreReadsFound (set reads place w) t
  found_set place r w at stays = λ p xid q there out. by_place p xid q there out (cases_eq p place)
    where
      by_case : (xid : ℕ) → (is_read_out xid r ≡ true) ⊎ FindsTicket t xid place → FindsTicket t xid place
      by_case xid (inl out) = found place xid r at out
      by_case xid (inr finds) = finds

      by_place : (p xid : ℕ) (q : WaitingRead) → slice_get (set reads place w) p ≡ Some q → is_read_out xid q ≡ true → (p ≡ place) ⊎ (p ≢ place) → FindsTicket t xid p
      by_place p xid q there out (inl same) =
          let is : w ≡ q = same_Some w q (sym (slice_get-set_same reads place r w at) ∙ ap (slice_get (set reads place w)) (sym same) ∙ there) in
          subst (FindsTicket t xid) (sym same) (by_case xid (stays xid (ap (is_read_out xid) is ∙ out)))
      by_place p xid q there out (inr other) = found p xid q (sym (slice_get-set_other reads place p w other) ∙ there) out

  -- it goes out under a number that stands for its place
  pub found_sent : (place own : ℕ) (r w : WaitingRead) → slice_get reads place ≡ Some r → FindsTicket t own place → OutUnder own r.read w.read → AreReadsFound (set reads place w) t
  found_sent place own r w at finds under = found_set place r w at (λ xid out. by_number xid (under xid out))
    where
      by_number : (xid : ℕ) → (is_read_out xid r ≡ true) ⊎ (xid ≡ own) → (is_read_out xid r ≡ true) ⊎ FindsTicket t xid place
      by_number xid (inl out) = inl out
      by_number xid (inr same) = inr (subst (λ n. FindsTicket t n place) (sym same) finds)

  -- one less
  pub found_without : (t' : TicketsValue) (place : ℕ) → place < length reads → ((xid p : ℕ) → p < place → FindsTicket t xid p → FindsTicket t' xid p) → ((xid p : ℕ) → place ≤ p → FindsTicket t xid (p + 1) → FindsTicket t' xid p) → AreReadsFound (remove reads place) t'
  found_without t' place within before behind = λ p xid r there out. by_place p xid r there out (cases_lt p place)
    where
      by_place : (p xid : ℕ) (r : WaitingRead) → slice_get (remove reads place) p ≡ Some r → is_read_out xid r ≡ true → (p < place) ⊎ (place ≤ p) → FindsTicket t' xid p
      by_place p xid r there out (inl low) = before xid p low (found p xid r (stood_before reads place p r within low there) out)
      by_place p xid r there out (inr high) = behind xid p high (found (p + 1) xid r (stood_behind reads place p r within high there) out)

  -- a number under which none is out is forgotten
  pub found_but : (t' : TicketsValue) (xid : ℕ) → list_any (is_read_out xid) reads ≡ false → ((x place : ℕ) → x ≢ xid → FindsTicket t x place → FindsTicket t' x place) → AreReadsFound reads t'
  found_but t' xid none others = λ place x r there out.
      others x place (λ same. yes_no (is_read_out x r) out (ap (λ n. is_read_out n r) same ∙ fails_at (is_read_out xid) reads place r none there)) (found place x r there out)

-- all begin again
pub found_again : (again : WaitingRead → WaitingRead) (reads : List WaitingRead) (t : TicketsValue) → ((xid : ℕ) (r : WaitingRead) → is_read_out xid (again r) ≡ false) → AreReadsFound (map again reads) t
found_again again reads t waits = λ place xid r there out. absurd (by_element xid r out (slice_get reads place) (sym (slice_get-map again reads place) ∙ there))
  where
    by_element : (xid : ℕ) (r : WaitingRead) → is_read_out xid r ≡ true → (o : Option WaitingRead) → option_map again o ≡ Some r → ⊥
    by_element xid r out None is = none-some r is
    by_element xid r out (Some q) is = yes_no (is_read_out xid r) out (ap (is_read_out xid) (sym (same_Some (again q) r is)) ∙ waits xid q)
