-- Pages whose numbers rise: where a number stands, and which page it has.
use Rattle.std.proofs.Common.{◌≡◌, ℕ, zero, suc, ◌+◌, ◌-◌, ◌<◌, ◌≤◌, ◌==◌, true, false, nat_lt, List, [], ◌∷◌, ◌++◌, length, get_or, take, drop, Option, Some, None, refl, sym, ap, subst, ◌∙◌, arith, inl, inr}
use Rattle.std.specs.Prelude.{slice_get, if◌then◌else◌}
use Rattle.std.specs.List.Sorted.{IsNonDecreasingBy, IsPartitionPoint}
use Rattle.std.proofs.lemmas.Bool.{cases_lt, ltb-true, ltb-false}
use Rattle.std.proofs.lemmas.Bool.Decides.{nat_tests}
use Rattle.std.proofs.lemmas.List.{take-append-drop, length-take, length-drop, get_or-take, get_or-drop, drop-drop, drop_all, get_or_default}
use Rattle.std.proofs.lemmas.Option.{slice_get_read, slice_get_past}
use Rattle.file_pages.specs.Pages.{RiseFrom, kept_page}
use Rattle.file_pages.specs.Places.{AreNumberedBelow, IsPagePlace}

abbrev pub Numbered : Type 0
Numbered = ℕ × List ℕ

-- ---- numbers that rise

pub rise_weaker : (low least : ℕ) (pages : List Numbered) → low ≤ least → RiseFrom least pages → RiseFrom low pages
rise_weaker low least [] less rise = tt
rise_weaker low least (page ∷ pages) less rise = let first = rise.0 in (omega (arith, less, first), rise.1)

pub rise_drop : (least n : ℕ) (pages : List Numbered) → RiseFrom least pages → RiseFrom least (drop n pages)
rise_drop least zero pages rise = rise
rise_drop least (suc n) [] rise = tt
rise_drop least (suc n) (page ∷ pages) rise =
    let first = rise.0 in
    rise_weaker least (page.0 + 1) (drop n pages) (omega (arith, first)) (rise_drop (page.0 + 1) n pages rise.1)

-- none is below the least
pub rise_above : (least : ℕ) (pages : List Numbered) → RiseFrom least pages → (i : ℕ) (d : Numbered) → i < length pages → least ≤ (get_or pages i d).0
rise_above least [] rise i d less = absurd (omega (arith, less))
rise_above least (page ∷ pages) rise zero d less = rise.0
rise_above least (page ∷ pages) rise (suc i) d less =
    let first = rise.0 in
    omega (arith, first, rise_above (page.0 + 1) pages rise.1 i d (omega (arith, less)))

pub rise_between : (least : ℕ) (pages : List Numbered) → RiseFrom least pages → IsNonDecreasingBy (λ (page : Numbered). page.0) pages
rise_between least [] rise i j d less within = absurd (omega (arith, within))
rise_between least (page ∷ pages) rise zero zero d less within = omega arith
rise_between least (page ∷ pages) rise zero (suc j) d less within = let above = rise_above (page.0 + 1) pages rise.1 j d (omega (arith, within)) in omega (arith, above)
rise_between least (page ∷ pages) rise (suc i) zero d less within = absurd (omega (arith, less))
rise_between least (page ∷ pages) rise (suc i) (suc j) d less within = rise_between (page.0 + 1) pages rise.1 i j d (omega (arith, less)) (omega (arith, within))

-- they rise from a number that the first is not below
pub rise_here : (least number : ℕ) (pages : List Numbered) → RiseFrom least pages → ((d : Numbered) → 0 < length pages → number ≤ (get_or pages 0 d).0) → RiseFrom number pages
rise_here least number [] rise first = tt
rise_here least number (page ∷ pages) rise first = (first page (omega arith), rise.1)

-- ---- numbers that are below one

pub below_by : (number : ℕ) (pages : List Numbered) → ((i : ℕ) (d : Numbered) → i < length pages → (get_or pages i d).0 < number) → AreNumberedBelow number pages
below_by number [] each = tt
below_by number (page ∷ pages) each = (each 0 page (omega arith), below_by number pages (λ i d less. each (suc i) d (omega (arith, less))))

pub below_append : (number : ℕ) (front back : List Numbered) → AreNumberedBelow number front → AreNumberedBelow number back → AreNumberedBelow number (front ++ back)
below_append number [] back below more = more
below_append number (page ∷ front) back below more = (below.0, below_append number front back below.1 more)

pub below_weaker : (low high : ℕ) (pages : List Numbered) → low ≤ high → AreNumberedBelow low pages → AreNumberedBelow high pages
below_weaker low high [] less below = tt
below_weaker low high (page ∷ pages) less below = let first = below.0 in (omega (arith, less, first), below_weaker low high pages less below.1)

-- ---- where a number stands

-- the first so many and those behind them
pub take_sum : (m n : ℕ) (pages : List Numbered) → take (m + n) pages ≡ take m pages ++ take n (drop m pages)
take_sum zero n pages = ap (λ k. take k pages) (let e : 0 + n ≡ n = omega arith in e)
take_sum (suc m) n [] = take_nil (suc m + n) ∙ sym (take_nil n)
  where
    take_nil : (k : ℕ) → take {A = Numbered} k [] ≡ []
    take_nil zero = refl
    take_nil (suc k) = refl
take_sum (suc m) n (page ∷ pages) = ap (λ k. take k (page ∷ pages)) (let e : suc m + n ≡ suc (m + n) = omega arith in e) ∙ ap (λ (ps : List Numbered). page ∷ ps) (take_sum m n pages)

pub point_is : (number : ℕ) (pages : List Numbered) (place : ℕ) → RiseFrom 0 pages → place ≤ length pages → IsPartitionPoint (λ (page : Numbered). nat_lt page.0 number ≡ true) (λ (page : Numbered). nat_lt page.0 number ≡ false) pages place → IsPagePlace number pages place
point_is number pages place rise within point = record {
  within = within;
  below = below_by number (take place pages) (λ i d less.
      let early : i < place = omega (arith, less, length-take place pages) in
      subst (λ (page : Numbered). page.0 < number) (sym (get_or-take place pages i d early)) (ltb-true _ number (point.0 i d (omega arith) early)));
  behind = rise_here 0 number (drop place pages) (rise_drop 0 place pages rise) (λ d some.
      let there : place < length pages = omega (arith, some, length-drop place pages) in
      subst (λ (page : Numbered). number ≤ page.0) (sym (get_or-drop place pages 0 d ∙ ap (λ k. get_or pages k d) (let e : place + 0 ≡ place = omega arith in e))) (ltb-false _ number (point.1 place d (omega arith) there)));
}

-- behind all others
pub place_last : (number : ℕ) (pages : List Numbered) (page : Numbered) → RiseFrom 0 pages → 0 < length pages → page ≡ get_or pages (length pages - 1) page → page.0 < number → IsPagePlace number pages (length pages)
place_last number pages page rise some last less = record {
  within = omega arith;
  below = below_by number (take (length pages) pages) (λ i d early.
      let inside : i < length pages = omega (arith, early, length-take (length pages) pages) in
      let most : (get_or pages i page).0 ≤ (get_or pages (length pages - 1) page).0 = rise_between 0 pages rise i (length pages - 1) page (omega (arith, inside)) (omega (arith, some)) in
      let top : (get_or pages (length pages - 1) page).0 ≡ page.0 = ap (λ (p : Numbered). p.0) (sym last) in
      let here : get_or (take (length pages) pages) i d ≡ get_or pages i page = get_or-take (length pages) pages i d inside ∙ get_or_default pages i d page inside in
      subst (λ (p : Numbered). p.0 < number) (sym here) (omega (arith, most, top, less)));
  behind = subst (λ (ps : List Numbered). RiseFrom number ps) (sym (drop_all (length pages) pages (omega arith))) tt;
}

-- at once, where the page that stands there is not below
pub place_here : (number : ℕ) (pages : List Numbered) (from : ℕ) (page : Numbered) → RiseFrom 0 pages → AreNumberedBelow number (take from pages) → from < length pages → page ≡ get_or pages from page → number ≤ page.0 → IsPagePlace number pages from
place_here number pages from page rise below within there least = record {
  within = omega (arith, within);
  below = below;
  behind = rise_here 0 number (drop from pages) (rise_drop 0 from pages rise) (λ d some.
      let here : get_or (drop from pages) 0 d ≡ page = get_or-drop from pages 0 d ∙ ap (λ k. get_or pages k d) (let e : from + 0 ≡ from = omega arith in e) ∙ get_or_default pages from d page within ∙ sym there in
      subst (λ (p : Numbered). number ≤ p.0) (sym here) least);
}

-- further on
pub place_further : (number : ℕ) (pages : List Numbered) (from more : ℕ) → AreNumberedBelow number (take from pages) → from ≤ length pages → IsPagePlace number (drop from pages) more → IsPagePlace number pages (from + more)
place_further number pages from more below within is =
    let inside = is.within in
    record {
      within = omega (arith, inside, length-drop from pages, within);
      below = subst (λ (ps : List Numbered). AreNumberedBelow number ps) (sym (take_sum from more pages)) (below_append number (take from pages) (take more (drop from pages)) below is.below);
      behind = subst (λ (ps : List Numbered). RiseFrom number ps) (drop-drop more from pages) is.behind;
    }

-- ---- which page it has

-- a number below the least has none
pub kept_above : (number least : ℕ) (pages : List Numbered) → RiseFrom least pages → number < least → kept_page number pages ≡ None
kept_above number least [] rise less = refl
kept_above number least (page ∷ pages) rise less =
    let first = rise.0 in
    let later = kept_above number (page.0 + 1) pages rise.1 (omega (arith, first, less)) in
    grind (arith, nat_tests)

-- nor one that all are below
pub kept_behind : (number : ℕ) (front back : List Numbered) → AreNumberedBelow number front → kept_page number (front ++ back) ≡ kept_page number back
kept_behind number [] back below = refl
kept_behind number (page ∷ front) back below =
    let first = below.0 in
    let later = kept_behind number front back below.1 in
    grind (arith, nat_tests)

-- what the page at a place has for a number
abbrev pub numbered_at : ℕ → Option Numbered → Option (List ℕ)
numbered_at number None = None
numbered_at number (Some page) = if page.0 == number then Some page.1 else None

kept_first : (number : ℕ) (pages : List Numbered) → RiseFrom number pages → kept_page number pages ≡ numbered_at number (slice_get pages 0)
kept_first number [] rise = refl
kept_first number (page ∷ pages) rise =
    let first = rise.0 in
    elim (cases_lt number page.0) [
      | inl above ↦ let none = kept_above number (page.0 + 1) pages rise.1 (omega (arith, above)) in grind (arith, nat_tests)
      | inr same ↦ grind (arith, nat_tests)
    ]

pub get_dropped : (place : ℕ) (pages : List Numbered) → slice_get (drop place pages) 0 ≡ slice_get pages place
get_dropped zero pages = refl
get_dropped (suc place) [] = refl
get_dropped (suc place) (page ∷ pages) = get_dropped place pages

pub kept_at : (number : ℕ) (pages : List Numbered) (place : ℕ) → IsPagePlace number pages place → kept_page number pages ≡ numbered_at number (slice_get pages place)
kept_at number pages place is =
    ap (kept_page number) (sym (take-append-drop place pages))
    ∙ kept_behind number (take place pages) (drop place pages) is.below
    ∙ kept_first number (drop place pages) is.behind
    ∙ ap (numbered_at number) (get_dropped place pages)

-- what a look at a number's place tells
module _ (number : ℕ) (pages : List Numbered) (place : ℕ) (is : IsPagePlace number pages place) where
  pub found_page : (page : Numbered) → place < length pages → page ≡ get_or pages place page → page.0 ≡ number → kept_page number pages ≡ Some page.1
  found_page page within there same =
      let got : slice_get pages place ≡ Some page = slice_get_read pages (length pages) place page refl within there in
      kept_at number pages place is ∙ ap (numbered_at number) got ∙ grind (arith, nat_tests)

  pub found_other : (page : Numbered) → place < length pages → page ≡ get_or pages place page → (page.0 ≡ number → ⊥) → kept_page number pages ≡ None
  found_other page within there other =
      let got : slice_get pages place ≡ Some page = slice_get_read pages (length pages) place page refl within there in
      kept_at number pages place is ∙ ap (numbered_at number) got ∙ grind (arith, nat_tests)

  pub found_none : length pages ≤ place → kept_page number pages ≡ None
  found_none past = kept_at number pages place is ∙ ap (numbered_at number) (slice_get_past pages place past)
